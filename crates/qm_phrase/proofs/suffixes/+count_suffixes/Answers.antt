-- A row that has nothing there is left as it is; else its branches and its root are taken there.
use Rattle.std.proofs.Common.{◌≡◌, ◌/◌, ◌<◌, ◌≤◌, ◌∷◌, ◌++◌, length, min, map, ap, sym, subst, rules, arith, ◌∙◌}
use Rattle.std.specs.List.{sum_by}
use Rattle.std.proofs.lemmas.List.{length-append}
use Rattle.qm_docset.specs.Entry.{Limits, from}
use Rattle.qm_phrase.specs.Places.{places_of, room_of, shift_of}
use Rattle.qm_phrase.specs.PhrasePrefix.{shared_count}
use Rattle.qm_phrase.specs.Suffixes.{AreSuffixes, suffix_lists}
use Rattle.qm_phrase.specs.declared.suffixes.Suffix.{Suffix}
use Rattle.qm_phrase.proofs.SuffixTrees.{AreSuffixes-joined, AreSuffixes-left, AreSuffixes-more, AreSuffixes-right, IsSuffix-root, IsTree-least}
use Rattle.qm_phrase.proofs.SuffixTrees.{NoneBefore-joined, NoneBefore-less, counts-ahead, fits-root, lists-ahead}
use Rattle.qm_phrase.proofs.suffixes.+count_suffixes.Goals as goal

pub returns-then-doc-root-clause-count : goal.returns-then-doc-root-clause-count
returns-then-doc-root-clause-count g t c =
    let left = c.split_at_mut-left.result.0.now in
    let root = c.in-Some.root.now in
    let right = c.in-Some.right.now in
    let is : c.args.row.now ≡ left ++ (root ∷ right) = c.split_at_mut-left.ensures.value ∙ ap (λ r. left ++ r) c.in-Some.ensures.cases.0 in
    let half : length left ≡ length (left ++ (root ∷ right)) / 2 = c.split_at_mut-left.ensures.front_len ∙ ap (λ r. length r / 2) is in
    let whole = subst (λ r. AreSuffixes g.P.DocSet r c.args.places.now) is c.requires.row in
    let none = counts-ahead g.P.DocSet g.met.P.DocSet.ascending (shift_of c.args.places.now) c.args.doc root.least_bound (places_of c.args.common.now)
    (left ++ (root ∷ right)) whole.each (IsTree-least left right root half whole.tree) c.if-doc-root.true in
    let f = shared_count (shift_of c.args.places.now) (places_of c.args.common.now) c.args.doc in
    sym (ap (min 4294967295) (ap (λ r. sum_by f (suffix_lists g.P.DocSet r)) is ∙ none))

pub returns-then-doc-root-clause-bound : goal.returns-then-doc-root-clause-bound
returns-then-doc-root-clause-bound g t c =
    let left = c.split_at_mut-left.result.0.now in
    let root = c.in-Some.root.now in
    let right = c.in-Some.right.now in
    let is : c.args.row.now ≡ left ++ (root ∷ right) = c.split_at_mut-left.ensures.value ∙ ap (λ r. left ++ r) c.in-Some.ensures.cases.0 in
    let half : length left ≡ length (left ++ (root ∷ right)) / 2 = c.split_at_mut-left.ensures.front_len ∙ ap (λ r. length r / 2) is in
    let whole = subst (λ r. AreSuffixes g.P.DocSet r c.args.places.now) is c.requires.row in
    IsTree-least left right root half whole.tree

pub returns-then-doc-root-clause-entries : goal.returns-then-doc-root-clause-entries
returns-then-doc-root-clause-entries g t c =
    let left = c.split_at_mut-left.result.0.now in
    let root = c.in-Some.root.now in
    let right = c.in-Some.right.now in
    let is : c.args.row.now ≡ left ++ (root ∷ right) = c.split_at_mut-left.ensures.value ∙ ap (λ r. left ++ r) c.in-Some.ensures.cases.0 in
    let half : length left ≡ length (left ++ (root ∷ right)) / 2 = c.split_at_mut-left.ensures.front_len ∙ ap (λ r. length r / 2) is in
    let whole = subst (λ r. AreSuffixes g.P.DocSet r c.args.places.now) is c.requires.row in
    lists-ahead g.P.DocSet g.met.P.DocSet.ascending c.args.doc root.least_bound (left ++ (root ∷ right)) whole.each
    (IsTree-least left right root half whole.tree) c.if-doc-root.true ∙ ap (λ r. map (from c.args.doc) (suffix_lists g.P.DocSet r)) (sym is)

pub count_suffixes-before-requires : goal.count_suffixes-before-requires
count_suffixes-before-requires g t c =
    let left = c.split_at_mut-left.result.0.now in
    let root = c.in-Some.root.now in
    let right = c.in-Some.right.now in
    let is : c.args.row.now ≡ left ++ (root ∷ right) = c.split_at_mut-left.ensures.value ∙ ap (λ r. left ++ r) c.in-Some.ensures.cases.0 in
    let half : length left ≡ length (left ++ (root ∷ right)) / 2 = c.split_at_mut-left.ensures.front_len ∙ ap (λ r. length r / 2) is in
    let whole = subst (λ r. AreSuffixes g.P.DocSet r c.args.places.now) is c.requires.row in
    let fewer : length left < length c.args.row.now = omega (arith, half, ap length is, length-append left (root ∷ right)) in
    let own = AreSuffixes-left g.P.DocSet left right root c.args.places.now half whole in
    λ κs lives. (omega (arith, fewer, c.decreases), (lives, (own, (c.requires.shift, (c.requires.common, c.requires.doc)))))

pub count_suffix-here-requires-clause-suffix : goal.count_suffix-here-requires-clause-suffix
count_suffix-here-requires-clause-suffix g t c =
    let left = c.split_at_mut-left.result.0.now in
    let root = c.in-Some.root.now in
    let right = c.in-Some.right.now in
    let is : c.args.row.now ≡ left ++ (root ∷ right) = c.split_at_mut-left.ensures.value ∙ ap (λ r. left ++ r) c.in-Some.ensures.cases.0 in
    let half : length left ≡ length (left ++ (root ∷ right)) / 2 = c.split_at_mut-left.ensures.front_len ∙ ap (λ r. length r / 2) is in
    let whole = subst (λ r. AreSuffixes g.P.DocSet r c.args.places.now) is c.requires.row in
    IsSuffix-root g.P.DocSet left right root whole.each

pub count_suffix-here-requires-clause-room : goal.count_suffix-here-requires-clause-room
count_suffix-here-requires-clause-room g t c =
    let left = c.split_at_mut-left.result.0.now in
    let root = c.in-Some.root.now in
    let right = c.in-Some.right.now in
    let is : c.args.row.now ≡ left ++ (root ∷ right) = c.split_at_mut-left.ensures.value ∙ ap (λ r. left ++ r) c.in-Some.ensures.cases.0 in
    let half : length left ≡ length (left ++ (root ∷ right)) / 2 = c.split_at_mut-left.ensures.front_len ∙ ap (λ r. length r / 2) is in
    let whole = subst (λ r. AreSuffixes g.P.DocSet r c.args.places.now) is c.requires.row in
    omega (arith, fits-root g.P.DocSet left right root c.args.places.now whole.fit, c.count_suffixes-before.ensures.room)

pub count_suffixes-behind-requires : goal.count_suffixes-behind-requires
count_suffixes-behind-requires g t c =
    let left = c.split_at_mut-left.result.0.now in
    let root = c.in-Some.root.now in
    let right = c.in-Some.right.now in
    let is : c.args.row.now ≡ left ++ (root ∷ right) = c.split_at_mut-left.ensures.value ∙ ap (λ r. left ++ r) c.in-Some.ensures.cases.0 in
    let half : length left ≡ length (left ++ (root ∷ right)) / 2 = c.split_at_mut-left.ensures.front_len ∙ ap (λ r. length r / 2) is in
    let whole = subst (λ r. AreSuffixes g.P.DocSet r c.args.places.now) is c.requires.row in
    let fewer : length right < length c.args.row.now = omega (arith, half, ap length is, length-append left (root ∷ right)) in
    let more : room_of c.args.places.now ≤ room_of c.count_suffix-here.new.places =
    omega (arith, c.count_suffixes-before.ensures.room, c.count_suffix-here.ensures.room) in
    let own = AreSuffixes-more g.P.DocSet right c.args.places.now c.count_suffix-here.new.places more
    (AreSuffixes-right g.P.DocSet left right root c.args.places.now half whole) in
    λ κs lives. (omega (arith, fewer, c.decreases), (lives, (own, (search rules, (search rules, c.requires.doc)))))

pub returns-clause-bound : goal.returns-clause-bound
returns-clause-bound g t c =
    let left = c.split_at_mut-left.result.0.now in
    let root = c.in-Some.root.now in
    let right = c.in-Some.right.now in
    let is : c.args.row.now ≡ left ++ (root ∷ right) = c.split_at_mut-left.ensures.value ∙ ap (λ r. left ++ r) c.in-Some.ensures.cases.0 in
    let half : length left ≡ length (left ++ (root ∷ right)) / 2 = c.split_at_mut-left.ensures.front_len ∙ ap (λ r. length r / 2) is in
    let whole = subst (λ r. AreSuffixes g.P.DocSet r c.args.places.now) is c.requires.row in
    let left_new = c.count_suffixes-before.new.row in
    let right_new = c.count_suffixes-behind.new.row in
    let own = c.count_suffix-here.new.suffix in
    let root_new : Suffix g.row.P.Denot = record { postings = own.postings; own_bound = own.own_bound; least_bound = c.min-root.result } in
    let least = NoneBefore-joined c.min-root.result left_new right_new root_new
    (NoneBefore-less c.count_suffixes-before.result.1 c.min-root.result left_new (omega (arith, c.min.ensures, c.min-root.ensures))
    c.count_suffixes-before.ensures.bound) (omega (arith, c.min.ensures, c.min-root.ensures))
    (NoneBefore-less c.count_suffixes-behind.result.1 c.min-root.result right_new (omega (arith, c.min-root.ensures)) c.count_suffixes-behind.ensures.bound) in
    least

pub returns-clause-row : goal.returns-clause-row
returns-clause-row g t c =
    let left = c.split_at_mut-left.result.0.now in
    let root = c.in-Some.root.now in
    let right = c.in-Some.right.now in
    let is : c.args.row.now ≡ left ++ (root ∷ right) = c.split_at_mut-left.ensures.value ∙ ap (λ r. left ++ r) c.in-Some.ensures.cases.0 in
    let half : length left ≡ length (left ++ (root ∷ right)) / 2 = c.split_at_mut-left.ensures.front_len ∙ ap (λ r. length r / 2) is in
    let whole = subst (λ r. AreSuffixes g.P.DocSet r c.args.places.now) is c.requires.row in
    let left_new = c.count_suffixes-before.new.row in
    let right_new = c.count_suffixes-behind.new.row in
    let own = c.count_suffix-here.new.suffix in
    let root_new : Suffix g.row.P.Denot = record { postings = own.postings; own_bound = own.own_bound; least_bound = c.min-root.result } in
    let least = NoneBefore-joined c.min-root.result left_new right_new root_new
    (NoneBefore-less c.count_suffixes-before.result.1 c.min-root.result left_new (omega (arith, c.min.ensures, c.min-root.ensures))
    c.count_suffixes-before.ensures.bound) (omega (arith, c.min.ensures, c.min-root.ensures))
    (NoneBefore-less c.count_suffixes-behind.result.1 c.min-root.result right_new (omega (arith, c.min-root.ensures)) c.count_suffixes-behind.ensures.bound) in
    let places = c.count_suffixes-behind.new.places in
    let half_new : length left_new ≡ length (left_new ++ (root_new ∷ right_new)) / 2 = omega (
      arith,
      half,
      c.count_suffixes-before.auto.row,
      c.count_suffixes-behind.auto.row,
      length-append left (root ∷ right),
      length-append left_new (root_new ∷ right_new),
    ) in
    let fits : (g.P.DocSet.limits own.postings).room ≤ room_of places = omega (
      arith,
      fits-root g.P.DocSet left right root c.args.places.now whole.fit,
      ap (λ (l : Limits). l.room) c.count_suffix-here.ensures.limits,
      c.count_suffixes-before.ensures.room,
      c.count_suffix-here.ensures.room,
      c.count_suffixes-behind.ensures.room,
    ) in
    let more : room_of c.count_suffixes-before.new.places ≤ room_of places =
    omega (arith, c.count_suffix-here.ensures.room, c.count_suffixes-behind.ensures.room) in
    let here = c.count_suffix-here.ensures.suffix in
    AreSuffixes-joined g.P.DocSet left_new right_new root_new places half_new least (record { valid = here.valid; bound = here.bound }) fits
    (AreSuffixes-more g.P.DocSet left_new c.count_suffixes-before.new.places places more c.count_suffixes-before.ensures.row)
    c.count_suffixes-behind.ensures.row
