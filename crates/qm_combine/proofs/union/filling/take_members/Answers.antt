-- One more member is taken through the window.
use Rattle.std.proofs.Common.{◌≡◌, ℕ, ◌+◌, ◌<◌, ◌||◌, nat_le, All, List, [], ◌∷◌, ◌++◌, fold, get_or, length, map, set, take, ap, arith}
use Rattle.std.proofs.Common.{refl, sym, true≢false, ◌∙◌, inl, inr}
use Rattle.std.proofs.lemmas.Bool.{cases_lt}
use Rattle.std.proofs.lemmas.List.{get_or_default, length-map, take_all}
use Rattle.std.proofs.lemmas.List.Elements.{All-set}
use Rattle.std.proofs.lemmas.List.Sums.{fold-append}
use Rattle.std.proofs.lemmas.Grind.{take-set_at}
use Rattle.std.proofs.lemmas.List.{map-append}
use Rattle.qm_docset.specs.Entry.{AreEntries, from, head_document}
use Rattle.qm_docset.specs.Gather.{scores_at}
use Rattle.qm_docset.specs.GatherFacts.{AreMembers-map, scores_at-nil}
use Rattle.qm_docset.specs.declared.numbers.TheConstants.{TERMINATED}
use Rattle.qm_combine.specs.Union.{least_head}
use Rattle.qm_combine.specs.Window.{window_combiner}
use Rattle.qm_combine.specs.Windowed.{scores_of}
use Rattle.qm_combine.proofs.EachMember.{map-set_same}
use Rattle.qm_combine.proofs.Refilled.{behind-more, done-more, least_head-cut, scores-more, scores_at-ended, some-append, unvisited, window_state-lacks}
use Rattle.qm_combine.proofs.Uniting.{least_head-le, least_head-push, room_left}
use Rattle.qm_combine.proofs.union.filling.take_members.Goals as goal

pub loop-member-init : goal.loop-member-init
loop-member-init g c = record {
  valid = c.requires.members.valid;
  placed = c.requires.members.placed;
  limits = refl;
  behind = refl;
  done = refl;
  least = refl;
  start = c.reset_until_last.ensures.start;
  until = c.reset_until_last.ensures.until;
  combiner = c.reset_until_last.ensures.combiner;
  beyond = λ d past. c.reset_until_last.ensures.documents d;
  documents = λ d below. c.reset_until_last.ensures.documents d ∙ sym (ap (λ (r : List ℕ). nat_le 1 (length r)) (scores_at-nil d));
  states = λ d below. window_state-lacks c.reset_until_last.new.self d (c.reset_until_last.ensures.documents d) ∙ c.reset_until_last.ensures.combiner
      ∙ sym (ap (fold g.C.ScoreCombiner.step (window_combiner c.args.window.now)) (scores_at-nil d));
}

pub take_in-requires-clause-first : goal.take_in-requires-clause-first
take_in-requires-clause-first g c =
    let olds = c.args.members.now in
    let xs = c.loop-member.members in
    let i = c.loop-member.member-index in
    let x = get_or xs i c.member-item.result in
    let inside : i < length xs = omega arith in
    let long : i < length olds = omega arith in
    let is = unvisited g.S.DocSet.entries 0 olds xs i x inside c.loop-member.invariant.behind (get_or_default xs i c.member-item.result x inside) in
    omega (
      arith,
      c.loop-member.invariant.start,
      c.requires.first,
      least_head-le g.S.DocSet.entries olds i x long,
      ap
          (λ z. head_document (g.S.DocSet.entries z)) is,
    )

pub take_in-requires-clause-room : goal.take_in-requires-clause-room
take_in-requires-clause-room g c = λ d.
    let olds = c.args.members.now in
    let xs = c.loop-member.members in
    let i = c.loop-member.member-index in
    let x = get_or xs i c.member-item.result in
    let inside : i < length xs = omega arith in
    let long : i < length olds = omega arith in
    let is = unvisited g.S.DocSet.entries 0 olds xs i x inside c.loop-member.invariant.behind (get_or_default xs i c.member-item.result x inside) in
    let all : All (λ m. AreEntries 0 (g.S.DocSet.limits m) (g.S.DocSet.entries m)) olds =
    λ k e below. g.met.S.DocSet.ascending _ (c.requires.members.valid k e below) in
    let fits = room_left g.S.DocSet.limits g.S.DocSet.entries olds i d x all is long c.requires.room in
    let clear = c.requires.cleared in
    elim (cases_lt d (c.args.first + c.args.span)) [
      | inl below ↦ record {
        start = clear.start;
        scores = scores_at d (take i (map g.S.DocSet.entries olds));
        state = c.loop-member.invariant.states d below ∙ ap (λ s. fold g.C.ScoreCombiner.step s (scores_at d (take i (map g.S.DocSet.entries olds)))) clear.is;
        fits = fits;
      }
      | inr past ↦ record {
        start = clear.start;
        scores = [];
        state = window_state-lacks c.loop-member.window d (c.loop-member.invariant.beyond d past) ∙ c.loop-member.invariant.combiner ∙ clear.is;
        fits = omega (arith, fits);
      }
    ]

pub loop-member-preserved : goal.loop-member-preserved
loop-member-preserved g c =
    let olds = c.args.members.now in
    let xs = c.loop-member.members in
    let i = c.loop-member.member-index in
    let r = c.member-item.result in
    let x = get_or xs i r in
    let y = c.take_in.new.scorer in
    let inv = c.loop-member.invariant in
    let inside : i < length xs = omega arith in
    let long : i < length olds = omega arith in
    let read = get_or_default xs i r x inside in
    let list = g.S.DocSet.entries in
    let end : ℕ = c.args.first + c.args.span in
    let cut : list y ≡ from end (list x) = c.take_in.ensures.left.entries in
    let grown : take (i + 1) (set xs i y) ≡ take i xs ++ y ∷ [] = take-set_at xs i (i + 1) y (omega arith) inside in
    let more : (d : ℕ) → scores_at d (take (i + 1) (map list olds)) ≡ scores_at d (take i (map list olds)) ++ scores_of d (list x) =
    scores-more list end olds xs i x inside inv.behind read long in
    record {
      valid = All-set g.S.DocSet.valid xs i y c.take_in.ensures.left.valid inv.valid;
      placed = All-set g.S.DocSet.placed xs i y c.take_in.ensures.left.placed inv.placed;
      limits = map-set_same g.S.DocSet.limits xs i y r inside c.take_in.ensures.left.limits ∙ inv.limits;
      behind = behind-more list end olds xs i x inside inv.behind read y;
      done = done-more list end olds xs i x inside inv.behind read long y cut inv.done;
      least = omega (
        arith,
        ap (λ zs. least_head (map list zs)) grown,
        ap least_head (map-append list (take i xs) (y ∷ [])),
        least_head-push
            (map list (take i xs)) (list y),
        inv.least,
        c.take_in.ensures.head,
        c.min-least.ensures,
      );
      start = c.take_in.ensures.taken.start ∙ inv.start;
      until = c.take_in.ensures.taken.until inv.until;
      combiner = c.take_in.ensures.taken.combiner ∙ inv.combiner;
      beyond = λ d past. c.take_in.ensures.taken.beyond d past ∙ inv.beyond d past;
      documents = λ d below.
          c.take_in.ensures.taken.documents d (omega (arith, inv.start)) ∙ ap (λ b. b || nat_le 1 (length (scores_of d (list x)))) (inv.documents d below)
          ∙ sym (ap (λ (s : List ℕ). nat_le 1 (length s)) (more d) ∙ some-append (scores_at d (take i (map list olds))) (scores_of d (list x)));
      states = λ d below.
          c.take_in.ensures.taken.states d (omega (arith, inv.start)) ∙ ap (λ s. fold g.C.ScoreCombiner.step s (scores_of d (list x))) (inv.states d below)
          ∙ sym (ap (fold g.C.ScoreCombiner.step (window_combiner c.args.window.now)) (more d)
          ∙ fold-append g.C.ScoreCombiner.step (window_combiner c.args.window.now) (scores_at d (take i (map list olds))) (scores_of d (list x)));
    }

pub returns-clause-documents : goal.returns-clause-documents
returns-clause-documents g c = λ d below.
    let i = c.loop-member.member-index in
    let olds = c.args.members.now in
    let ess = map g.S.DocSet.entries olds in
    let same_length : length c.loop-member.members ≡ length olds = c.loop-member.auto.members in
    let all : take i ess ≡ ess = take_all i ess (omega (arith, length-map olds g.S.DocSet.entries)) in
    c.loop-member.invariant.documents d below ∙ ap (λ r. nat_le 1 (length (scores_at d r))) all

pub returns-clause-states : goal.returns-clause-states
returns-clause-states g c = λ d below.
    let i = c.loop-member.member-index in
    let olds = c.args.members.now in
    let ess = map g.S.DocSet.entries olds in
    let same_length : length c.loop-member.members ≡ length olds = c.loop-member.auto.members in
    let all : take i ess ≡ ess = take_all i ess (omega (arith, length-map olds g.S.DocSet.entries)) in
    c.loop-member.invariant.states d below ∙ ap (λ r. fold g.C.ScoreCombiner.step (window_combiner c.args.window.now) (scores_at d r)) all

pub returns-clause-left : goal.returns-clause-left
returns-clause-left g c =
    let i = c.loop-member.member-index in
    let xs = c.loop-member.members in
    let olds = c.args.members.now in
    let list = g.S.DocSet.entries in
    let end : ℕ = c.args.first + c.args.span in
    let same_length : length xs ≡ length olds = c.loop-member.auto.members in
    let new_all : take i xs ≡ xs = take_all i xs (omega arith) in
    let old_all : take i olds ≡ olds = take_all i olds (omega arith) in
    sym (ap (map list) new_all) ∙ c.loop-member.invariant.done ∙ ap (λ zs. map (from end) (map list zs)) old_all

pub returns-clause-least : goal.returns-clause-least
returns-clause-least g c =
    let i = c.loop-member.member-index in
    let xs = c.loop-member.members in
    let same_length : length xs ≡ length c.args.members.now = c.loop-member.auto.members in
    c.loop-member.invariant.least ∙ ap (λ zs. least_head (map g.S.DocSet.entries zs)) (take_all i xs (omega arith))

pub returns-clause-behind : goal.returns-clause-behind
returns-clause-behind g c = λ d here.
    let olds = c.args.members.now in
    let i = c.loop-member.member-index in
    let inv = c.loop-member.invariant in
    let list = g.S.DocSet.entries in
    let ess = map list olds in
    let end : ℕ = c.args.first + c.args.span in
    let same_length : length c.loop-member.members ≡ length olds = c.loop-member.auto.members in
    let old_all : take i olds ≡ olds = take_all i olds (omega arith) in
    let all : take i ess ≡ ess = take_all i ess (omega (arith, length-map olds list)) in
    let ascending : All (λ m. AreEntries 0 (g.S.DocSet.limits m) (list m)) olds =
    λ k e below. g.met.S.DocSet.ascending _ (c.requires.members.valid k e below) in
    let members = AreMembers-map g.S.DocSet.limits list olds ascending in
    let least = inv.least ∙ ap least_head (inv.done ∙ ap (λ zs. map (from end) (map list zs)) old_all) in
    let cut = least_head-cut end ess in
    elim (cases_lt d end) [
      | inr beyond ↦ absurd (true≢false (sym here ∙ inv.beyond d beyond))
      | inl below ↦ elim (cases_lt d TERMINATED) [
        | inl document ↦ omega (arith, least, cut)
        | inr ended ↦
            let none = scores_at-ended d (map g.S.DocSet.limits olds) ess members ended in
            absurd (true≢false (sym here ∙ inv.documents d below ∙ ap (λ r. nat_le 1 (length (scores_at d r))) all
            ∙ ap (λ (r : List ℕ). nat_le 1 (length r)) none))
      ]
    ]
