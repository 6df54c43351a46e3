-- A blank, or the end of the line, ends a word where one began before it.
use Rattle.std.proofs.Common.{◌≡◌, ◌∷◌, [], ◌<◌, ◌+◌, ◌-◌, false, true, arith, ap, sym, subst, ◌∙◌, drop, take, get_or, length, refl, inl, inr}
use Rattle.std.proofs.lemmas.Bool.{cases_lt}
use Rattle.std.proofs.lemmas.List.{append-nil}
use Rattle.std.proofs.lemmas.Str.{IsCharBoundary-after_ascii, IsCharBoundary-before_ascii, IsCharBoundary-end}
use Rattle.std.specs.Str.{IsCharBoundary}
use Rattle.qm_script.specs.FirstWord.{IsFirstWord}
use Rattle.qm_script.specs.Script.{is_blank, line_words, non_empty}
use Rattle.qm_script.proofs.BlankLemmas.{HasNoBlank, blank-ascii, last-word, no-word-here, no-word-left, piece-length, some-word, word-ends}
use Rattle.qm_script.proofs.words.find_word.Goals as goal
use Rattle.qm_script.proofs.words.find_word.Goals.{then-is_blank+else-start-at, else-is_blank}

pub returns-then-start-at-clause-found : goal.returns-then-start-at-clause-found
returns-then-start-at-clause-found c =
    let line = c.args.line.now in
    let at = c.loop-at.at in
    let start = c.loop-at.start in
    let same = c.as_bytes-bytes.ensures.value in
    let within : at < length line = omega (arith, c.loop-at-test.true, ap length same) in
    let blank : is_blank (get_or line at 0) ≡ true = ap (λ bs. is_blank (get_or bs at 0)) (sym same) ∙ sym c.is_blank.ensures ∙ c.if-is_blank.true in
    let some : 0 < length (take (at - start) (drop start line)) =
    omega (arith, c.if-start-at.true, piece-length line start at c.loop-at.invariant.order (omega arith)) in
    record {
      order = c.if-start-at.true;
      cut_before = c.loop-at.invariant.boundary;
      cut_behind = IsCharBoundary-before_ascii line at within (blank-ascii (get_or line at 0) blank);
      words = sym c.loop-at.invariant.words ∙ word-ends line start at c.loop-at.invariant.order within c.loop-at.invariant.none blank
          ∙ some-word (take (at - start) (drop start line)) (line_words (drop (at + 1) line)) some
          ∙ ap (λ rest. take (at - start) (drop start line) ∷ rest) (sym (no-word-here line at within blank));
    }

pub loop-at-preserved : goal.loop-at-preserved
loop-at-preserved c =
    let line = c.args.line.now in
    let at = c.loop-at.at in
    let start = c.loop-at.start in
    let same = c.as_bytes-bytes.ensures.value in
    let within : at < length line = omega (arith, c.loop-at-test.true, ap length same) in
    let told : c.is_blank.result ≡ is_blank (get_or line at 0) = c.is_blank.ensures ∙ ap (λ bs. is_blank (get_or bs at 0)) same in
    elim c.if-is_blank.branch [
      | then-is_blank+else-start-at w ↦
          let blank : is_blank (get_or line at 0) ≡ true = sym told ∙ w.if-is_blank.true in
          let here : start ≡ at = omega (arith, w.if-start-at.false, c.loop-at.invariant.order) in
          record {
            order = omega (arith, w.start-is);
            boundary = subst (λ n. IsCharBoundary line n) (sym w.start-is)
                (IsCharBoundary-after_ascii line at c.utf8.line within (blank-ascii (get_or line at 0) blank));
            none = λ k least below. absurd (omega (arith, w.start-is));
            words = ap (λ n. line_words (drop n line)) w.start-is ∙ sym (no-word-here line at within blank)
                ∙ ap (λ n. line_words (drop n line)) (sym here) ∙ c.loop-at.invariant.words;
          }
      | else-is_blank w ↦
          let other : is_blank (get_or line at 0) ≡ false = sym told ∙ w.if-is_blank.false in
          record {
            order = omega (arith, w.start-is, c.loop-at.invariant.order);
            boundary = subst (λ n. IsCharBoundary line n) (sym w.start-is) c.loop-at.invariant.boundary;
            none = λ k least below. elim (cases_lt k at) [
              | inl earlier ↦ c.loop-at.invariant.none k (omega (arith, w.start-is)) earlier
              | inr last ↦ let is : at ≡ k = omega arith in subst (λ n. is_blank (get_or line n 0) ≡ false) is other
            ];
            words = ap (λ n. line_words (drop n line)) w.start-is ∙ c.loop-at.invariant.words;
          }
    ]

pub returns-then-start-bytes-clause-found : goal.returns-then-start-bytes-clause-found
returns-then-start-bytes-clause-found c =
    let line = c.args.line.now in
    let start = c.loop-at.start in
    let size = ap length c.as_bytes-bytes.ensures.value in
    let order : start < length line = omega (arith, c.if-start-bytes.true, size) in
    let none : HasNoBlank line start (length line) = λ k least below. c.loop-at.invariant.none k least (omega (arith, c.loop-at-test.false, size)) in
    let word = take (length line - start) (drop start line) in
    let some : 0 < length word = omega (arith, piece-length line start (length line) (omega arith) (omega arith)) in
    subst (λ n. IsFirstWord line c.args.from start n) (sym size) (record {
      order = order;
      cut_before = c.loop-at.invariant.boundary;
      cut_behind = IsCharBoundary-end line;
      words = sym c.loop-at.invariant.words ∙ last-word line start (omega arith) none ∙ sym (append-nil (non_empty (word ∷ []))) ∙ some-word word [] some
          ∙ ap (λ rest. word ∷ rest) (sym (no-word-left line (length line) refl));
    })
