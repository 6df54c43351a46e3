-- The offset is kept, and the sums of all that is left fit as before.
use Rattle.std.proofs.Common.{◌+◌, ◌≤◌, ℕ, All, List, [], ◌∷◌, refl, sym, subst, ap, ◌∙◌}
use Rattle.std.proofs.lemmas.List.Elements.{All-drop, All-head, All-nil}
use Rattle.qm_docset.specs.Entry.{Entry, head_positions}
use Rattle.qm_phrase.specs.PostingsWithOffset.{offset_of, inner_postings}
use Rattle.qm_postings.specs.Positions.{shifted}
use Rattle.example_callers.proofs.phrase_callers.positions_behind_buffer.Goals as goal

-- what holds of the positions of each entry holds of those of the first
All-head_positions : (P : ℕ → Type 0) (es : List Entry) → All (λ e. All P e.positions) es → All P (head_positions es)
All-head_positions P [] each = All-nil P
All-head_positions P (e ∷ es) each = All-head (λ (e : Entry). All P e.positions) e es each

pub positions-requires-clause-sums : goal.positions-requires-clause-sums
positions-requires-clause-sums g c =
    let same = (c.fill_buffer.ensures.kept c.args.postings.now (record { offset = refl; postings = λ p kept. kept })).offset in
    let fits : ℕ → Type 0 = λ p. p + offset_of c.args.postings.now ≤ 4294967295 in
    let left = subst (All (λ (e : Entry). All fits e.positions)) (sym c.fill_buffer.ensures.entries)
    (All-drop (λ (e : Entry). All fits e.positions) 64 _ c.requires.sums) in
    subst (λ n. All (λ p. p + n ≤ 4294967295) (head_positions (g.P.DocSet.entries (inner_postings c.fill_buffer.new.self))))
    (sym same) (All-head_positions fits _ left)

pub returns-then-doc-lt-TERMINATED : goal.returns-then-doc-lt-TERMINATED
returns-then-doc-lt-TERMINATED g c =
    let same = (c.fill_buffer.ensures.kept c.args.postings.now (record { offset = refl; postings = λ p kept. kept })).offset in
    c.positions.ensures.positions ∙ ap (λ n. shifted n (head_positions (g.P.DocSet.entries (inner_postings c.fill_buffer.new.self)))) same
    ∙ ap (λ es. shifted (offset_of c.args.postings.now) (head_positions es)) (sym c.positions.ensures.entries)
