-- The target's word has a member from the target on, or bounds by its end.
use Rattle.std.proofs.Common.{◌≡◌, ℕ, ◌+◌, ◌*◌, ◌/◌, ◌<◌, ◌≤◌, map, slice_get, arith, sym, ap, ◌∙◌}
use Rattle.qm_docset.specs.BitSet.{set_members_from}
use Rattle.qm_docset.specs.Entry.{from, head_document, plain}
use Rattle.qm_docset.specs.TinySet.{tiny_members}
use Rattle.qm_docset.proofs.BitSetMembers.{Lands, lands_in_word, lands_past_word, members-from}
use Rattle.qm_docset.proofs.MemberEntries.{first-map, none-map}
use Rattle.qm_docset.proofs.MembersLeft.{left-from, left-pop, behind_first}
use Rattle.qm_docset.proofs.bitset_docset.BitSetDocSetDocSet.seek_danger.Goals as goal
use Rattle.qm_docset.proofs.bitset_docset.BitSetDocSetDocSet.seek_danger.Goals.{In-Some, After-min-self}

-- where the word has a member
found : (c : In-Some) → (Lands c.args.self.now.docs c.max-from.result (64 * (c.max-from.result / 64) + c.in-Some.lowest)) ×
    (c.max-from.result ≤ 64 * (c.max-from.result / 64) + c.in-Some.lowest) × (64 * (c.max-from.result / 64) + c.in-Some.lowest < 2147483647)
found c =
    let first = c.max-from.result in
    let end : ℕ = 64 * (first / 64 + 1) in
    let read = first-map (λ x. 64 * (first / 64) + x) (tiny_members c.word_from-self.result) c.in-Some.lowest c.in-Some.ensures.lowest
    ∙ ap (λ xs. slice_get xs 0) c.word_from-self.ensures.members in
    lands_in_word c.args.self.now.docs first end (64 * (first / 64) + c.in-Some.lowest) c.requires.valid.documents read

-- the members at or past the target
cut : (c : In-Some) → map plain (set_members_from c.args.self.now.docs (64 * (c.max-from.result / 64) + c.in-Some.lowest))
    ≡ from c.args.target (map plain (set_members_from c.args.self.now.docs c.args.self.now.doc))
cut c =
    let docs = c.args.self.now.docs in
    (found c).0.entries ∙ ap (λ low. map plain (set_members_from docs low)) c.max-from.ensures ∙ sym (members-from docs c.args.self.now.doc c.args.target)

pub overflow_add-self-2 : goal.overflow_add-self-2
overflow_add-self-2 c = omega (arith, (found (goal.at.overflow_add-self-2 c).In-Some).2)

pub returns-then-self-target-clause-answer : goal.returns-then-self-target-clause-answer
returns-then-self-target-clause-answer c =
    let f = found (goal.at.returns-then-self-target-clause-answer c).In-Some in
    record { below_end = omega (arith, f.2); here = sym f.0.placed ∙ c.if-self-target.true }

pub returns-then-self-target-clause-entries : goal.returns-then-self-target-clause-entries
returns-then-self-target-clause-entries c = cut (goal.at.returns-then-self-target-clause-entries c).In-Some

pub returns-then-self-target-clause-placed : goal.returns-then-self-target-clause-placed
returns-then-self-target-clause-placed c =
    let docs = c.args.self.now.docs in
    let first = c.max-from.result in
    let word = c.word_from-self.result in
    let f = found (goal.at.returns-then-self-target-clause-placed c).In-Some in
    let left = left-from docs first word c.word_from-self.ensures.members in
    let rest = left-pop docs (first / 64) word c.pop_lowest.new.self c.pop_lowest.ensures.members c.in-Some.lowest c.in-Some.ensures.lowest in
    record {
      here = f.0.placed;
      behind = behind_first docs c.requires.valid.documents first (first / 64) word left
          (64 * (first / 64) + c.in-Some.lowest) (first / 64) c.pop_lowest.new.self f.0 rest.1;
      bucket = omega (arith, f.2);
    }

pub returns-else-self-target-clause-answer : goal.returns-else-self-target-clause-answer
returns-else-self-target-clause-answer c =
    let f = found (goal.at.returns-else-self-target-clause-answer c).In-Some in
    record {
      before_all = omega (arith, f.0.placed);
      past = λ below. omega (arith, f.1, c.max-from.ensures);
      at_end = λ ended. omega (arith, f.1, f.2, c.max-from.ensures);
    }

pub returns-else-self-target-clause-entries : goal.returns-else-self-target-clause-entries
returns-else-self-target-clause-entries c = cut (goal.at.returns-else-self-target-clause-entries c).In-Some

pub returns-else-self-target-clause-valid : goal.returns-else-self-target-clause-valid
returns-else-self-target-clause-valid c =
    record { documents = c.requires.valid.documents; within = (found (goal.at.returns-else-self-target-clause-valid c).In-Some).0.within }

-- where the word has none
passed : (c : After-min-self) →
    (map plain (set_members_from c.args.self.now.docs c.min-self.result) ≡ map plain (set_members_from c.args.self.now.docs c.max-from.result))
    × (c.min-self.result ≤ head_document (map plain (set_members_from c.args.self.now.docs c.min-self.result)))
passed c =
    let end : ℕ = 64 * (c.max-from.result / 64 + 1) in
    let start : c.max-from.result ≤ 2147483647 = omega (arith, c.requires.valid.within, c.requires.target, c.max-from.ensures) in
    lands_past_word c.args.self.now.docs c.max-from.result end c.min-self.result
    (none-map (λ x. 64 * (c.max-from.result / 64) + x) (tiny_members c.word_from-self.result) c.in_default.ensures.lowest
    ∙ ap (λ xs. slice_get xs 0) c.word_from-self.ensures.members) (omega arith) (omega arith) (omega arith) c.requires.valid.documents

pub returns-in_default-clause-answer : goal.returns-in_default-clause-answer
returns-in_default-clause-answer c = record {
  before_all = (passed (goal.at.returns-in_default-clause-answer c).After-min-self).1;
  past = λ below. omega (arith, c.max-from.ensures, c.min-self.ensures);
  at_end = λ ended. omega (arith, c.requires.valid.within, c.max-from.ensures, c.min-self.ensures);
}

pub returns-in_default-clause-entries : goal.returns-in_default-clause-entries
returns-in_default-clause-entries c =
    let docs = c.args.self.now.docs in
    (passed (goal.at.returns-in_default-clause-entries c).After-min-self).0
    ∙ ap (λ low. map plain (set_members_from docs low)) c.max-from.ensures ∙ sym (members-from docs c.args.self.now.doc c.args.target)
