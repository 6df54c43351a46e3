-- A term that begins with the prefix, as it is taken to a document.
use Rattle.std.proofs.Common.{◌≡◌, ℕ, ◌<◌, List, [], ◌∷◌, min, ap, sym, ◌∙◌, arith}
use Rattle.qm_combine.proofs.Uniting.{entries_of-ahead}
use Rattle.qm_docset.proofs.Gathering.{entries_of-from}
use Rattle.qm_docset.specs.Entry.{AreEntries, Entry, Limits, from, head_document, head_positions}
use Rattle.qm_docset.specs.declared.numbers.TheConstants.{TERMINATED}
use Rattle.qm_postings.specs.Positions.{shifted}
use Rattle.qm_phrase.specs.Phrase.{positions_at}
use Rattle.qm_phrase.specs.PhrasePrefix.{common_count}
use Rattle.qm_phrase.proofs.CommonSteps.{common-lacks}
use Rattle.qm_phrase.proofs.PhraseSteps.{positions_at-here}

-- the positions of a document where the cursor was taken there and found it
pub positions_at-found : (d : ℕ) (limits : Limits) (old new : List Entry) → AreEntries 0 limits new →
    new ≡ from d old → head_document new ≡ d → d < TERMINATED → head_positions new ≡ positions_at d old
positions_at-found d limits old new a is here below =
    sym (positions_at-here d limits new a here below) ∙ ap (positions_at d) is ∙ ap head_positions (entries_of-from d d old (omega arith))

-- and where it did not
pub positions_at-lacks : (d : ℕ) (limits : Limits) (old new : List Entry) →
    AreEntries 0 limits new → new ≡ from d old → d < head_document new → positions_at d old ≡ []
positions_at-lacks d limits old new a is past =
    sym (ap head_positions (entries_of-from d d old (omega arith))) ∙ ap (positions_at d) (sym is) ∙ ap head_positions (entries_of-ahead d limits new a past)

-- a term that lacks the document has no common place there
pub none-shared : (shift : ℕ) (positions common : List ℕ) → positions ≡ [] → 0 ≡ min 4294967295 (common_count (shifted shift positions ∷ common ∷ []))
none-shared shift positions common none =
    let lacks : common_count (shifted shift positions ∷ common ∷ []) ≡ 0 = ap (λ ps. common_count (shifted shift ps ∷ common ∷ [])) none
    ∙ common-lacks (common ∷ []) in
    omega (arith, lacks)

-- how many of some places a term has in a document
abbrev pub shared_with : ℕ → List ℕ → ℕ → List Entry → ℕ
shared_with shift common d es = common_count (shifted shift (positions_at d es) ∷ common ∷ [])
