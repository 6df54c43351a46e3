-- Readers that have a length id for each document cover terms.
use Rattle.std.proofs.Common.{◌≡◌, ℕ, ◌≤◌, All, length, get_or, replicate, ap, arith, subst, sym, ◌∙◌}
use Rattle.std.proofs.lemmas.List.{length-map, length-replicate}
use Rattle.std.proofs.lemmas.List.Elements.{All-map}
use Rattle.qm_docset.specs.Entry.{AreEntries}
use Rattle.qm_docset.specs.Lists.{lists}
use Rattle.qm_docset.specs.declared.docset.DocSet.{Ghosts}
use Rattle.qm_docset.specs.declared.numbers.TheConstants.{TERMINATED}
use Rattle.qm_phrase.specs.PhraseTerms.{lists_given, members_of, terms_given}
use Rattle.qm_phrase.specs.TermRows.{AreInside}
use Rattle.qm_phrase.specs.declared.phrase_terms.PhraseTerms.{PhraseTerms}
use Rattle.qm_phrase.proofs.TermRows.{All-each_of}
use Rattle.qm_postings.specs.FieldNorms.{norm_ids}
use Rattle.qm_postings.specs.declared.fieldnorm.FieldNormReader.{FieldNormReader}
use Rattle.qm_term.specs.TermScorer.{AreCovered}
use Rattle.cases_postings.proofs.EntriesBelow.{all-below_end}

pub covered-constant : {P : Type 0} (D : Ghosts P) → ((x : P) → D.valid x → AreEntries 0 (D.limits x) (D.entries x)) → (terms : PhraseTerms P) (count id : ℕ)
    (reader : FieldNormReader) → norm_ids reader ≡ replicate count id → All D.valid (members_of terms) → TERMINATED ≤ count →
    All (AreCovered (norm_ids reader)) (lists_given D terms)
covered-constant D law terms count id reader ids valid enough =
    let members = members_of terms in
    let long : length (norm_ids reader) ≡ count = ap length ids ∙ length-replicate count id in
    let each : All (AreCovered (norm_ids reader)) (lists D members) = All-map (AreCovered (norm_ids reader)) D.entries members (λ k d below. λ n e within.
    let least = all-below_end 0 _ _ (law (get_or members k d) (valid k d below)) n e within in
    omega (arith, long, least, enough)) in
    let inside = subst (λ n. AreInside n (terms_given terms)) (sym (length-map members D.entries)) terms.inside in
    All-each_of (AreCovered (norm_ids reader)) (lists D members) (terms_given terms) inside each
