use Rattle.std.proofs.Common.{◌≤◌, ◌*◌, List, ap, inl, inr, sym, subst, ◌∙◌}
use Rattle.qm_docset.specs.declared.numbers.TheConstants.{TERMINATED}
use Rattle.qm_postings.specs.Reading.{Reader}
use Rattle.qm_index.specs.Parts.{segments_of}
use Rattle.qm_script.specs.Parts.{document_count}
use Rattle.qm_script.specs.Prefixes.{has_failing}
use Rattle.qm_script.specs.ProgramNumbers.{most_segments}
use Rattle.qm_script.specs.Reached.{is_reached}
use Rattle.qm_script.specs.ScriptSegments.{script}
use Rattle.qm_script.specs.Served.{IsServed}
use Rattle.qm_script.proofs.CountedSegments.{count-narrowed}
use Rattle.qm_script.proofs.NarrowedScripts.{parts-behind}
use Rattle.qm_script.proofs.PartLemmas.{count-readers}
use Rattle.qm_script.proofs.corpus.Corpus.searched.Goals as goal

pub returns-in-Some-clause-few : goal.returns-in-Some-clause-few
returns-in-Some-clause-few c q served =
    let readers : List Reader = c.searcher-searcher.result.now.segments in
    let narrow = (subst (IsServed q c.args.self.now) c.in-Some.is served).segments in
    subst (λ n. n ≤ most_segments * TERMINATED)
    (sym (ap (λ s. document_count (segments_of s.segments)) c.deref.ensures
    ∙ count-narrowed q (script c.args.self.now) readers c.in-Some.narrowed.value.segments c.searcher-searcher.ensures.searched narrow ∙ count-readers readers))
    c.searcher-searcher.ensures.few

pub returns-in-None-clause-serve : goal.returns-in-None-clause-serve
returns-in-None-clause-serve c q served =
    let readers : List Reader = c.searcher-searcher.result.now.segments in
    let are = c.searcher-searcher.ensures.searched in
    elim (subst (IsServed q c.args.self.now) c.in-None.is served) [
      | inl whole ↦ inl (c.searcher-searcher.ensures.merged whole)
      | inr reached ↦ inr (inl (record {
        searched = are;
        reached = ap (λ ps. has_failing (is_reached ps) q)
            (sym (parts-behind (script c.args.self.now) readers are) ∙ c.searcher-searcher.ensures.parts) ∙ reached;
      }))
    ]

pub returns-in-None-clause-few : goal.returns-in-None-clause-few
returns-in-None-clause-few c q served =
    subst (λ n. n ≤ most_segments * TERMINATED) (sym (count-readers c.searcher-searcher.result.now.segments)) c.searcher-searcher.ensures.few
