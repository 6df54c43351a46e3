use Rattle.std.proofs.Common.{◌≡◌, ℕ, List, ap, sym, ◌∙◌, length, map, subst}
use Rattle.std.proofs.lemmas.List.{length-map}
use Rattle.qm_docset.specs.ListFacts.{map-map}
use Rattle.qm_index.specs.Indexed.{AreSearched, all_segments, indexed}
use Rattle.qm_index.specs.Parts.{segments_of}
use Rattle.birchagain.specs.Body.{body_term}
use Rattle.birchagain.specs.CutWords.{words_from}
use Rattle.birchagain.specs.Holding.{holder_count}
use Rattle.birchagain.proofs.HolderCounts.{held-searched}
use Rattle.birchagain.proofs.Spaces.{words-count}
use Rattle.birchagain.proofs.holders.frequencies.Goals as goal

pub returns-clause-counts : goal.returns-clause-counts
returns-clause-counts c =
    let readers = c.segment_readers-segments.result.now in
    let by : List ℕ → ℕ = λ w. holder_count (body_term w) (segments_of readers) in
    let words = ap (map (λ w. w.now)) c.as_slice.ensures.value ∙ c.in_ok-words.ensures.words in
    let all : List ℕ → ℕ = λ w. holder_count (body_term w) (all_segments (indexed c.args.index.now)) in
    let same : (w : List ℕ) → by w ≡ all w = λ w. held-searched (body_term w) (indexed c.refresh.new.self) readers (subst (AreSearched (indexed c.refresh.new.self)) (sym c.segment_readers-segments.ensures.segments) c.searcher.ensures.searched)
    ∙ ap (λ s. holder_count (body_term w) (all_segments s)) c.in_ok-refresh.ensures.documents in
    c.in_ok-counts.ensures.counts ∙ sym (map-map by (λ w. w.now) c.as_slice.result.now) ∙ ap (map by) words
    ∙ (λ i. map (λ w. same w i) (words_from 0 c.args.ends.now c.args.bytes.now))

pub returns-clause-count : goal.returns-clause-count
returns-clause-count c =
    let words = ap (map (λ w. w.now)) c.as_slice.ensures.value ∙ c.in_ok-words.ensures.words in
    ap length c.in_ok-counts.ensures.counts
    ∙ length-map c.as_slice.result.now (λ w. holder_count (body_term w.now) (segments_of c.segment_readers-segments.result.now))
    ∙ sym (length-map c.as_slice.result.now (λ w. w.now)) ∙ ap length words ∙ words-count 0 c.args.ends.now c.args.bytes.now
