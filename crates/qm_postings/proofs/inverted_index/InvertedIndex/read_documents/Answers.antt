-- The documents of the term's range are those that hold the term.
use Rattle.std.proofs.Common.{◌≡◌, ◌<◌, Some, ap, length, map, subst, sym, ◌∙◌}
use Rattle.std.specs.List.{slice_get}
use Rattle.qm_docset.specs.Documents.{AreDocuments}
use Rattle.qm_docset.specs.Entry.{plain}
use Rattle.qm_postings.specs.Kept.{PostingsRange, in_range}
use Rattle.qm_postings.specs.Reading.{Reader}
use Rattle.qm_postings.specs.Segment.{holders}
use Rattle.qm_postings.proofs.TermPlaces.{holders-place, placed_term, placed_within}
use Rattle.qm_postings.proofs.inverted_index.InvertedIndex.read_documents.Goals as goal
use Rattle.qm_postings.proofs.inverted_index.InvertedIndex.read_documents.Goals.{After-documents_part}

module _ (c : After-documents_part) where
  abbrev range : PostingsRange
  range = c.index-entry.result.now

  documents_are : c.documents_part.result.now ≡ in_range range c.reader.inside.documents.items
  documents_are = c.documents_part.ensures ∙ ap (in_range range) c.deref.ensures.value

  placed : slice_get (map (λ e. e.term) c.reader.inside.terms.items) c.in_ok-info.info.ordinal ≡ Some c.args.term.now
  placed = let Placed : Reader → Type 0 = λ v. slice_get v.terms c.in_ok-info.info.ordinal ≡ Some c.args.term.now in
      subst Placed (sym c.reader.view_is) c.in_ok-info.ensures.info.place

  within : c.in_ok-info.info.ordinal < length c.reader.inside.terms.items
  within = placed_within c.reader.inside.terms.items c.args.term.now c.in_ok-info.info.ordinal placed

  held : holders c.args.self.now.reader.now.segment c.args.term.now ≡ in_range range c.reader.inside.documents.items
  held =
      let inside = c.reader.inside in
      let terms = inside.terms.items in
      let place = c.in_ok-info.info.ordinal in
      let own = placed_term terms c.args.term.now place range c.index-entry.ensures placed in
      let Held : Reader → Type 0 = λ v. holders v.segment c.args.term.now ≡ in_range range inside.documents.items in
      subst Held c.reader.view_is (holders-place inside.schema inside.block_len (map (λ c. c.items) inside.lengths.items) inside.max_doc terms
      inside.documents.items inside.frequencies inside.positions.items place range c.args.term.now c.reader.invariant.0.index within
      c.index-entry.ensures own)

pub new-requires : goal.new-requires
new-requires c =
    let at = (goal.at.new-requires c).After-documents_part in
    let documents = c.reader.inside.documents.items in
    let Documents : PostingsRange → Type 0 = λ y. AreDocuments (in_range y documents) in
    subst AreDocuments (sym (documents_are at)) (subst Documents (sym c.index-entry.ensures)
    (c.reader.invariant.0.index.documents c.in_ok-info.info.ordinal (range at) (within at)))

pub returns-clause-lists : goal.returns-clause-lists
returns-clause-lists c =
    let at = (goal.at.returns-clause-lists c).After-documents_part in
    record {
      entries = c.new.ensures.entries ∙ ap (map plain) (documents_are at ∙ sym (held at));
      limits = c.new.ensures.limits;
      valid = c.new.ensures.valid;
      placed = tt;
    }
