-- The range of the info's term is a range of the arrays of all postings.
use Rattle.qm_postings.specs.Frequencies.{listed}
use Rattle.std.proofs.Common.{ℕ, [], List, ◌<◌, ◌≤◌, cond, sum, length, ◌≡◌, ◌+◌, Some, get_or, map, true, drop, sym, subst, ap, ◌∙◌, arith}
use Rattle.std.specs.Prelude.{All, take}
use Rattle.std.specs.Int.{div_ceil}
use Rattle.std.proofs.lemmas.List.{get_or_read}
use Rattle.std.specs.List.{slice_get}
use Rattle.qm_docset.specs.Documents.{AreDocuments}
use Rattle.qm_docset.specs.Entry.{Limits, documents as documents_of}
use Rattle.qm_schema.specs.Option.{has_positions}
use Rattle.qm_schema.specs.Term.{TermKey}
use Rattle.qm_postings.specs.Blocks.{HaveLeastIds, block_read, term_blocks}
use Rattle.qm_postings.specs.Kept.{all_infos, PostingsRange, greatest, in_range, positions_in, posted_of, segment_from}
use Rattle.qm_postings.specs.Deletions.{left_out}
use Rattle.qm_postings.specs.FieldIndex.{greatest_frequency, reading}
use Rattle.qm_postings.specs.Reading.{Reader}
use Rattle.qm_postings.specs.Segment.{postings_of, reads_positions, without}
use Rattle.qm_postings.specs.Positions.{ArePositions}
use Rattle.qm_postings.specs.SegmentPostings.{postings_blocks, postings_left}
use Rattle.qm_postings.specs.Stored.{stored_entries}
use Rattle.qm_postings.proofs.ArrayEntries.{documents-stored}
use Rattle.qm_postings.proofs.BlocksOfTerms.{infos_at, infos_inside, least_ids-column, starts_each, term_blocks-place, term_blocks-without}
use Rattle.qm_postings.proofs.TermPlaces.{greatest_frequency-place, placed_term, placed_within, postings_of-place}
use Rattle.qm_postings.proofs.TermPositions.{asked_ascend, asked_enough, asked_read, read_counted, room-greatest}
use Rattle.qm_postings.proofs.HeldTerms.{in_range-length}
use Rattle.qm_postings.proofs.inverted_index.InvertedIndex.read_postings_from_terminfo.Goals as goal

pub index-entry-requires : goal.index-entry-requires
index-entry-requires c =
    let inside = c.reader.inside in
    let terms = inside.terms.items in
    let place = c.args.info.now.ordinal in
    let Placed : Reader → Type 0 = λ v. slice_get v.terms place ≡ Some c.requires.0 in
    let within = placed_within terms c.requires.0 place (subst Placed (sym c.reader.view_is) c.requires.1.place) in
    omega (arith, within, inside.terms.ok.0)

pub documents_part-requires : goal.documents_part-requires
documents_part-requires c =
    let inside = c.reader.inside in
    let terms = inside.terms.items in
    let place = c.args.info.now.ordinal in
    let Placed : Reader → Type 0 = λ v. slice_get v.terms place ≡ Some c.requires.0 in
    let within = placed_within terms c.requires.0 place (subst Placed (sym c.reader.view_is) c.requires.1.place) in
    let r : PostingsRange = c.index-entry.result.now in
    let known = subst (λ (y : PostingsRange). y.start + y.count ≤ length inside.documents.items)
    (sym c.index-entry.ensures) (c.reader.invariant.0.index.within place r within) in
    omega (arith, known, ap length c.deref.ensures.value)

pub frequencies_part-requires : goal.frequencies_part-requires
frequencies_part-requires c =
    let inside = c.reader.inside in
    let terms = inside.terms.items in
    let place = c.args.info.now.ordinal in
    let Placed : Reader → Type 0 = λ v. slice_get v.terms place ≡ Some c.requires.0 in
    let within = placed_within terms c.requires.0 place (subst Placed (sym c.reader.view_is) c.requires.1.place) in
    let r : PostingsRange = c.index-entry.result.now in
    let known = subst (λ (y : PostingsRange). y.start + y.count ≤ length inside.documents.items)
    (sym c.index-entry.ensures) (c.reader.invariant.0.index.within place r within) in
    omega (arith, known, c.reader.invariant.0.index.paired)

pub positions_asked-requires : goal.positions_asked-requires
positions_asked-requires c =
    let inside = c.reader.inside in
    let terms = inside.terms.items in
    let place = c.args.info.now.ordinal in
    let Placed : Reader → Type 0 = λ v. slice_get v.terms place ≡ Some c.requires.0 in
    let within = placed_within terms c.requires.0 place (subst Placed (sym c.reader.view_is) c.requires.1.place) in
    let r : PostingsRange = c.index-entry.result.now in
    let known = subst (λ (y : PostingsRange). y.positions_start + y.positions_count ≤ length inside.positions.items)
    (sym c.index-entry.ensures) (c.reader.invariant.0.positions.within place r within) in
    omega (arith, known, ap length c.deref-2.ensures.value)

pub new-requires : goal.new-requires
new-requires c =
    let inside = c.reader.inside in
    let terms = inside.terms.items in
    let place = c.args.info.now.ordinal in
    let Placed : Reader → Type 0 = λ v. slice_get v.terms place ≡ Some c.requires.0 in
    let within = placed_within terms c.requires.0 place (subst Placed (sym c.reader.view_is) c.requires.1.place) in
    let r : PostingsRange = c.index-entry.result.now in
    let here = c.index-entry.ensures in
    let documents = inside.documents.items in
    let frequencies = inside.frequencies in
    let places = inside.positions.items in
    let asked = has_positions c.args.option in
    let index = c.reader.invariant.0.index in
    let Documents : PostingsRange → Type 0 = λ y. AreDocuments (in_range y documents) in
    let Most : PostingsRange → Type 0 = λ y. y.most ≡ greatest (in_range y frequencies) in
    let documents_are : c.documents_part.result.now ≡ in_range r documents = c.documents_part.ensures ∙ ap (in_range r) c.deref.ensures.value in
    let frequencies_are : (listed c.frequencies_part.result) ≡ in_range r frequencies = c.frequencies_part.ensures in
    let positions_are : c.positions_asked.result.now ≡ cond asked (positions_in r places) [] = c.positions_asked.ensures
    ∙ (λ i. cond (c.has_positions.ensures i) (positions_in r (c.deref-2.ensures.value i)) []) in
    let known : r.start + r.count ≤ length documents =
    subst (λ (y : PostingsRange). y.start + y.count ≤ length documents) (sym here) (index.within place r within) in
    let long : length (listed c.frequencies_part.result) ≡ length c.documents_part.result.now =
    ap length frequencies_are ∙ in_range-length r frequencies (omega (arith, known, index.paired))
    ∙ sym (in_range-length r documents known) ∙ sym (ap length documents_are) in
    let ArePlaced : List ℕ → List ℕ → List ℕ → Type 0 = λ xs ys zs. All (λ e. ArePositions e.positions) (stored_entries c.freq_reading.result xs ys zs) in
    let placed : ArePlaced (in_range r documents) (in_range r frequencies) (cond asked (positions_in r places) []) =
    asked_ascend inside.schema terms documents frequencies places place r c.reader.invariant.0.positions within here c.freq_reading.result asked in
    let most : c.entry.inside.max_term_freq ≡ greatest (listed c.frequencies_part.result) = ap (λ (y : PostingsRange). y.most) c.entry.view_is
    ∙ subst Most (sym here) (index.most place r within) ∙ ap greatest (sym frequencies_are) in
    let columns = map (λ c. c.items) inside.lengths.items in
    let count : c.div_ceil.result ≡ div_ceil r.count inside.block_len = c.div_ceil.ensures
    ∙ ap (λ (y : PostingsRange). div_ceil y.count inside.block_len) c.entry.view_is in
    let starts_at : c.index.result.now ≡ get_or inside.block_starts.items place 0 =
    get_or_read inside.block_starts.items place c.index.result.now (omega (
      arith,
      within,
      starts_each inside.block_len columns
          terms documents frequencies inside.block_starts.items inside.blocks.items c.reader.invariant.0.blocks,
    )) c.index.ensures 0 in
    let blocks_are : c.blocks_from.result.now
    ≡ all_infos inside.block_len (get_or columns r.term.field []) c.documents_part.result.now (listed c.frequencies_part.result) =
    c.blocks_from.ensures ∙ (λ i. take (count i) (drop (starts_at i) (c.deref-3.ensures.value i)))
    ∙ infos_at inside.block_len columns terms documents frequencies inside.block_starts.items
    inside.blocks.items place r c.reader.invariant.0.blocks within here (in_range-length r documents known)
    ∙ (λ i. all_infos inside.block_len (get_or columns r.term.field []) (sym documents_are i) (sym frequencies_are i)) in
    record {
      documents = subst AreDocuments (sym documents_are) (subst Documents (sym here) (index.documents place r within));
      frequencies = long;
      block_len = c.reader.invariant.0.cut;
      ids = get_or columns r.term.field [];
      blocks = blocks_are;
      room = room-greatest c.entry.inside.max_term_freq c.freq_reading.result
          c.documents_part.result.now (listed c.frequencies_part.result) c.positions_asked.result.now most;
      positions = subst (λ xs. ArePlaced xs (listed c.frequencies_part.result) c.positions_asked.result.now) (sym documents_are)
          (subst (λ ys. ArePlaced (in_range r documents) ys c.positions_asked.result.now) (sym frequencies_are)
          (subst (ArePlaced (in_range r documents) (in_range r frequencies)) (sym positions_are) placed));
      enough = λ some.
          let enough = asked_enough inside.schema terms documents frequencies places place r c.reader.invariant.0.positions within here asked
          (subst (λ zs. 0 < length zs) positions_are some) in
          omega (arith, enough.1, ap sum frequencies_are, ap length positions_are);
    }

pub returns-clause-lists : goal.returns-clause-lists
returns-clause-lists c =
    λ term info.
    let inside = c.reader.inside in
    let terms = inside.terms.items in
    let place = c.args.info.now.ordinal in
    let r : PostingsRange = c.index-entry.result.now in
    let here = c.index-entry.ensures in
    let Placed : Reader → Type 0 = λ v. slice_get v.terms place ≡ Some term in
    let placed = subst Placed (sym c.reader.view_is) info.place in
    let within = placed_within terms term place placed in
    let own = placed_term terms term place r here placed in
    let documents = inside.documents.items in
    let frequencies = inside.frequencies in
    let places = inside.positions.items in
    let option = c.args.option in
    let schema = sym (ap (λ v. v.segment.schema) c.reader.view_is) in
    let field = sym info.held.0 in
    let read : c.freq_reading.result ≡ reading inside.schema option term.field = c.freq_reading.ensures ∙ (λ i. reading (schema i) option (field i)) in
    let columns = map (λ c. c.items) inside.lengths.items in
    let index = c.reader.invariant.0.index in
    let Read : TermKey →
    Type 0 = λ t. cond (reads_positions inside.schema option t.field) (positions_in r places) [] ≡ cond (has_positions option) (positions_in r places) [] in
    let read_too : Read term =
    subst Read own (asked_read inside.schema terms documents frequencies places place r c.reader.invariant.0.positions within here option) in
    let documents_are : c.documents_part.result.now ≡ in_range r documents = c.documents_part.ensures ∙ ap (in_range r) c.deref.ensures.value in
    let frequencies_are : (listed c.frequencies_part.result) ≡ in_range r frequencies = c.frequencies_part.ensures in
    let positions_are : c.positions_asked.result.now ≡ cond (reads_positions inside.schema option term.field) (positions_in r places) [] =
    c.positions_asked.ensures ∙ (λ i. cond (c.has_positions.ensures i) (positions_in r (c.deref-2.ensures.value i)) []) ∙ sym read_too in
    let postings =
    postings_of-place inside.schema inside.block_len columns inside.max_doc terms documents frequencies places place r term option index within here own in
    let most =
    greatest_frequency-place inside.schema inside.block_len columns inside.max_doc terms documents frequencies places place r term index within here own in
    let Room : ℕ → Limits = λ n. record { top = 0; room = n } in
    record {
      entries = c.new.ensures.lists.entries ∙ (λ i. stored_entries (read i) (documents_are i) (frequencies_are i) (positions_are i))
          ∙ sym postings ∙ ap (λ v. postings_of v.segment option term) c.reader.view_is;
      limits = c.new.ensures.lists.limits ∙ ap (λ (y : PostingsRange). Room y.most) c.entry.view_is
          ∙ ap Room (sym most ∙ ap (λ v. greatest_frequency v.segment term) c.reader.view_is);
      valid = c.new.ensures.lists.valid;
      placed = tt;
    }

pub returns-clause-counted : goal.returns-clause-counted
returns-clause-counted c = λ reads.
    let inside = c.reader.inside in
    let terms = inside.terms.items in
    let place = c.args.info.now.ordinal in
    let term = c.requires.0 in
    let info = c.requires.1 in
    let r : PostingsRange = c.index-entry.result.now in
    let here = c.index-entry.ensures in
    let Placed : Reader → Type 0 = λ v. slice_get v.terms place ≡ Some term in
    let placed = subst Placed (sym c.reader.view_is) info.place in
    let within = placed_within terms term place placed in
    let documents = inside.documents.items in
    let frequencies = inside.frequencies in
    let places = inside.positions.items in
    let option = c.args.option in
    let schema = ap (λ v. v.segment.schema) c.reader.view_is in
    let field : r.term.field ≡ c.args.self.now.field = ap (λ (t : TermKey). t.field) (placed_term terms term place r here placed) ∙ info.held.0 in
    let asked : reads_positions inside.schema option r.term.field ≡ true = (λ i. reads_positions (schema i) option (field i)) ∙ reads in
    let read : c.freq_reading.result ≡ reading inside.schema option r.term.field = c.freq_reading.ensures
    ∙ (λ i. reading (sym schema i) option (sym field i)) in
    let documents_are : c.documents_part.result.now ≡ in_range r documents = c.documents_part.ensures ∙ ap (in_range r) c.deref.ensures.value in
    let frequencies_are : (listed c.frequencies_part.result) ≡ in_range r frequencies = c.frequencies_part.ensures in
    let positions_are : c.positions_asked.result.now ≡ cond (has_positions option) (positions_in r places) [] = c.positions_asked.ensures
    ∙ (λ i. cond (c.has_positions.ensures i) (positions_in r (c.deref-2.ensures.value i)) []) in
    let known : r.start + r.count ≤ length documents =
    subst (λ (y : PostingsRange). y.start + y.count ≤ length documents) (sym here) (c.reader.invariant.0.index.within place r within) in
    let paired = in_range-length r frequencies (omega (arith, known, c.reader.invariant.0.index.paired)) ∙ sym (in_range-length r documents known) in
    let entries = c.new.ensures.lists.entries ∙ (λ i. stored_entries (read i) (documents_are i) (frequencies_are i) (positions_are i)) in
    subst (All (λ e. length e.positions ≡ e.frequency)) (sym entries)
    (read_counted inside.schema terms documents frequencies places place r c.reader.invariant.0.positions within here option paired asked)

pub returns-clause-reading : goal.returns-clause-reading
returns-clause-reading c = c.new.ensures.reading ∙ c.freq_reading.ensures

pub index-requires : goal.index-requires
index-requires c =
    let inside = c.reader.inside in
    let terms = inside.terms.items in
    let place = c.args.info.now.ordinal in
    let Placed : Reader → Type 0 = λ v. slice_get v.terms place ≡ Some c.requires.0 in
    let within = placed_within terms c.requires.0 place (subst Placed (sym c.reader.view_is) c.requires.1.place) in
    omega (
      arith,
      within,
      inside.block_starts.ok.0,
      starts_each inside.block_len (map (λ c. c.items) inside.lengths.items) terms
          inside.documents.items inside.frequencies inside.block_starts.items inside.blocks.items c.reader.invariant.0.blocks,
    )

pub blocks_from-requires : goal.blocks_from-requires
blocks_from-requires c =
    let inside = c.reader.inside in
    let terms = inside.terms.items in
    let place = c.args.info.now.ordinal in
    let Placed : Reader → Type 0 = λ v. slice_get v.terms place ≡ Some c.requires.0 in
    let within = placed_within terms c.requires.0 place (subst Placed (sym c.reader.view_is) c.requires.1.place) in
    let r : PostingsRange = c.index-entry.result.now in
    let here = c.index-entry.ensures in
    let documents = inside.documents.items in
    let frequencies = inside.frequencies in
    let columns = map (λ c. c.items) inside.lengths.items in
    let known : r.start + r.count ≤ length documents =
    subst (λ (y : PostingsRange). y.start + y.count ≤ length documents) (sym here) (c.reader.invariant.0.index.within place r within) in
    let count : c.div_ceil.result ≡ div_ceil r.count inside.block_len = c.div_ceil.ensures
    ∙ ap (λ (y : PostingsRange). div_ceil y.count inside.block_len) c.entry.view_is in
    let starts_at : c.index.result.now ≡ get_or inside.block_starts.items place 0 =
    get_or_read inside.block_starts.items place c.index.result.now (omega (
      arith,
      within,
      starts_each inside.block_len columns
          terms documents frequencies inside.block_starts.items inside.blocks.items c.reader.invariant.0.blocks,
    )) c.index.ensures 0 in
    omega (
      arith,
      starts_at,
      count,
      infos_inside inside.block_len columns terms documents frequencies inside.block_starts.items inside.blocks.items
          place r c.reader.invariant.0.blocks within here (in_range-length r documents known),
      ap length c.deref-3.ensures.value,
    )

pub returns-clause-blocks : goal.returns-clause-blocks
returns-clause-blocks c = λ term info.
    let inside = c.reader.inside in
    let terms = inside.terms.items in
    let place = c.args.info.now.ordinal in
    let r : PostingsRange = c.index-entry.result.now in
    let here = c.index-entry.ensures in
    let Placed : Reader → Type 0 = λ v. slice_get v.terms place ≡ Some term in
    let placed = subst Placed (sym c.reader.view_is) info.place in
    let within = placed_within terms term place placed in
    let own = placed_term terms term place r here placed in
    let documents = inside.documents.items in
    let frequencies = inside.frequencies in
    let columns = map (λ c. c.items) inside.lengths.items in
    let option = c.args.option in
    let schema = sym (ap (λ v. v.segment.schema) c.reader.view_is) in
    let field = sym info.held.0 in
    let read : c.freq_reading.result ≡ reading inside.schema option term.field = c.freq_reading.ensures ∙ (λ i. reading (schema i) option (field i)) in
    let known : r.start + r.count ≤ length documents =
    subst (λ (y : PostingsRange). y.start + y.count ≤ length documents) (sym here) (c.reader.invariant.0.index.within place r within) in
    let count : c.div_ceil.result ≡ div_ceil r.count inside.block_len = c.div_ceil.ensures
    ∙ ap (λ (y : PostingsRange). div_ceil y.count inside.block_len) c.entry.view_is in
    let starts_at : c.index.result.now ≡ get_or inside.block_starts.items place 0 =
    get_or_read inside.block_starts.items place c.index.result.now (omega (
      arith,
      within,
      starts_each inside.block_len columns
          terms documents frequencies inside.block_starts.items inside.blocks.items c.reader.invariant.0.blocks,
    )) c.index.ensures 0 in
    let blocks_are = c.blocks_from.ensures ∙ (λ i. take (count i) (drop (starts_at i) (c.deref-3.ensures.value i)))
    ∙ infos_at inside.block_len columns terms documents frequencies inside.block_starts.items inside.blocks.items
    place r c.reader.invariant.0.blocks within here (in_range-length r documents known) in
    let segment = segment_from inside.schema inside.block_len (posted_of terms documents frequencies inside.positions.items) columns inside.max_doc in
    c.new.ensures.blocks ∙ (λ i. map (block_read (read i)) (blocks_are i))
    ∙ sym (term_blocks-place inside.schema inside.block_len columns inside.max_doc terms documents frequencies inside.positions.items
    place r term option c.reader.invariant.0.index c.reader.invariant.0.lengths c.reader.invariant.0.cut within here own)
    ∙ sym (term_blocks-without (left_out inside.alive inside.max_doc) segment option term)
    ∙ ap (λ v. term_blocks v.segment option term) c.reader.view_is

pub returns-clause-ids : goal.returns-clause-ids
returns-clause-ids c =
    let inside = c.reader.inside in
    let terms = inside.terms.items in
    let place = c.args.info.now.ordinal in
    let term = c.requires.0 in
    let info = c.requires.1 in
    let r : PostingsRange = c.index-entry.result.now in
    let here = c.index-entry.ensures in
    let Placed : Reader → Type 0 = λ v. slice_get v.terms place ≡ Some term in
    let placed = subst Placed (sym c.reader.view_is) info.place in
    let within = placed_within terms term place placed in
    let field : r.term.field ≡ c.args.self.now.field = ap (λ (t : TermKey). t.field) (placed_term terms term place r here placed) ∙ info.held.0 in
    let documents = inside.documents.items in
    let frequencies = inside.frequencies in
    let columns = map (λ c. c.items) inside.lengths.items in
    let known : r.start + r.count ≤ length documents =
    subst (λ (y : PostingsRange). y.start + y.count ≤ length documents) (sym here) (c.reader.invariant.0.index.within place r within) in
    let documents_are : c.documents_part.result.now ≡ in_range r documents = c.documents_part.ensures ∙ ap (in_range r) c.deref.ensures.value in
    let frequencies_are : (listed c.frequencies_part.result) ≡ in_range r frequencies = c.frequencies_part.ensures in
    let count : c.div_ceil.result ≡ div_ceil r.count inside.block_len = c.div_ceil.ensures
    ∙ ap (λ (y : PostingsRange). div_ceil y.count inside.block_len) c.entry.view_is in
    let starts_at : c.index.result.now ≡ get_or inside.block_starts.items place 0 =
    get_or_read inside.block_starts.items place c.index.result.now (omega (
      arith,
      within,
      starts_each inside.block_len columns
          terms documents frequencies inside.block_starts.items inside.blocks.items c.reader.invariant.0.blocks,
    )) c.index.ensures 0 in
    let blocks_are : c.blocks_from.result.now
    ≡ all_infos inside.block_len (get_or columns r.term.field []) c.documents_part.result.now (listed c.frequencies_part.result) =
    c.blocks_from.ensures ∙ (λ i. take (count i) (drop (starts_at i) (c.deref-3.ensures.value i)))
    ∙ infos_at inside.block_len columns terms documents frequencies inside.block_starts.items
    inside.blocks.items place r c.reader.invariant.0.blocks within here (in_range-length r documents known)
    ∙ (λ i. all_infos inside.block_len (get_or columns r.term.field []) (sym documents_are i) (sym frequencies_are i)) in
    let Below : PostingsRange → Type 0 = λ y. All (λ d. d < inside.max_doc) (in_range y documents) in
    let named : documents_of (postings_left c.new.result) ≡ in_range r documents = ap documents_of c.new.ensures.lists.entries
    ∙ documents-stored c.freq_reading.result c.documents_part.result.now (listed c.frequencies_part.result) c.positions_asked.result.now ∙ documents_are in
    let below : All (λ d. d < inside.max_doc) (documents_of (postings_left c.new.result)) =
    subst (All (λ d. d < inside.max_doc)) (sym named) (subst Below (sym here) (c.reader.invariant.0.index.below place r within)) in
    let each = least_ids-column (left_out inside.alive inside.max_doc) inside.schema inside.block_len
    (posted_of terms documents frequencies inside.positions.items) columns inside.max_doc r.term.field (postings_blocks c.new.result)
    (postings_left c.new.result) c.reader.invariant.0.lengths below (c.new.ensures.ids (get_or columns r.term.field []) blocks_are) in
    subst (λ v. HaveLeastIds v.segment c.args.self.now.field (postings_blocks c.new.result) (postings_left c.new.result)) c.reader.view_is
    (subst (λ f. HaveLeastIds (without (left_out inside.alive inside.max_doc) (segment_from inside.schema inside.block_len (posted_of terms documents
    frequencies inside.positions.items) columns inside.max_doc)) f (postings_blocks c.new.result) (postings_left c.new.result)) field each)
