-- The documents of a term's postings are those that hold it.
use Rattle.std.proofs.Common.{◌≡◌, ap, arith, sym, ◌∙◌}
use Rattle.qm_docset.specs.Entry.{Limits, documents}
use Rattle.qm_docset.proofs.Plain.{documents-plain}
use Rattle.qm_combine.specs.RescoredFacts.{documents-rescored}
use Rattle.qm_postings.specs.FieldIndex.{FieldIndex, shown}
use Rattle.qm_postings.specs.Segment.{holders}
use Rattle.qm_weight.specs.Weights.{shared_weighing}
use Rattle.qm_weight.proofs.Leaves.{IsListOf-absent, nothing_left, scored-shared}
use Rattle.qm_weight.proofs.terms_weight.term_cursor.UnscoredTermCursor.of_term.Goals as goal
use Rattle.qm_weight.proofs.terms_weight.term_cursor.UnscoredTermCursor.of_term.Goals.{After-read_documents}
use Rattle.qm_scorer.specs.BareFacts.{documents-bare}

-- what the index shows of the term is what the segment has of it
holders-same : (c : After-read_documents) → holders (shown c.inverted_index-index.result).reader.segment c.args.clause.clause.now.term
    ≡ holders c.args.reader.now.segment c.args.clause.clause.now.term
holders-same c = λ i. holders (c.inverted_index-index.ensures i).reader.segment c.args.clause.clause.now.term

pub returns-in-Some-clause-cursor : goal.returns-in-Some-clause-cursor
returns-in-Some-clause-cursor c =
    let w = c.args.clause.weight.now in
    let own = c.args.clause.clause.now in
    let lists = c.in-Some.ensures.lists in
    let made = c.new.ensures in
    record {
      list = record {
        documents = documents-bare _ ∙ ap documents made.cursor.entries ∙ documents-rescored _ _ ∙ ap documents lists.entries
            ∙ documents-plain _ ∙ holders-same (goal.at.returns-in-Some-clause-cursor c).After-read_documents;
        scores = λ on. absurd (c.requires.scores (scored-shared w.rule.scoring_enabled w.norms own.weight on));
      };
      top = omega (arith, ap (λ (l : Limits). l.top) made.cursor.limits);
      placed = record { valid = made.cursor.valid; placed = made.placed lists.placed };
    }

pub returns-in-None-clause-cursor : goal.returns-in-None-clause-cursor
returns-in-None-clause-cursor c =
    let w = c.args.clause.weight.now in
    let own = c.args.clause.clause.now in
    let segment = c.args.reader.now.segment in
    let field = sym c.field.ensures ∙ sym (ap (λ (u : FieldIndex). u.field) c.inverted_index-index.ensures) in
    IsListOf-absent segment own.index_record_option own.term (shared_weighing w.rule.scoring_enabled w.norms own.weight) c.args._boost
    (nothing_left (holders segment own.term)
    (λ some. c.in-None.ensures.held.1 (field, λ none. some (sym (holders-same (goal.at.returns-in-None-clause-cursor c).After-read_documents) ∙ none))))
