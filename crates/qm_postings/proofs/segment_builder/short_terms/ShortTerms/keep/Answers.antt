use Rattle.std.proofs.Common.{arith, sym, ◌∙◌}
use Rattle.std.proofs.lemmas.List.Elements.{All-set}
use Rattle.qm_postings.specs.ShortTerms.{IsNumbered, IsOf}
use Rattle.qm_postings.specs.declared.segment_builder.short_terms.ShortTerm.{ShortTerm}
use Rattle.qm_postings.proofs.ShortTerms.{numbered_one}
use Rattle.qm_postings.proofs.segment_builder.short_terms.ShortTerms.keep.Goals as goal

pub returns-then-index-gt-HEAD_LEN : goal.returns-then-index-gt-HEAD_LEN
returns-then-index-gt-HEAD_LEN c = λ names numbered found.
    let term = c.args.term.now in
    let slot : ShortTerm = record { field = c.field_id.result; number = c.args.number; head = c.head.result; len = c.text_len-len.result } in
    let here : IsOf term slot = record {
      field = sym (c.field_id.ensures ∙ c.field.ensures);
      head = c.head.ensures;
      len = sym c.text_len-len.ensures;
      short = omega (arith, c.if-len-gt-HEAD_LEN.false);
    } in
    All-set (IsNumbered names) c.args.self.now.slots.items c.place_of-place.result slot (numbered_one names term slot here found) numbered
