use Rattle.std.proofs.Common.{◌≡◌, ap, arith, length, ◌∙◌}
use Rattle.qm_index.specs.Indexed.{Indexed, indexed}
use Rattle.birchagain_bytes.proofs.IndexBytes.{none-open, packed-same}
use Rattle.birchagain_bytes.proofs.writing.to_bytes.Goals as goal

pub returns-clause-bytes : goal.returns-clause-bytes
returns-clause-bytes c = λ len.
    let known = c.args.known.now in
    let old = c.args.index.now in
    let i = c.number_files.new.index in
    let holds = c.in_ok-numbers.ensures.documents ∙ c.refresh.ensures.documents in
    let says = c.in_ok-numbers.ensures.statistics ∙ c.refresh.ensures.statistics in
    let own : (indexed i).current.block_len ≡ 128 = ap (λ (x : Indexed). x.current.block_len) holds ∙ len in
    let packed = packed-same known i old c.in_ok-bytes.bytes.items holds says (c.in_ok-bytes.ensures.packed own) in
    let none : length (indexed old).current.documents ≡ 0 = omega (arith, c.open_documents.ensures, c.if-open_documents-gt0.false) in
    record {
      packed = packed;
      distinct = c.in_ok-check_files.ensures.distinct packed.files packed.fit (c.deref-2.ensures.value ∙ packed.spelled);
      none_open = none-open old none len;
    }

pub returns-clause-left_out : goal.returns-clause-left_out
returns-clause-left_out c = λ len rising.
    let holds = c.in_ok-numbers.ensures.documents ∙ c.refresh.ensures.documents in
    c.in_ok-bytes.ensures.left_out (ap (λ (x : Indexed). x.current.block_len) holds ∙ len) rising
