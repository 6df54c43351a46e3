-- Two parts can always be joined.
use Rattle.std.proofs.Common.{◌≡◌, ◌+◌, ◌-◌, ◌≤◌, ◌++◌, ◌∷◌, [], Err, List, ap, arith, get_or, length, sym, take, ◌∙◌}
use Rattle.qm_postings.specs.Reading.{Reader}
use Rattle.qm_index.specs.declared.index.Index.{Index}
use Rattle.qm_index.proofs.JoinedParts.{last-two-read, parts-alike}
use Rattle.qm_index.proofs.index.Index.last_parts_joined.Goals as goal

module _ (i : Index) (rs : List Reader) (a b : Reader) (two : i.ended + 2 ≤ length i.searcher.segments) (are : rs ≡ i.searcher.segments)
    (first : a ≡ get_or rs (length rs - 2) a) (second : b ≡ get_or rs (length rs - 1) b) where
  all : i.searcher.segments ≡ take (length rs - 2) rs ++ a ∷ b ∷ []
  all = sym are ∙ last-two-read rs a b (omega (arith, two, ap length are)) first second

pub unreachable-requires : goal.unreachable-requires
unreachable-requires c =
    let i = c.args.self.now in
    let rs = c.segment_readers-readers.result.now in
    let a = c.index-readers-readers.result in
    let b = c.index-readers-readers-2.result in
    c.in-Err-Unlike.ensures.unlike.0 (ap Err c.in-Err-Unlike.field-0-is) (parts-alike i (take (length rs - 2) rs) a b c.requires.two
    (all i rs a b c.requires.two c.segment_readers-readers.ensures.segments c.index-readers-readers.is c.index-readers-readers-2.is))

pub returns-in-Ok-clause-joined : goal.returns-in-Ok-clause-joined
returns-in-Ok-clause-joined c =
    let i = c.args.self.now in
    let rs = c.segment_readers-readers.result.now in
    let a = c.index-readers-readers.result in
    let b = c.index-readers-readers-2.result in
    record {
      others = take (length rs - 2) rs;
      first = a;
      second = b;
      all = all i rs a b c.requires.two c.segment_readers-readers.ensures.segments c.index-readers-readers.is c.index-readers-readers-2.is;
      is = c.in-Ok.ensures.merged;
    }
