use Rattle.std.proofs.Common.{◌+◌, Option, None, Some, IfSome, ℕ, subst, sym}
use Rattle.std.specs.Option.{SomeIff}
use Rattle.qm_index.specs.Indexed.{Indexed, indexed}
use Rattle.qm_script.specs.Script as language
use Rattle.qm_script.specs.Searching.{IsCountIn}
use Rattle.qm_script.specs.Spelled.{query_of}
use Rattle.birchagain_partitions.specs.BestOverIndexes.{HasSegmentsOf, count_in-both}
use Rattle.example_callers.proofs.partition_callers.count_in_both.Goals as goal

-- where there is a sum, as many match in both
counted : (q : language.Query) (s t : Indexed) (n m : ℕ) (fits : Type 0) (sum : Option ℕ) → IsCountIn q s n → IsCountIn q t m → SomeIff sum fits (n + m) →
    IfSome sum (λ k. (both : Indexed) → HasSegmentsOf s t both → IsCountIn q both k)
counted q s t n m fits None first second is = tt
counted q s t n m fits (Some k) first second is = λ both all. subst (IsCountIn q both) (sym is.1) (count_in-both q s t both n m all first second)

pub returns : goal.returns
returns c = record {
  count = counted (query_of c.args.query.now) (indexed c.args.first.now) (indexed c.args.second.now) _ _ _ c.checked_add.result
      c.in_ok-count.ensures.count c.in_ok-others.ensures.count c.checked_add.ensures;
}
