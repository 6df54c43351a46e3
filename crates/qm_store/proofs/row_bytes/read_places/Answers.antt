use Rattle.std.proofs.Common.{◌≡◌, ◌+◌, ◌<◌, ◌∷◌, ℕ, List, Bor, add-one, ap, arith, drop, get_or, length, sym, ◌∙◌}
use Rattle.std.specs.Option.{option_map}
use Rattle.std.proofs.Math.Seq.{drop-cons}
use Rattle.qm_store.specs.RowBytes.{gaps_at, in_front_of_all, places_at}
use Rattle.qm_store.proofs.RowSteps.{places-next}
use Rattle.qm_store.proofs.row_bytes.read_places.Goals as goal

pub loop-place-preserved : goal.loop-place-preserved
loop-place-preserved c =
    let at = c.loop-place in
    let i = at.place in
    let fs = c.args.rows.now.frequencies in
    let f = get_or fs i 0 in
    let inside : i < length fs = omega (arith, c.loop-place-test.true, at.auto.place-end, c.posting_count-place-end.ensures) in
    let own : c.frequency-frequency.result ≡ f = c.frequency-frequency.ensures ∙ ap (λ (l : List ℕ). get_or l i 0) at.invariant.kept.frequencies in
    let cut : drop i fs ≡ f ∷ drop (i + 1) fs = drop-cons fs i 0 inside ∙ ap (λ (k : ℕ). f ∷ drop k fs) (sym (add-one i)) in
    let new = c.read_positions.new.rows in
    let kept = c.in_ok-behind.ensures.kept in
    record {
      whole = places-next at.rows.positions at.rest.now f (drop (i + 1) fs) _
          (ap (λ (ts : List ℕ). in_front_of_all at.rows.positions (places_at ts at.rest.now)) (sym cut) ∙ at.invariant.whole)
          new.positions c.in-Some.behind.now
          (sym (ap (option_map (λ (rest : Bor (List ℕ)). (new.positions, rest.now))) c.in-Some.is) ∙ c.in_ok-behind.ensures.read
          ∙ ap (λ (n : ℕ). in_front_of_all at.rows.positions (gaps_at n 0 at.rest.now)) own);
      kept = record {
        rows = kept.rows ∙ at.invariant.kept.rows;
        documents = kept.documents ∙ at.invariant.kept.documents;
        frequencies = kept.frequencies ∙ at.invariant.kept.frequencies;
      };
    }
