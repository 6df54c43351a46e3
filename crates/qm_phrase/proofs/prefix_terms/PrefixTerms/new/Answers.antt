-- The terms as they are handed in, beside their buffers.
use Rattle.std.proofs.Common.{◌≡◌, ◌-◌, ◌≤◌, fold, map, max, All, ap, sym, ◌∙◌, arith, subst}
use Rattle.qm_phrase.specs.PhrasePrefix.{greatest_offset_of}
use Rattle.qm_phrase.specs.PhraseTerms.{offsets_of}
use Rattle.qm_phrase.specs.Places.{room_of, shift_of}
use Rattle.qm_phrase.proofs.HandedIn.{greatest-le}
use Rattle.std.proofs.lemmas.Grind.{common_steps}
use Rattle.qm_phrase.proofs.prefix_terms.PrefixTerms.new.Goals as goal

pub new-requires-clause-greatest : goal.new-requires-clause-greatest
new-requires-clause-greatest g c = omega (
  arith,
  c.max-greatest.ensures,
  c.requires.suffix_pos,
  c.greatest_offset.ensures,
  ap (λ r. fold max 0 (map (λ t. t.0) r)) c.deref.ensures.value,
  greatest-le (offsets_of c.args.terms) c.requires.offsets,
)

pub overflow_cast-shift : goal.overflow_cast-shift
overflow_cast-shift g c =
    let most : c.max-greatest.result ≤ 4294967295 = omega (
      arith,
      c.max-greatest.ensures,
      c.requires.suffix_pos,
      c.greatest_offset.ensures,
      ap (λ r. fold max 0 (map (λ t. t.0) r)) c.deref.ensures.value,
      greatest-le (offsets_of c.args.terms) c.requires.offsets,
    ) in
    record { fits = omega (arith, c.saturating_sub-shift.ensures, most) }

pub greatest_freq-requires : goal.greatest_freq-requires
greatest_freq-requires g c = grind (arith, common_steps)

pub row_of_suffixes-requires-clause-fit : goal.row_of_suffixes-requires-clause-fit
row_of_suffixes-requires-clause-fit g c =
    let D = g.P.DocSet in
    let room : room_of c.in_ok-suffix_places.suffix_places ≡ c.greatest_freq.result = c.in_ok-suffix_places.ensures.room in
    let fits = subst (All (λ m. (D.limits m).room ≤ c.greatest_freq.result)) c.deref-2.ensures.value c.greatest_freq.ensures in
    subst (λ n. All (λ m. (D.limits m).room ≤ n) c.args.suffixes.items) (sym room) fits

pub returns-clause-valid : goal.returns-clause-valid
returns-clause-valid g c = record {
  full = c.in_ok-full.ensures.valid;
  common = c.in_ok-common.ensures;
  suffixes = c.in_ok-suffixes.ensures.row;
  shift = omega (
    arith,
    c.in_ok-suffix_places.ensures.shift,
    c.saturating_sub-shift.ensures,
    c.max-greatest.ensures,
    c.requires.suffix_pos,
    c.greatest_offset.ensures,
    ap (λ r. fold max 0 (map (λ t. t.0) r)) c.deref.ensures.value,
    greatest-le (offsets_of c.args.terms) c.requires.offsets,
  );
}

pub returns-clause-lists : goal.returns-clause-lists
returns-clause-lists g c =
    let offsets = offsets_of c.args.terms in
    let greatest : c.max-greatest.result ≡ greatest_offset_of offsets c.args.suffix_pos =
    omega (arith, c.max-greatest.ensures, c.greatest_offset.ensures, ap (λ r. fold max 0 (map (λ t. t.0) r)) c.deref.ensures.value) in
    let shifts = c.in_ok-full.ensures.shifts ∙ ap (λ n. map (λ offset. n - offset) offsets) greatest in
    let own : shift_of c.in_ok-suffix_places.suffix_places ≡ greatest_offset_of offsets c.args.suffix_pos - c.args.suffix_pos =
    omega (arith, c.in_ok-suffix_places.ensures.shift, c.saturating_sub-shift.ensures, greatest) in
    λ i. record {
      full_shifts = shifts i;
      full = c.in_ok-full.ensures.lists i;
      suffix_shift = own i;
      suffixes = c.in_ok-suffixes.ensures.lists i;
    }
