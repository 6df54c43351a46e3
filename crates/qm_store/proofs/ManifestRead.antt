-- What an index is is read again as it was written.
use Rattle.std.proofs.Common.{◌≡◌, ℕ, ◌^◌, ◌<◌, ◌≤◌, ◌&&◌, Bool, true, false, cond, List, [], ◌∷◌, ◌++◌, length, map, Option, None, Some, Result, Ok, Err, refl, ap, subst, sym, ◌∙◌, append_assoc, append-nil, arith}
use Rattle.std.specs.Prelude.{All, ok_or}
use Rattle.std.specs.declared.cmp.Ordering.TheVariants.{Less}
use Rattle.std.specs.Int.{w64, to_le_bytes}
use Rattle.std.specs.List.{AllByRecursion, flat_map}
use Rattle.std.specs.List.Sorted.{IsStrictlySortedBy}
use Rattle.std.specs.Ordering.{is_lt}
use Rattle.std.proofs.lemmas.Bool.{le-ltb}
use Rattle.std.proofs.lemmas.List.Elements.{All-head, All-tail}
use Rattle.std.proofs.lemmas.Str.{is_utf8-from_IsUtf8}
use Rattle.qm_schema.specs.Schema.{FieldFacts}
use Rattle.qm_schema.specs.Term.{TermKey, term_cmp}
use Rattle.qm_schema.specs.declared.schema.option.IndexRecordOption.{IndexRecordOption}
use Rattle.qm_schema.specs.declared.schema.option.IndexRecordOption.TheVariants.{Basic, WithFreqs, WithFreqsAndPositions}
use Rattle.qm_store.specs.Ends.{ended_by}
use Rattle.qm_store.specs.Fields.{IsField, field_at, field_bytes, flag_by, flag_byte, kept_by, kept_byte, name_at, named_by, said_at, schema_at, schema_bytes}
use Rattle.qm_store.specs.Heads.{head_bytes, headed_as}
use Rattle.qm_store.specs.Items.{bytes_at, counted_bytes, each_at, items_at, small_at}
use Rattle.qm_store.specs.Manifest.{IsKeptSegment, IsManifest, ManifestFacts, back_at, back_bytes, body_at, front_bytes, manifest_kind, manifest_read, manifest_spelled}
use Rattle.qm_store.specs.Manifest.{norms_at, norms_bytes, segment_at, segment_bytes, segments_at, segments_bytes}
use Rattle.qm_store.specs.Numbers.{number_at, spelled}
use Rattle.qm_store.specs.RowBytes.{followed_by}
use Rattle.qm_store.specs.Sealed.{body_in, sealed, told_by}
use Rattle.qm_store.specs.TermBytes.{term_at, term_bytes}
use Rattle.qm_store.specs.Weights.{IsWeight, is_last, last_by, pair_at, weight_at, weight_bytes, weights_at, weights_bytes}
use Rattle.qm_store.specs.Words.{word_at}
use Rattle.qm_store.specs.declared.kept_segment.KeptSegment.{KeptSegment}
use Rattle.qm_store.specs.declared.store_error.StoreError.{StoreError}
use Rattle.qm_store.specs.declared.store_error.StoreError.TheVariants.{Damaged, OtherFile}
use Rattle.qm_store.proofs.ItemsRead.{AreRead, bytes-read, each-read, items-read, small-read}
use Rattle.qm_store.proofs.NumberBytes.{number-read}
use Rattle.qm_store.proofs.PiecesRead.{word-read}
use Rattle.qm_store.proofs.SealedRead.{body-sealed}
use Rattle.qm_store.proofs.TermsRead.{term-read}

-- ---- fields

kept-read : (kept : Option IndexRecordOption) (rest : List ℕ) → said_at kept_by (kept_byte kept ∷ rest) ≡ Some (kept, rest)
kept-read None rest = refl
kept-read (Some Basic) rest = refl
kept-read (Some WithFreqs) rest = refl
kept-read (Some WithFreqsAndPositions) rest = refl

flag-read : (flag : Bool) (rest : List ℕ) → said_at flag_by (flag_byte flag ∷ rest) ≡ Some (flag, rest)
flag-read true rest = refl
flag-read false rest = refl

abbrev then_flag : List ℕ → Option IndexRecordOption → Bool → List ℕ → Option (FieldFacts × List ℕ)
then_flag name kept lengths rest = Some (record { name = name; indexed = kept; lengths = lengths }, rest)

abbrev then_kept : List ℕ → Option IndexRecordOption → List ℕ → Option (FieldFacts × List ℕ)
then_kept name kept rest = followed_by (said_at flag_by rest) (then_flag name kept)

abbrev then_name : List ℕ → List ℕ → Option (FieldFacts × List ℕ)
then_name name rest = followed_by (said_at kept_by rest) (then_kept name)

field-read : (f : FieldFacts) (rest : List ℕ) → IsField f → field_at (field_bytes f ++ rest) ≡ Some (f, rest)
unfolding field_at
field-read f rest is =
    let last = kept_byte f.indexed ∷ flag_byte f.lengths ∷ rest in
    ap (λ (bs : List ℕ). followed_by (name_at bs) then_name) (append_assoc (counted_bytes f.name) (kept_byte f.indexed ∷ flag_byte f.lengths ∷ []) rest)
    ∙ ap (λ (x : Option (List ℕ × List ℕ)). followed_by (followed_by x named_by) then_name) (bytes-read f.name last is.short)
    ∙ ap (λ b. followed_by (cond b (Some (f.name, last)) None) then_name) (is_utf8-from_IsUtf8 f.name is.text)
    ∙ ap (λ (x : Option (Option IndexRecordOption × List ℕ)). followed_by x (then_kept f.name)) (kept-read f.indexed (flag_byte f.lengths ∷ rest))
    ∙ ap (λ (x : Option (Bool × List ℕ)). followed_by x (then_flag f.name f.indexed)) (flag-read f.lengths rest)

schema-read : (fields : List FieldFacts) (rest : List ℕ) → All IsField fields → length fields ≤ 4294967295 →
    schema_at (schema_bytes fields ++ rest) ≡ Some (fields, rest)
unfolding schema_at schema_bytes
schema-read fields rest are few =
    ap (λ (bs : List ℕ). followed_by (small_at bs) (each_at field_at)) (append_assoc (spelled (length fields)) (flat_map field_bytes fields) rest)
    ∙ ap (λ (x : Option (ℕ × List ℕ)). followed_by x (each_at field_at)) (small-read (length fields) (flat_map field_bytes fields ++ rest) few)
    ∙ each-read field_at field_bytes IsField field-read fields rest are

-- ---- norms and segments

norms-read : (norms rest : List ℕ) → All (λ n. n ≤ 4294967295) norms → length norms ≡ 256 → norms_at (norms_bytes norms ++ rest) ≡ Some (norms, rest)
unfolding norms_at norms_bytes
norms-read norms rest few count =
    ap (λ n. each_at small_at n (flat_map spelled norms ++ rest)) (sym count)
    ∙ each-read small_at spelled (λ n. n ≤ 4294967295) small-read norms rest few

abbrev then_deletions : ℕ → ℕ → List ℕ → Option (KeptSegment × List ℕ)
then_deletions key deletions rest =
    followed_by (small_at rest) (λ deleted rest. Some (record { key = key; deletions = deletions; deleted = deleted }, rest))

abbrev then_key : ℕ → List ℕ → Option (KeptSegment × List ℕ)
then_key key rest = followed_by (word_at rest) (then_deletions key)

segment-read : (s : KeptSegment) (rest : List ℕ) → IsKeptSegment s → segment_at (segment_bytes s ++ rest) ≡ Some (s, rest)
unfolding segment_at
segment-read s rest is =
    let deletions = to_le_bytes w64 s.deletions in
    let deleted = spelled s.deleted in
    ap (λ (bs : List ℕ). followed_by (word_at bs) then_key)
    (append_assoc (to_le_bytes w64 s.key) (deletions ++ deleted) rest ∙ ap (λ l. to_le_bytes w64 s.key ++ l) (append_assoc deletions deleted rest))
    ∙ ap (λ (x : Option (ℕ × List ℕ)). followed_by x then_key) (word-read s.key (deletions ++ (deleted ++ rest)) is.key)
    ∙ ap (λ (x : Option (ℕ × List ℕ)). followed_by x (then_deletions s.key)) (word-read s.deletions (deleted ++ rest) is.deletions)
    ∙ ap (λ (x : Option (ℕ × List ℕ)). followed_by x (λ n rest. Some (record { key = s.key; deletions = s.deletions; deleted = n }, rest)))
    (small-read s.deleted rest is.deleted)

segments-read : (segments : List KeptSegment) (rest : List ℕ) → All IsKeptSegment segments → length segments < 128 ^ 9 →
    segments_at (segments_bytes segments ++ rest) ≡ Some (segments, rest)
unfolding segments_at segments_bytes
segments-read segments rest are few =
    ap (λ (bs : List ℕ). followed_by (number_at 8 bs) (each_at segment_at)) (append_assoc (spelled (length segments)) (flat_map segment_bytes segments) rest)
    ∙ ap (λ (x : Option (ℕ × List ℕ)). followed_by x (each_at segment_at)) (number-read 8 (length segments) (flat_map segment_bytes segments ++ rest) few)
    ∙ each-read segment_at segment_bytes IsKeptSegment segment-read segments rest are

-- ---- weights

abbrev then_term : TermKey → List ℕ → Option ((TermKey × ℕ) × List ℕ)
then_term t rest = followed_by (word_at rest) (λ n rest. Some ((t, n), rest))

pair-read : (w : TermKey × ℕ) (rest : List ℕ) → IsWeight w → pair_at (weight_bytes w ++ rest) ≡ Some (w, rest)
unfolding pair_at
pair-read w rest is =
    ap (λ (bs : List ℕ). followed_by (term_at bs) then_term) (append_assoc (term_bytes w.0) (to_le_bytes w64 w.1) rest)
    ∙ ap (λ (x : Option (TermKey × List ℕ)). followed_by x then_term) (term-read w.0 (to_le_bytes w64 w.1 ++ rest) is.term)
    ∙ ap (λ (x : Option (ℕ × List ℕ)). followed_by x (λ n rest. Some ((w.0, n), rest))) (word-read w.1 rest is.fits)

abbrev Ascend : List (TermKey × ℕ) → Type 0
Ascend ws = IsStrictlySortedBy term_cmp (map (λ w. w.0) ws)

seam : (P : TermKey → Type 0) (front : List (TermKey × ℕ)) (w : TermKey × ℕ) (ws : List (TermKey × ℕ)) →
    AllByRecursion P (map (λ w. w.0) (front ++ w ∷ ws)) → P w.0
seam P [] w ws all = all.0
seam P (v ∷ front) w ws all = seam P front w ws all.1

stands-last : (front : List (TermKey × ℕ)) (w : TermKey × ℕ) (ws : List (TermKey × ℕ)) → Ascend (front ++ w ∷ ws) → is_last front w.0 ≡ true
unfolding IsStrictlySortedBy
stands-last [] w ws up = refl
stands-last (v ∷ front) w ws up =
    ap (λ o. is_lt o && is_last front w.0) (seam (λ t. term_cmp v.0 t ≡ Less) front w ws up.0) ∙ stands-last front w ws up.1

are-read : (front ws : List (TermKey × ℕ)) → All IsWeight ws → Ascend (front ++ ws) → AreRead weight_at weight_bytes front ws
are-read front [] are up = tt
are-read front (w ∷ ws) are up = (
  λ rest. ap (λ (x : Option ((TermKey × ℕ) × List ℕ)). followed_by x (last_by front)) (pair-read w rest (All-head IsWeight w ws are))
      ∙ ap (λ b. cond b (Some (w, rest)) None) (stands-last front w ws up),
  are-read (front ++ w ∷ []) ws (All-tail IsWeight w ws are) (subst Ascend (sym (append_assoc front (w ∷ []) ws)) up),
)

abbrev then_weights : ℕ → List ℕ → Option (List (TermKey × ℕ) × List ℕ)
then_weights count rest = items_at weight_at count [] rest

weights-read : (weights : List (TermKey × ℕ)) (rest : List ℕ) → All IsWeight weights → Ascend weights → length weights < 128 ^ 9 →
    weights_at (weights_bytes weights ++ rest) ≡ Some (weights, rest)
unfolding weights_at weights_bytes
weights-read weights rest are up few =
    ap (λ (bs : List ℕ). followed_by (number_at 8 bs) then_weights) (append_assoc (spelled (length weights)) (flat_map weight_bytes weights) rest)
    ∙ ap (λ (x : Option (ℕ × List ℕ)). followed_by x then_weights) (number-read 8 (length weights) (flat_map weight_bytes weights ++ rest) few)
    ∙ items-read weight_at weight_bytes [] weights rest (are-read [] weights are up)

-- ---- the whole

module _ (m : ManifestFacts) (is : IsManifest m) where
  abbrev then_note : List (TermKey × ℕ) → List KeptSegment → List ℕ → List ℕ → Option ManifestFacts
  then_note weights segments note rest =
      ended_by (record { schema = m.schema; block_len = m.block_len; default_weight = m.default_weight; norms = m.norms; weights = weights; segments = segments; note = note }) rest

  abbrev then_segments : List (TermKey × ℕ) → List KeptSegment → List ℕ → Option ManifestFacts
  then_segments weights segments rest = followed_by (bytes_at rest) (then_note weights segments)

  abbrev then_all_weights : List (TermKey × ℕ) → List ℕ → Option ManifestFacts
  then_all_weights weights rest = followed_by (segments_at rest) (then_segments weights)

  back-read : back_at m.block_len m.schema m.default_weight m.norms (back_bytes m) ≡ Some m
  back-read =
      ap (λ (x : Option (List (TermKey × ℕ) × List ℕ)). followed_by x then_all_weights)
      (weights-read m.weights (segments_bytes m.segments ++ counted_bytes m.note) is.weights is.ascending is.weight_count)
      ∙ ap (λ (x : Option (List KeptSegment × List ℕ)). followed_by x (then_segments m.weights))
      (segments-read m.segments (counted_bytes m.note) is.segments is.segment_count)
      ∙ ap (then_segments m.weights m.segments) (sym (append-nil (counted_bytes m.note)))
      ∙ ap (λ (x : Option (List ℕ × List ℕ)). followed_by x (then_note m.weights m.segments)) (bytes-read m.note [] is.note)

  abbrev then_norms : ℕ → List FieldFacts → ℕ → List ℕ → List ℕ → Option ManifestFacts
  then_norms block_len schema default norms rest = back_at block_len schema default norms rest

  abbrev then_default : ℕ → List FieldFacts → ℕ → List ℕ → Option ManifestFacts
  then_default block_len schema default rest = followed_by (norms_at rest) (then_norms block_len schema default)

  abbrev then_schema : ℕ → List FieldFacts → List ℕ → Option ManifestFacts
  then_schema block_len schema rest = followed_by (word_at rest) (then_default block_len schema)

  abbrev then_block_len : ℕ → List ℕ → Option ManifestFacts
  then_block_len block_len rest = followed_by (schema_at rest) (then_schema block_len)

  regroup : (a b c d e : List ℕ) → (a ++ (b ++ (c ++ d))) ++ e ≡ a ++ (b ++ (c ++ (d ++ e)))
  regroup a b c d e = simp append_assoc

  body-read : body_at (front_bytes m ++ back_bytes m) ≡ Some m
  body-read =
      let back = back_bytes m in
      let norms = norms_bytes m.norms ++ back in
      let default = to_le_bytes w64 m.default_weight ++ norms in
      ap body_at (regroup (spelled m.block_len) (schema_bytes m.schema) (to_le_bytes w64 m.default_weight) (norms_bytes m.norms) back)
      ∙ ap (λ (x : Option (ℕ × List ℕ)). followed_by x then_block_len) (small-read m.block_len (schema_bytes m.schema ++ default) is.block_len)
      ∙ ap (λ (x : Option (List FieldFacts × List ℕ)). followed_by x (then_schema m.block_len)) (schema-read m.schema default is.fields is.few_fields)
      ∙ ap (λ (x : Option (ℕ × List ℕ)). followed_by x (then_default m.block_len m.schema)) (word-read m.default_weight norms is.default_weight)
      ∙ ap (λ (x : Option (List ℕ × List ℕ)). followed_by x (then_norms m.block_len m.schema m.default_weight)) (norms-read m.norms back is.norms is.norm_count)
      ∙ back-read

  abbrev all_bytes : List ℕ
  all_bytes = head_bytes manifest_kind ++ (front_bytes m ++ back_bytes m)

  begun : headed_as manifest_kind (sealed 0 all_bytes) ≡ Ok (sealed 0 all_bytes)
  begun = ap (λ b. cond b (Err OtherFile) (Ok (sealed 0 all_bytes))) (le-ltb (length (sealed 0 all_bytes)) 16 (omega arith))

  pub manifest-read : manifest_read (manifest_spelled m) ≡ Ok m
  manifest-read =
      ap (λ (h : Result (List ℕ) StoreError). told_by (told_by h (body_in 0)) body_at) begun
      ∙ ap (λ (o : Option (List ℕ)). told_by (ok_or o Damaged) body_at) (body-sealed 0 all_bytes (omega arith))
      ∙ ap (λ o. ok_or o Damaged) body-read
