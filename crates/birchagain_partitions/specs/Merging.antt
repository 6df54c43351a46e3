-- The best hits of two answers to one query, each of which has its best first.
use Rattle.std.specs.Prelude.{◌≡◌, ℕ, ◌+◌, ◌<◌, ◌≤◌, ℤ, pos, ◌<ℤ◌, ◌≤ℤ◌, List, ◌++◌, All, drop, length, map, slice_index_or}
use Rattle.qm_script.specs.declared.searching.Hit.{Hit}
use Rattle.qm_weight.specs.Best.{best}
use Rattle.birchagain_partitions.specs.Ranked.{IsRanked}

-- a hit as an item: its document, and its score
abbrev pub item : Hit → ℕ × ℤ
item h = (h.document, h.score)

abbrev pub items : List Hit → List (ℕ × ℤ)
items hits = map item hits

-- the same document where all are numbered from this one on
abbrev pub moved : ℕ → ℕ × ℤ → ℕ × ℤ
moved first p = (first + p.0, p.1)

abbrev pub moved_hit : ℕ → Hit → Hit
moved_hit first h = record { document = first + h.document; score = h.score }

-- the documents of both, those of the second numbered from this one on
abbrev pub of_both : ℕ → List Hit → List Hit → List (ℕ × ℤ)
of_both first xs ys = items xs ++ map (moved first) (items ys)

-- Both have their best first.
pub record AreRanked (xs ys : List Hit) : Type 0 where
  pub first : IsRanked (items xs)
  pub second : IsRanked (items ys)

-- documents that are numbered from this one on have numbers of 64 bits
abbrev pub HaveNumbers : ℕ → List Hit → Type 0
HaveNumbers first hits = All (λ h. first + h.document ≤ 18446744073709551615) hits

-- The front of an array has the best of both, as many as there is room for, and the rest is what it was.
pub record HasBestOfBoth (first : ℕ) (xs ys before after : List Hit) (count : ℕ) : Type 0 where
  pub hits : List Hit
  pub best : items hits ≡ best (length before) (of_both first xs ys)
  pub counted : length hits ≡ count
  pub front : after ≡ hits ++ drop count before

-- ---- which comes next

-- what the next of an answer scores, if there is one
abbrev pub score_at : List Hit → ℕ → ℤ
score_at hits i = (slice_index_or hits i (record { document = 0; score = pos 0 })).score

-- The next of the first answer comes before that of the second, if there is one.
pub record IsFirstNext (xs : List Hit) (i : ℕ) (ys : List Hit) (j : ℕ) : Type 0 where
  pub there : i < length xs
  pub no_less : j < length ys → score_at ys j ≤ℤ score_at xs i

-- The next of the second answer comes before that of the first, if there is one.
pub record IsSecondNext (xs : List Hit) (i : ℕ) (ys : List Hit) (j : ℕ) : Type 0 where
  pub there : j < length ys
  pub more : i < length xs → score_at xs i <ℤ score_at ys j
