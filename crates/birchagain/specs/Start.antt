-- What an index says of words at its beginning.
use Rattle.std.specs.Prelude.{[]}
use Rattle.std.specs.FinMap.{empty}
use Rattle.std.specs.List.{range_with_len}
use Rattle.qm_postings.specs.Statistics.{Searched, searched_of}
use Rattle.birchagain.specs.Body.{body_fields}

-- each word weighs 1000, and a document is as long as it has words, up to 255
abbrev pub start_statistics : Searched
start_statistics = searched_of body_fields [] empty 1000 (range_with_len 0 256)
