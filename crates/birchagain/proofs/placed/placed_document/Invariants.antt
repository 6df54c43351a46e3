-- The words that end before `start` are in the document, and good, with their places, which end before `first`.
use Rattle.std.proofs.Common.{◌≡◌, ◌++◌, [], drop, length}
use Rattle.birchagain.specs.Placed.{ArePlaced, placed_from}
use Rattle.birchagain.proofs.placed.placed_document.Given as goal

abbrev pub invariant-loop-end : goal.invariant-loop-end
invariant-loop-end l =
    let ends = drop (length l.yielded) l.ends in
    let place_ends = drop (length l.yielded) l.place_ends in record {
      words : l.document.terms ++ placed_from l.start l.first ends place_ends l.fn.bytes l.fn.places
          ≡ placed_from 0 0 l.ends l.place_ends l.fn.bytes l.fn.places;
      lengths : l.document.lengths ≡ [];
      good : ArePlaced l.start l.first ends place_ends l.fn.bytes l.fn.places → ArePlaced 0 0 l.ends l.place_ends l.fn.bytes l.fn.places;
      left : ArePlaced 0 0 l.ends l.place_ends l.fn.bytes l.fn.places → ArePlaced l.start l.first ends place_ends l.fn.bytes l.fn.places;
    }
