-- The files before what is left are there, each once.
use Rattle.std.proofs.Common.{◌≡◌, List, All, length}
use Rattle.birchagain_bytes.specs.Packed.{File, IsFile, packed}
use Rattle.birchagain_bytes.proofs.OnlyFiles.{AreRead}
use Rattle.birchagain_bytes.proofs.Taken.{AreTaken}
use Rattle.birchagain_bytes.proofs.packed_files.PackedFiles.read.Given as goal

abbrev pub invariant-loop-rest : goal.invariant-loop-rest
invariant-loop-rest l = record {
  taken : (fs : List File) → All IsFile fs → l.bytes ≡ packed fs → AreTaken l.files l.rest fs;
  read : AreRead l.bytes l.rest;
}

abbrev pub decreases-loop-rest : goal.decreases-loop-rest
decreases-loop-rest l = length l.rest
