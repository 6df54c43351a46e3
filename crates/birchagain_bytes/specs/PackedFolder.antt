-- Files that lie in bytes, by their names, as a folder that never changes.
use Rattle.std.specs.Prelude.{◌≡◌, ℕ, List, String, option_map}
use Rattle.std.specs.BTreeMap.{BTreeMap, get_by_text}
use Rattle.std.specs.declared.alloc.Global.{Global}
use denote.Ref.{Bor}
use Rattle.qm_folder.specs.Disk.{Contents, Disk}
use Rattle.qm_folder.specs.Names.{Name}

-- files by their names
abbrev pub Files : Type 0
Files = BTreeMap (String Global) (Bor (List ℕ))

-- what stands under each name
abbrev pub contents_in : Files → Contents
contents_in files n = option_map (λ b. b.now) (get_by_text files n)

-- a folder of these contents, which a crash leaves as they are
abbrev pub still : Contents → Disk
still c = record {
  seen = c;
  may_leave = λ n left. left ≡ c n;
  written = λ n. Unit {0};
  moment = 0;
  left_since = λ t left. (n : Name) → left n ≡ c n;
  faults = 0;
}
