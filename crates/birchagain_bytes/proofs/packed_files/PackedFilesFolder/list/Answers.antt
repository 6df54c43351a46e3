use Rattle.std.proofs.Common.{◌≡◌, ◌++◌, String, ap, append-nil, subst, sym, ◌∙◌, List}
use Rattle.std.specs.Map.{keys_of}
use Rattle.std.specs.declared.alloc.Global.{Global}
use Rattle.qm_folder.specs.Names.{AreDistinct, Name, is_among, names_of}
use Rattle.birchagain_bytes.proofs.Listed.{distinct-keys, keys-seen}
use Rattle.birchagain_bytes.proofs.packed_files.PackedFilesFolder.list.Goals as goal

pub returns-clause-once : goal.returns-clause-once
returns-clause-once c = λ is_told.
    let keys = keys_of c.args.self.now.files.entries in
    let items = c.loop-name.names.items in
    let all : names_of items ≡ names_of keys =
    sym (append-nil (names_of items)) ∙ ap (λ (l : List (String Global)). names_of items ++ names_of l) (sym c.in-None.ensures.steps.0) ∙ c.loop-name.invariant in
    subst AreDistinct (sym all) (distinct-keys keys c.keys-name-items.ensures.ordered)

pub returns-clause-names : goal.returns-clause-names
returns-clause-names c = λ is_told n.
    let files = c.args.self.now.files in
    let items = c.loop-name.names.items in
    let all : names_of items ≡ names_of (keys_of files.entries) =
    sym (append-nil (names_of items)) ∙ ap (λ (l : List (String Global)). names_of items ++ names_of l) (sym c.in-None.ensures.steps.0) ∙ c.loop-name.invariant in
    ap (λ (ns : List Name). is_among ns n) all ∙ keys-seen files n
