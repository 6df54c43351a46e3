use Rattle.std.proofs.Common.{◌≡◌, ◌+◌, ◌∷◌, ◌++◌, [], List, true, false, take, drop, String, arith, sym, ◌∙◌, ap, subst}
use Rattle.std.proofs.lemmas.List.{take_all}
use Rattle.std.specs.declared.alloc.Global.{Global}
use Rattle.std.specs.String.{string_bytes}
use Rattle.qm_folder.specs.Clean.{IsClean}
use Rattle.qm_folder.specs.Names.{Name, file_name, file_names, is_among, names_of}
use Rattle.qm_folder.specs.declared.new_file.NewFile.{NewFile}
use Rattle.qm_folder.proofs.CleanNames.{AreLeft, AreTaken, has_key, key-among, manifest_is_gone, manifest_is_new, more_taken, name_there, names_more, names_split, new_is_gone, of_manifest, one_less, pointed, stands_twice, was_not, was_there}
use Rattle.qm_folder.proofs.ComparedFiles.{next_is}
use Rattle.qm_folder.proofs.names.is_clean.Goals as goal
use Rattle.qm_folder.proofs.names.is_clean.Goals.{then-is_manifest-via-then-is_manifest, then-is_manifest-via-else-is_manifest+in_ok-insert+then-not-branch, then-is_manifest-2-via-then-is_manifest-2, then-is_manifest-2-via-else-is_manifest-2+then-contains}

pub returns-then-is_manifest-clause-clean : goal.returns-then-is_manifest-clause-clean
returns-then-is_manifest-clause-clean c =
    let files = c.args.files.now in
    let gone = names_of c.args.gone.now in
    let i = c.loop-file.file-index in
    let f = c.file-item.result in
    let name = c.as_str-name.result.now in
    let name_is : name ≡ file_name f = c.as_str-name.ensures.value in
    let there : is_among (file_names files) name ≡ true = subst (λ (n : Name). is_among (file_names files) n ≡ true) (sym name_is) (name_there file_name files i f (omega arith) c.file-item.is) in
    let why : IsClean (file_names files) gone → ⊥ = elim c.then-is_manifest.branch [
      | then-is_manifest-via-then-is_manifest w ↦ manifest_is_new (file_names files) gone name (sym c.is_manifest.ensures ∙ w.if-is_manifest.true) there
      | then-is_manifest-via-else-is_manifest+in_ok-insert+then-not-branch w ↦
          let key : is_among (pointed c.loop-file.names.keys) name ≡ true = sym (key-among name c.loop-file.names.keys) ∙ was_there (has_key name c.loop-file.names.keys) (sym w.in_ok-insert.ensures.added ∙ w.if-not-branch.true) in
          let split : file_names files ≡ file_names (take i files) ++ name ∷ file_names (drop (i + 1) files) =
          names_split file_name files i f (omega arith) c.file-item.is ∙ ap (λ (n : Name). file_names (take i files) ++ n ∷ file_names (drop (i + 1) files)) (sym name_is) in
          stands_twice (file_names files) gone (file_names (take i files)) (file_names (drop (i + 1) files)) name split (sym (c.loop-file.invariant.taken name) ∙ key)
    ] in
    (λ is. absurd (cc is), λ fine. absurd (why fine))

pub loop-file-preserved : goal.loop-file-preserved
loop-file-preserved c =
    let files = c.args.files.now in
    let i = c.loop-file.file-index in
    let f = c.file-item.result in
    let name = c.as_str-name.result.now in
    let name_is : name ≡ file_name f = c.as_str-name.ensures.value in
    let fresh : is_among (pointed c.loop-file.names.keys) name ≡ false = sym (key-among name c.loop-file.names.keys) ∙ was_not (has_key name c.loop-file.names.keys) (sym c.in_ok-insert.ensures.added ∙ c.if-not-branch.false) in
    let names : file_names (take i files) ++ name ∷ [] ≡ file_names (take (i + 1) files) =
    ap (λ (n : Name). file_names (take i files) ++ n ∷ []) name_is ∙ sym (names_more file_name files i f (omega arith) c.file-item.is) in
    subst (AreTaken c.insert.new.self.keys) names
    (more_taken c.loop-file.names.keys c.insert.new.self.keys (file_names (take i files)) c.as_str-name.result c.loop-file.invariant c.in_ok-insert.ensures.keys (sym c.is_manifest.ensures ∙ c.if-is_manifest.false) fresh)

pub returns-then-is_manifest-2-clause-clean : goal.returns-then-is_manifest-2-clause-clean
returns-then-is_manifest-2-clause-clean c =
    let files = c.args.files.now in
    let gone = c.args.gone.now in
    let j = c.loop-name.name-index in
    let it = c.name-item.result in
    let name = c.as_str.result.now in
    let whole : take c.loop-file.file-index files ≡ files = take_all c.loop-file.file-index files (omega arith) in
    let there : is_among (names_of gone) (string_bytes it) ≡ true = name_there string_bytes gone j it (omega arith) c.name-item.is in
    let why : IsClean (file_names files) (names_of gone) → ⊥ = elim c.then-is_manifest-2.branch [
      | then-is_manifest-2-via-then-is_manifest-2 w ↦
          manifest_is_gone (file_names files) (names_of gone) name (sym c.is_manifest-in-loop-name.ensures ∙ w.if-is_manifest-2.true) (subst (λ (n : Name). is_among (names_of gone) n ≡ true) (sym c.as_str.ensures.value) there)
      | then-is_manifest-2-via-else-is_manifest-2+then-contains w ↦
          let key : is_among (pointed c.loop-file.names.keys) (string_bytes it) ≡ true =
          subst (λ (n : Name). is_among (pointed c.loop-file.names.keys) n ≡ true) w.as_str-else-is_manifest-2.ensures.value
          (sym (key-among w.as_str-else-is_manifest-2.result.now c.loop-file.names.keys) ∙ sym w.contains.ensures ∙ w.if-contains.true) in
          new_is_gone (file_names files) (names_of gone) (string_bytes it) (ap (λ (fs : List NewFile). is_among (file_names fs) (string_bytes it)) (sym whole) ∙ sym (c.loop-file.invariant.taken (string_bytes it)) ∙ key) there
    ] in
    (λ is. absurd (cc is), λ fine. absurd (why fine))

pub loop-name-preserved : goal.loop-name-preserved
loop-name-preserved c =
    let files = c.args.files.now in
    let gone = c.args.gone.now in
    let j = c.loop-name.name-index in
    let it = c.name-item.result in
    let whole : take c.loop-file.file-index files ≡ files = take_all c.loop-file.file-index files (omega arith) in
    let other : is_among of_manifest (string_bytes it) ≡ false = ap (is_among of_manifest) (sym c.as_str.ensures.value) ∙ sym c.is_manifest-in-loop-name.ensures ∙ c.if-is_manifest-2.false in
    let key : is_among (pointed c.loop-file.names.keys) (string_bytes it) ≡ false =
    subst (λ (n : Name). is_among (pointed c.loop-file.names.keys) n ≡ false) c.as_str-else-is_manifest-2.ensures.value
    (sym (key-among c.as_str-else-is_manifest-2.result.now c.loop-file.names.keys) ∙ sym c.contains.ensures ∙ c.if-contains.false) in
    let old : is_among (file_names files) (string_bytes it) ≡ false = ap (λ (fs : List NewFile). is_among (file_names fs) (string_bytes it)) (sym whole) ∙ sym (c.loop-file.invariant.taken (string_bytes it)) ∙ key in
    one_less (file_names files) (names_of gone) (names_of (drop (j + 1) gone)) (string_bytes it)
    (subst (λ (xs : List (String Global)). AreLeft (file_names files) (names_of gone) (names_of xs)) (next_is gone j it (omega arith) c.name-item.is) c.loop-name.invariant) other old
