-- The names under which files stand are names that calls have given.
use Rattle.std.proofs.Common.{◌≡◌, ◌&&◌, ◌||◌, cond, Bool, true, false, List, [], ◌∷◌, ◌++◌, Option, None, Some, is_some, refl, sym, ◌∙◌, ap, String}
use Rattle.std.proofs.lemmas.Bool.{both_ways}
use Rattle.std.proofs.lemmas.List.{map-append}
use Rattle.std.specs.Str.{bytes_eq}
use Rattle.std.specs.String.{string_bytes}
use Rattle.std.specs.declared.alloc.Global.{Global}
use Rattle.qm_folder.specs.Names.{AreDistinct, Name, is_among, names_of}
use Rattle.qm_folder.specs.Disk.{Content}
use Rattle.qm_folder.specs.Memory.{IsAdded, name_given, seen_after}
use Rattle.qm_folder.specs.declared.memory_call.MemoryCall.{MemoryCall}
use Rattle.qm_folder.specs.declared.memory_call.MemoryCall.TheVariants.{Wrote, Tore, Synced, SyncedNames, Renamed, Removed, Looked, Failed}
use Rattle.qm_folder.proofs.NameLists.{neither, none_of_both, other_name, same_itself, same_name}

abbrev pub is_name : Option Name → Name → Bool
is_name None n = false
is_name (Some m) n = bytes_eq n m

abbrev pub is_given : List MemoryCall → Name → Bool
is_given [] n = false
is_given (call ∷ past) n = is_name (name_given call) n || is_given past n

-- at a test that may be either, what holds then and what holds else
at_test : (b : Bool) (x y : Content) (g : Bool) → (b ≡ true → g ≡ true) → (b ≡ false → is_some y ≡ true → g ≡ true) → is_some (cond b x y) ≡ true → g ≡ true
at_test true x y g first second stands = first refl
at_test false x y g first second stands = second refl stands

or_left : (x y : Bool) → x ≡ true → (x || y) ≡ true
or_left x y is = ap (λ (b : Bool). b || y) is

or_right : (x y : Bool) → y ≡ true → (x || y) ≡ true
or_right true y is = refl
or_right false y is = is

past_one : (b : Bool) (y : Content) (g : Bool) → (is_some y ≡ true → g ≡ true) → is_some (cond b None y) ≡ true → g ≡ true
past_one true y g second stands = absurd (cc stands)
past_one false y g second stands = second stands

seen_is_given : (calls : List MemoryCall) (n : Name) → is_some (seen_after calls n) ≡ true → is_given calls n ≡ true
seen_is_given [] n stands = absurd (cc stands)
seen_is_given (Wrote name bytes ∷ past) n stands =
    at_test (bytes_eq n (string_bytes name)) (Some bytes.items) (seen_after past n) (is_given (Wrote name bytes ∷ past) n)
    (λ is. or_left (bytes_eq n (string_bytes name)) (is_given past n) is) (λ other more. or_right (bytes_eq n (string_bytes name)) (is_given past n) (seen_is_given past n more)) stands
seen_is_given (Tore name bytes ∷ past) n stands =
    at_test (bytes_eq n (string_bytes name)) (Some bytes.items) (seen_after past n) (is_given (Tore name bytes ∷ past) n)
    (λ is. or_left (bytes_eq n (string_bytes name)) (is_given past n) is) (λ other more. or_right (bytes_eq n (string_bytes name)) (is_given past n) (seen_is_given past n more)) stands
seen_is_given (Synced name ∷ past) n stands = seen_is_given past n stands
seen_is_given (SyncedNames ∷ past) n stands = seen_is_given past n stands
seen_is_given (Renamed source target ∷ past) n stands =
    at_test (bytes_eq n (string_bytes target)) (seen_after past (string_bytes source)) (cond (bytes_eq n (string_bytes source)) None (seen_after past n)) (is_given (Renamed source target ∷ past) n)
    (λ is. or_left (bytes_eq n (string_bytes target)) (is_given past n) is)
    (λ other more. or_right (bytes_eq n (string_bytes target)) (is_given past n) (past_one (bytes_eq n (string_bytes source)) (seen_after past n) (is_given past n) (λ so. seen_is_given past n so) more)) stands
seen_is_given (Removed name ∷ past) n stands = past_one (bytes_eq n (string_bytes name)) (seen_after past n) (is_given past n) (λ so. seen_is_given past n so) stands
seen_is_given (Looked ∷ past) n stands = seen_is_given past n stands
seen_is_given (Failed ∷ past) n stands = seen_is_given past n stands

-- those that are there, and what stands of the names that these calls give, are all that stand
abbrev pub AreLeft : List MemoryCall → List Name → List MemoryCall → Type 0
AreLeft calls names rest = (n : Name) → (is_among names n || (is_given rest n && is_some (seen_after calls n))) ≡ is_some (seen_after calls n)

implied : (g s : Bool) → (s ≡ true → g ≡ true) → (g && s) ≡ s
implied true s so = refl
implied false true so = absurd (cc (so refl))
implied false false so = refl

pub all_left : (calls : List MemoryCall) → AreLeft calls [] calls
all_left calls n = implied (is_given calls n) (is_some (seen_after calls n)) (seen_is_given calls n)

or_false : (a : Bool) → (a || false) ≡ a
or_false true = refl
or_false false = refl

pub none_left : (calls : List MemoryCall) (names : List Name) → AreLeft calls names [] → (n : Name) → is_among names n ≡ is_some (seen_after calls n)
none_left calls names left n = sym (or_false (is_among names n)) ∙ left n

moves_over : (a m r s : Bool) → ((a || (m && s)) || (r && s)) ≡ (a || ((m || r) && s))
moves_over true m r s = refl
moves_over false true true true = refl
moves_over false true true false = refl
moves_over false true false true = refl
moves_over false true false false = refl
moves_over false false r s = refl

pub given_one : (calls : List MemoryCall) (names more : List Name) (call : MemoryCall) (rest : List MemoryCall) (name : Name) → name_given call ≡ Some name → AreLeft calls names (call ∷ rest) → IsAdded name calls names more → AreLeft calls more rest
given_one calls names more call rest name gives left added n =
    let stands = is_some (seen_after calls n) in
    ap (λ (b : Bool). b || (is_given rest n && stands)) (added n)
    ∙ moves_over (is_among names n) (bytes_eq n name) (is_given rest n) stands
    ∙ ap (λ (o : Option Name). is_among names n || ((is_name o n || is_given rest n) && stands)) (sym gives)
    ∙ left n

pub given_none : (calls : List MemoryCall) (names : List Name) (call : MemoryCall) (rest : List MemoryCall) → name_given call ≡ None → AreLeft calls names (call ∷ rest) → AreLeft calls names rest
given_none calls names call rest gives left n =
    ap (λ (o : Option Name). is_among names n || ((is_name o n || is_given rest n) && is_some (seen_after calls n))) (sym gives) ∙ left n

-- ---- a name is added, or it need not be

and_then : (b s : Bool) → (b ≡ true → s ≡ true) → b ≡ (b && s)
and_then true s so = sym (so refl)
and_then false s so = refl

and_not : (b s : Bool) → (b ≡ true → s ≡ false) → (b && s) ≡ false
and_not true s so = so refl
and_not false s so = refl

or_not : (a b : Bool) → b ≡ false → a ≡ (a || b)
or_not true b is = refl
or_not false b is = sym is

grouped : (a b c : Bool) → (a || (b || c)) ≡ ((a || b) || c)
grouped true b c = refl
grouped false b c = refl

pub among_last : (names : List Name) (name n : Name) → is_among (names ++ name ∷ []) n ≡ (is_among names n || bytes_eq n name)
among_last [] name n = or_false (bytes_eq n name)
among_last (m ∷ names) name n = ap (λ (b : Bool). bytes_eq n m || b) (among_last names name n) ∙ grouped (bytes_eq n m) (is_among names n) (bytes_eq n name)

pub added : (name : Name) (calls : List MemoryCall) (names : List Name) → is_some (seen_after calls name) ≡ true → IsAdded name calls names (names ++ name ∷ [])
added name calls names stands n =
    among_last names name n
    ∙ ap (λ (b : Bool). is_among names n || b) (and_then (bytes_eq n name) (is_some (seen_after calls n)) (λ same. ap (λ (m : Name). is_some (seen_after calls m)) (same_name n name same) ∙ stands))

pub not_standing : (name : Name) (calls : List MemoryCall) (names : List Name) → is_some (seen_after calls name) ≡ false → IsAdded name calls names names
not_standing name calls names away n =
    or_not (is_among names n) (bytes_eq n name && is_some (seen_after calls n))
    (and_not (bytes_eq n name) (is_some (seen_after calls n)) (λ same. ap (λ (m : Name). is_some (seen_after calls m)) (same_name n name same) ∙ away))

or_implied : (a b s : Bool) → (b ≡ true → a ≡ true) → a ≡ (a || (b && s))
or_implied true b s so = refl
or_implied false true s so = absurd (cc (so refl))
or_implied false false s so = refl

pub there_before : (name : Name) (calls : List MemoryCall) (names : List Name) → is_among names name ≡ true → IsAdded name calls names names
there_before name calls names there n =
    or_implied (is_among names n) (bytes_eq n name) (is_some (seen_after calls n)) (λ same. ap (λ (m : Name). is_among names m) (same_name n name same) ∙ there)

pub not_same : (n m : Name) → bytes_eq n m ≡ false → bytes_eq m n ≡ false
not_same n m other = other_name m n (λ same. both_ways (bytes_eq n m) other (ap (λ (x : Name). bytes_eq n x) same ∙ same_itself n))

pub distinct_more : (names : List Name) (name : Name) → AreDistinct names → is_among names name ≡ false → AreDistinct (names ++ name ∷ [])
distinct_more [] name distinct other = (refl, tt)
distinct_more (m ∷ names) name distinct other =
    let parts = neither (bytes_eq name m) (is_among names name) other in
    (among_last names name m ∙ none_of_both (is_among names m) (bytes_eq m name) distinct.0 (not_same name m parts.0), distinct_more names name distinct.1 parts.1)

-- the names of texts with one behind them
pub names_with : (old : List (String Global)) (name : Name) (new : List (String Global)) (text : String Global) → new ≡ old ++ text ∷ [] → string_bytes text ≡ name → names_of new ≡ names_of old ++ name ∷ []
names_with old name new text more is = ap names_of more ∙ map-append string_bytes old (text ∷ []) ∙ ap (λ (m : Name). names_of old ++ m ∷ []) is
