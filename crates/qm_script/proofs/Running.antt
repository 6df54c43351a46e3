-- A run of a script that is under way.
use Rattle.std.proofs.Common.{◌≡◌, ◌↔◌, ℕ, ◌<◌, suc, max, true, false, List, [], ◌∷◌, ◌++◌, length, Option, None, Some, IfSome, refl, ap, sym, subst, ◌∙◌}
use Rattle.std.proofs.Common.{append_assoc, append-nil, arith}
use Rattle.std.proofs.lemmas.Bool.{false≢true}
use Rattle.std.specs.Io.BufRead.{drop_through, first_line}
use Rattle.std.specs.Io.KnownBytes.{Appends, Keeps}
use Rattle.qm_script.specs.Lines.{pending}
use Rattle.qm_script.specs.Runs.{AnswersLine, AnswersLines, RunsTo, Output, both, output, script_lines}
use Rattle.qm_script.specs.State.{State, start_state}
use Rattle.qm_script.specs.declared.lines.Lines.{Lines}
use Rattle.qm_script.proofs.ScriptLines.{script_lines-first}

-- ---- bytes that a writer holds

Appends-none : (a : Option (List ℕ)) → Appends a a []
Appends-none None = tt
Appends-none (Some xs) = sym (append-nil xs)

pub Keeps-self : (a : Option (List ℕ)) → Keeps a a
Keeps-self None = tt
Keeps-self (Some xs) = refl

Appends-kept : (a b c : Option (List ℕ)) (text : List ℕ) → Appends a b text → Keeps b c → Appends a c text
Appends-kept None b c text h k = tt
Appends-kept (Some xs) None c text h k = absurd h
Appends-kept (Some xs) (Some ys) None text h k = absurd k
Appends-kept (Some xs) (Some ys) (Some zs) text h k = k ∙ h

Appends-more : (a b c : Option (List ℕ)) (text more : List ℕ) → Appends a b text → Appends b c more → Appends a c (text ++ more)
Appends-more None b c text more h k = tt
Appends-more (Some xs) None c text more h k = absurd h
Appends-more (Some xs) (Some ys) None text more h k = absurd k
Appends-more (Some xs) (Some ys) (Some zs) text more h k = k ∙ ap (λ l. l ++ more) h ∙ append_assoc xs text more

-- ---- outputs

both-none : (out : Output) → both out (output [] 0) ≡ out
both-none out = let m : max out.status 0 ≡ out.status = omega arith in λ i. output (append-nil out.text i) (m i)

none-both : (out : Output) → both (output [] 0) out ≡ out
none-both out = let m : max 0 out.status ≡ out.status = omega arith in λ i. output out.text (m i)

max-both : (a b c : ℕ) → max a (max b c) ≡ max (max a b) c
max-both a b c = omega arith

both-first : (x y z : Output) → both x (both y z) ≡ both (both x y) z
both-first x y z = λ i. output (sym (append_assoc x.text y.text z.text) i) (max-both x.status y.status z.status i)

-- ---- the run

-- A run of these bytes that has come to a line of this number: what is written so far, what is still to
-- come, and that the answers to what is to come make all of it answered.
pub record IsUnderWay (start : State) (bytes : List ℕ) (now : State) (number : ℕ)
    (known : Option (List ℕ)) (status : ℕ) (old new : Option (List ℕ)) : Type 0 where
  pub left : List ℕ
  pub text : List ℕ
  pub to_come : known ≡ Some left
  pub written : Appends old new text
  pub answered : (rest : Output) → AnswersLines now number (script_lines left) rest → AnswersLines start 1 (script_lines bytes) (both (output text status) rest)

begun-known : (start : State) (bytes : List ℕ) (known old : Option (List ℕ)) → known ≡ Some bytes → IsUnderWay start bytes start 1 known 0 old old
begun-known start bytes known old is =
    record {
      left = bytes;
      text = [];
      to_come = is;
      written = Appends-none old;
      answered = λ rest h. subst (AnswersLines start 1 (script_lines bytes)) (sym (none-both rest)) h;
    }

pub run-begun : (start : State) (lines : Lines) (bytes : Option (List ℕ)) (old : Option (List ℕ)) →
    ((b : List ℕ) → pending lines (Some b) ≡ Some b) → IfSome bytes (λ b. IsUnderWay start b start 1 (pending lines bytes) 0 old old)
run-begun start lines None old all = tt
run-begun start lines (Some b) old all = begun-known start b (pending lines (Some b)) old (all b)

pub run-kept : {start now : State} {bytes : List ℕ} {number status : ℕ} {known old : Option (List ℕ)} (new newer : Option (List ℕ)) →
    Keeps new newer → IsUnderWay start bytes now number known status old new → IsUnderWay start bytes now number known status old newer
run-kept {old = old} new newer kept w =
    record {
      left = w.left;
      text = w.text;
      to_come = w.to_come;
      written = Appends-kept old new newer w.text w.written kept;
      answered = w.answered;
    }

-- what holds where bytes are known, of those that are still to come
of_known : (P : List ℕ → Type 0) (known : Option (List ℕ)) (left : List ℕ) → known ≡ Some left → IfSome known P → P left
of_known P known left is h = subst (λ o. IfSome o P) is h

none_left : (left : List ℕ) → false ≡ true ↔ (0 < length left) → left ≡ []
none_left [] h = refl
none_left (b ∷ left) h = absurd (false≢true (h.1 (omega arith)))

pub run-ended : {now : State} {bytes : List ℕ} {number status : ℕ} {known old new : Option (List ℕ)} →
    IfSome known (λ b. (false ≡ true) ↔ (0 < length b)) → IsUnderWay start_state bytes now number known status old new → RunsTo bytes status old new
run-ended {now = now} {bytes = bytes} {number = number} {status = status} {known = known} ended w =
    let none : w.left ≡ [] = none_left w.left (of_known (λ b. (false ≡ true) ↔ (0 < length b)) known w.left w.to_come ended) in
    let all = w.answered (output [] 0) (subst (λ l. AnswersLines now number (script_lines l) (output [] 0)) (sym none) refl) in
    (w.text, subst (AnswersLines start_state 1 (script_lines bytes)) (both-none (output w.text status)) all, w.written)

pub run-more : {start now then : State} {bytes line text : List ℕ} {number next status made worse : ℕ} {known behind old new newer : Option (List ℕ)} →
    next ≡ suc number → worse ≡ max status made → IfSome known (λ b. (true ≡ true) ↔ (0 < length b)) → IfSome known (λ b. line ≡ first_line b) →
    IfSome known (λ b. behind ≡ Some (drop_through 10 b)) → AnswersLine now number line (output text made) then → Appends new newer text →
    IsUnderWay start bytes now number known status old new → IsUnderWay start bytes then next behind worse old newer
run-more {start = start} {now = now} {then = then} {bytes = bytes} {line = line} {text = text} {number = number} {next = next} {status = status} {made = made}
    {worse = worse} {known = known} {behind = behind} {old = old} {new = new} {newer = newer} follows worst some first rest answered appended w =
    let left = w.left in
    let out = output text made in
    let lines_left : List (List ℕ) = script_lines (drop_through 10 left) in
    let is_some : 0 < length left = (of_known (λ b. (true ≡ true) ↔ (0 < length b)) known left w.to_come some).0 refl in
    let is_first : line ≡ first_line left = of_known (λ b. line ≡ first_line b) known left w.to_come first in
    let lines : line ∷ lines_left ≡ script_lines left = ap (λ l. l ∷ lines_left) is_first ∙ sym (script_lines-first left is_some) in
    record {
      left = drop_through 10 left;
      text = w.text ++ text;
      to_come = of_known (λ b. behind ≡ Some (drop_through 10 b)) known left w.to_come rest;
      written = Appends-more old new newer w.text text w.written appended;
      answered = λ more h.
          let later = subst (λ n. AnswersLines then n lines_left more) follows h in
          let from_here : AnswersLines now number (line ∷ lines_left) (both out more) = (out, then, more, answered, later, refl) in
          let all = w.answered (both out more) (subst (λ l. AnswersLines now number l (both out more)) lines from_here) in
          subst (AnswersLines start 1 (script_lines bytes))
          (both-first (output w.text status) out more ∙ ap (λ n. both (output (w.text ++ text) n) more) (sym worst)) all;
    }
