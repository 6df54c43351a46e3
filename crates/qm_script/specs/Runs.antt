-- What a whole script is answered: its lines, and what is written for them, one after another.
use Rattle.std.specs.Prelude.{◌≡◌, ◌==◌, ℕ, suc, max, if◌then◌else◌, List, [], ◌∷◌, ◌++◌, length, Option, IsSome, IsUtf8, option_map}
use Rattle.std.specs.Io.BufRead.{strip_last}
use Rattle.std.specs.Io.KnownBytes.{Appends}
use Rattle.std.specs.List.{slice_split}
use Rattle.qm_script.specs.Answers.{Step, answer_text, status_of}
use Rattle.qm_script.specs.Requests.{request_of}
use Rattle.qm_script.specs.Script.{line_request}
use Rattle.qm_script.specs.State.{State, start_state}
use Rattle.qm_script.specs.declared.answer.Answer.{Answer}
use Rattle.qm_script.specs.declared.parse.Command.{Command}

-- The lines in some pieces, of which each but the last ended at a byte 10: there one byte 13 is dropped
-- from the end. The last piece is a line where it isn't empty.
abbrev pub lines_of_pieces : List (List ℕ) → List (List ℕ)
lines_of_pieces [] = []
lines_of_pieces (last ∷ []) = if length last == 0 then [] else last ∷ []
lines_of_pieces (piece ∷ next ∷ pieces) = strip_last 13 piece ∷ lines_of_pieces (next ∷ pieces)

-- the lines of a script, which is cut at each byte 10
abbrev pub script_lines : List ℕ → List (List ℕ)
script_lines bytes = lines_of_pieces (slice_split (λ b. b == 10) bytes)

-- What is made of a line: what it asks for, and nothing where it isn't UTF-8.
pub record IsReadAs (line : List ℕ) (command : Option Command) : Type 0 where
  pub text : IsSome command → IsUtf8 line
  pub request : IsUtf8 line → option_map request_of command ≡ line_request line

-- what is written for some lines, and the exit status of a script that has no other lines
pub record Output : Type 0 where
  pub text : List ℕ
  pub status : ℕ

abbrev pub output : List ℕ → ℕ → Output
output text status = record { text = text; status = status }

-- what is written for some lines and then for others, and the worse of their statuses
abbrev pub both : Output → Output → Output
both first rest = output (first.text ++ rest.text) (max first.status rest.status)

-- The line of this number is answered with this output, by what stood before it, and leaves that.
pub record AnswersLine (s : State) (number : ℕ) (line : List ℕ) (out : Output) (t : State) : Type 0 where
  pub command : Option Command
  pub answer : Answer
  pub listing : List ℕ
  pub asked : IsReadAs line command
  pub step : Step s command answer listing t
  pub written : out ≡ output (answer_text number answer listing) (status_of answer)

-- These lines, of which the first has this number, are answered one after another, each by what the lines
-- before it left.
abbrev pub AnswersLines : State → ℕ → List (List ℕ) → Output → Type 0
AnswersLines s number [] out = out ≡ output [] 0
AnswersLines s number (line ∷ lines) out =
    (first : Output) × (t : State) × (rest : Output) × AnswersLine s number line first t × AnswersLines t (suc number) lines rest × (out ≡ both first rest)

-- What a script of these bytes writes, and the exit status that it ends with: all its lines are answered,
-- from the first, which has the number 1.
abbrev pub Answers : List ℕ → List ℕ → ℕ → Type 0
Answers bytes text status = AnswersLines start_state 1 (script_lines bytes) (output text status)

-- What a run of these bytes came to: this status, and what the writer held before and holds after it.
abbrev pub RunsTo : List ℕ → ℕ → Option (List ℕ) → Option (List ℕ) → Type 0
RunsTo bytes status before after = (text : List ℕ) × Answers bytes text status × Appends before after text
