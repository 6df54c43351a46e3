-- The tokens that are still to be read.
use Rattle.std.proofs.Common.{◌≡◌, ℕ, ◌+◌, List, [], ◌∷◌, Ok, Err, length, refl, sym, ap, ◌∙◌, arith}
use Rattle.qm_parser.specs.Levels.{fresh}
use Rattle.qm_parser.specs.Reading.{Gives, ◌>>=◌}
use Rattle.qm_parser.specs.Tokens.{Token}
use Rattle.qm_parser.specs.Trees.{State, end_text, step, steps, tree_of_tokens, within}
use Rattle.qm_parser.specs.Query.{Query}
use Rattle.qm_parser.specs.declared.parse_error.ParseError.{ParseError}
use Rattle.qm_parser.specs.declared.parse_error.ParseError.TheVariants.{Memory, Refused}
use Rattle.qm_parser.specs.declared.parse_error.Refusal.{Refusal}

abbrev begun : State
begun = within (fresh 0) []

-- the tokens that are left, so many, go on from this state as all of them do from the beginning
pub record Stepping (state : State) (left : List Token) (count : ℕ) (all : List Token) : Type 0 where
  pub counted : count ≡ length left
  pub same : steps state left ≡ steps begun all

unfolded : (state : State) (t : Token) (ts : List Token) → steps state (t ∷ ts) ≡ (step state t >>= λ next. steps next ts)
unfolding steps
unfolded state t ts = refl

pub stepping-more : (state next : State) (t : Token) (left rest : List Token) (count less : ℕ) (all : List Token) → Stepping state left count all →
    left ≡ t ∷ rest → less + 1 ≡ count → step state t ≡ Ok next → Stepping next rest less all
stepping-more state next t left rest count less all kept is fewer stepped =
    let counts : count ≡ length (t ∷ rest) = kept.counted ∙ ap length is in
    record {
      counted = omega arith;
      same = sym (ap (steps state) is ∙ unfolded state t rest ∙ ap (λ r. r >>= λ s. steps s rest) stepped) ∙ kept.same;
    }

tree_of : (ts : List Token) → tree_of_tokens ts ≡ (steps begun ts >>= end_text)
unfolding tree_of_tokens
tree_of ts = refl

stepping-refused : (state : State) (t : Token) (left rest : List Token) (count : ℕ) (all : List Token) (r : Refusal) → Stepping state left count all →
    left ≡ t ∷ rest → step state t ≡ Err r → tree_of_tokens all ≡ Err r
stepping-refused state t left rest count all r kept is refused =
    tree_of all ∙ ap (λ s. s >>= end_text) (sym kept.same ∙ ap (steps state) is ∙ unfolded state t rest ∙ ap (λ s. s >>= λ next. steps next rest) refused)

-- a token that was refused
pub stepping-error : {V T : Type 0} (view : V → Query) (state_view : T → State) (state : State) (t : Token) (left rest : List Token) (count : ℕ) (all : List Token) (e : ParseError) →
    Stepping state left count all → left ≡ t ∷ rest → Gives state_view (Err e) (step state t) → Gives view (Err e) (tree_of_tokens all)
stepping-error view state_view state t left rest count all Memory kept is refused = tt
stepping-error view state_view state t left rest count all (Refused r) kept is refused = stepping-refused state t left rest count all r kept is refused

ended : (state : State) (left : List Token) → length left ≡ 0 → steps state left ≡ Ok state
unfolding steps
ended state [] none = refl
ended state (t ∷ left) none = absurd (omega arith)

-- all tokens were read
pub stepping-done : (state : State) (left : List Token) (count : ℕ) (all : List Token) → Stepping state left count all → count ≡ 0 → tree_of_tokens all ≡ end_text state
stepping-done state left count all kept none =
    tree_of all ∙ ap (λ s. s >>= end_text) (sym kept.same ∙ ended state left (sym kept.counted ∙ none))
