-- What a line finds and leaves: the documents of the lines before it, and what they say that words weigh.
use Rattle.std.specs.Prelude.{ℕ, List}
use Rattle.std.specs.FinMap.{FinMap, empty, insert}
use Rattle.qm_schema.specs.Term.{term_cmp}
use Rattle.qm_index.specs.Indexed.{statistics}
use Rattle.birchagain.specs.Body.{body_term}
use Rattle.qm_script.specs.ScriptSegments.{Script, script}
use Rattle.qm_script.specs.Start.{start_script}
use Rattle.qm_script.specs.declared.corpus.Corpus.{Corpus}

-- what a line finds and leaves: the documents, and the weights of words
pub record State : Type 0 where
  pub documents : Script
  -- the words that were given a weight, as terms
  pub weights : FinMap term_cmp ℕ

-- that of a corpus
abbrev pub state : Corpus → State
state c = record { documents = script c; weights = (statistics c.index).weights }

-- no document, and no word was given a weight
abbrev pub start_state : State
start_state = record { documents = start_script; weights = empty }

-- other documents, and the same weights
abbrev pub with_documents : State → Script → State
with_documents s documents = record { documents = documents; weights = s.weights }

-- a word weighs so much from now on
abbrev pub with_word_weight : State → List ℕ → ℕ → State
with_word_weight s word weight = record { documents = s.documents; weights = insert s.weights (body_term word) weight }
