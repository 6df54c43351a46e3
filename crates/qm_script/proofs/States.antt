-- What a corpus keeps, by its parts.
use Rattle.std.proofs.Common.{◌≡◌, ℕ}
use Rattle.std.specs.FinMap.{FinMap}
use Rattle.qm_index.specs.Indexed.{statistics}
use Rattle.qm_schema.specs.Term.{term_cmp}
use Rattle.qm_script.specs.ScriptSegments.{Script, script}
use Rattle.qm_script.specs.State.{state}
use Rattle.qm_script.specs.declared.corpus.Corpus.{Corpus}

pub is_state : (c : Corpus) (documents : Script) (weights : FinMap term_cmp ℕ) → script c ≡ documents →
    (statistics c.index).weights ≡ weights → state c ≡ record { documents = documents; weights = weights }
is_state c documents weights same_documents same_weights = λ i. record { documents = same_documents i; weights = same_weights i }
