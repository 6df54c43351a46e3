use Rattle.std.proofs.Common.{sym, ◌∙◌}
use Rattle.birchagain_bytes.proofs.Known.{known-all, known-found}
use Rattle.birchagain_bytes.proofs.index_files.is_known.Goals as goal

pub returns-clause-found : goal.returns-clause-found
returns-clause-found c = λ found.
    known-found c.args.known.now c.args.number c.binary_search.result (sym c.is_ok.ensures.value ∙ found) c.binary_search.ensures.bound c.binary_search.ensures.ok

pub returns-clause-all : goal.returns-clause-all
returns-clause-all c = λ rising.
    c.is_ok.ensures.value
    ∙ known-all c.args.known.now c.args.number c.binary_search.result c.binary_search.ensures.bound c.binary_search.ensures.ok c.binary_search.ensures.position rising
