use Rattle.std.proofs.Common.{ap, subst, sym}
use Rattle.qm_script.specs.Requests.{request_of}
use Rattle.qm_script.specs.Script.{AreWords, words_request}
use Rattle.qm_script.specs.Spelled.{Gives}
use Rattle.qm_script.proofs.WordLemmas.{line-words}
use Rattle.qm_script.proofs.parse.parse_text.Goals as goal

pub parse_words-requires : goal.parse_words-requires
parse_words-requires c = subst AreWords (sym c.new-words.ensures) (line-words c.args.text.now)

pub returns : goal.returns
returns c = subst (Gives request_of c.parse_words.result) (ap words_request c.new-words.ensures) c.parse_words.ensures
