-- What a command stands for in the language.
use Rattle.qm_script.specs.Script.{Request, nothing, add_document, set_weight, end_segment, delete_document, list_documents, list_scores, count_matches}
use Rattle.qm_script.specs.Script.{list_above, list_best}
use Rattle.qm_script.specs.Spelled.{query_of}
use Rattle.qm_script.specs.declared.parse.Command.{Command}
use Rattle.qm_script.specs.declared.parse.Command.TheVariants.{Nothing, AddDocument, SetWeight, EndSegment, DeleteDocument, Ask}
use Rattle.qm_script.specs.declared.question.Question.TheVariants.{Documents, Scores, Count, Above, Best}
use Rattle.std.specs.Prelude.{string_bytes}
use Rattle.qm_postings.specs.Document.{words_of}

abbrev pub request_of : Command → Request
request_of Nothing = nothing
request_of (AddDocument words) = add_document (words_of (string_bytes words))
request_of (SetWeight word weight) = set_weight (string_bytes word) weight.score
request_of EndSegment = end_segment
request_of (DeleteDocument number) = delete_document number
request_of (Ask Documents q) = list_documents (query_of q)
request_of (Ask Scores q) = list_scores (query_of q)
request_of (Ask Count q) = count_matches (query_of q)
request_of (Ask (Above threshold) q) = list_above threshold (query_of q)
request_of (Ask (Best count) q) = list_best count (query_of q)
