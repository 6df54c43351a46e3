-- A line that begins with `doc` and a space, and has no tab, adds the document of the words behind that.
use Rattle.std.proofs.Common.{◌≡◌, ◌==◌, ℕ, false, List, ◌∷◌, ◌++◌, Some, ap, codes}
use Rattle.std.specs.List.{AllByRecursion}
use Rattle.qm_postings.specs.Document.{words_of}
use Rattle.qm_script.specs.Script.{add_document, behind_line_form, line_form_named, line_request, words_request}
use Rattle.qm_script.proofs.WordLemmas.{words-without-tabs}

pub document-asked : (text : List ℕ) → AllByRecursion (λ b. (b == 9) ≡ false) text → line_request (codes "doc " ++ text) ≡ Some (add_document (words_of text))
unfolding words_request line_form_named behind_line_form
document-asked text h = ap (λ words. words_request (codes "doc" ∷ words)) (words-without-tabs text h)
