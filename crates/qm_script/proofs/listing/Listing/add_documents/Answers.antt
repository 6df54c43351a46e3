use Rattle.std.proofs.Common.{◌≡◌, ◌∙◌, ◌+◌, ◌++◌, ◌∷◌, [], None, ap, arith, get_or, length, map, subst, take}
use Rattle.std.proofs.Math.Seq.{take-length}
use Rattle.qm_script.specs.Text.{numbered}
use Rattle.qm_script.specs.Written.{ListsSoFar}
use Rattle.qm_script.proofs.ListedSegments.{plain_item}
use Rattle.qm_script.proofs.ListingTexts.{listing-more}
use Rattle.qm_script.proofs.listing.Listing.add_documents.Goals as goal

pub loop-document-preserved : goal.loop-document-preserved
loop-document-preserved c =
    let first = c.args.self.now.first in
    let found = c.args.documents.now in
    let i = c.loop-document.document-index in
    let before = c.loop-document.invariant in
    record {
      first = c.add_document.ensures.first ∙ before.first;
      listed = λ items is. subst (λ l. ListsSoFar l c.add_document.new.self)
          (ap (λ n. (items ++ numbered first (map plain_item (take i found))) ++ (n + get_or found i 0, None) ∷ []) before.first ∙ listing-more plain_item items first found i 0 c.loop-document-test.true)
          (c.add_document.ensures.listed (items ++ numbered first (map plain_item (take i found))) (before.listed items is));
    }

pub returns-clause-listed : goal.returns-clause-listed
returns-clause-listed c = λ items is.
    let found = c.args.documents.now in
    let i = c.loop-document.document-index in
    let all : i ≡ length found = omega (arith, c.loop-document-test.false, c.loop-document.auto.document-index-end) in
    subst (λ ds. ListsSoFar (items ++ numbered c.args.self.now.first (map plain_item ds)) c.loop-document.self)
    (ap (λ n. take n found) all ∙ take-length found) (c.loop-document.invariant.listed items is)
