use Rattle.std.proofs.Common.{◌≡◌, take}
use Rattle.qm_index.specs.Texts.{texts_draft}
use Rattle.qm_index.proofs.given_document.draft.Given as goal

abbrev pub invariant-loop-field : goal.invariant-loop-field
invariant-loop-field l = l.document ≡ texts_draft (take l.field-index l.texts)
