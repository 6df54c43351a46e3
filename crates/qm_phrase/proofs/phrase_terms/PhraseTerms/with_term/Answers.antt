-- The last member is that of the last term.
use Rattle.std.proofs.Common.{◌≡◌, ◌++◌, [], ◌∷◌, length, ap, arith, subst, sym, ◌∙◌}
use Rattle.std.proofs.lemmas.List.{length-map, map-append}
use Rattle.qm_docset.specs.Lists.{lists}
use Rattle.qm_phrase.specs.TermRows.{AreInside, each_of}
use Rattle.qm_phrase.proofs.HandedIn.{each_of-push}
use Rattle.qm_phrase.proofs.phrase_terms.PhraseTerms.with_term.Goals as goal

pub returns-clause-lists : goal.returns-clause-lists
returns-clause-lists g c =
    let members = c.args.self.members.items in
    let terms = c.args.self.terms.items in
    let own = g.P.DocSet.entries c.args.postings in
    let xs = lists g.P.DocSet members in
    let long : length xs ≡ length members = length-map members g.P.DocSet.entries in
    let number : c.len.result ≡ length xs = omega (arith, c.len.ensures, long, c.args.self.members.ok.0) in
    let made = c.push.new.self.items in
    ap (λ r. each_of (lists g.P.DocSet r) made) c.in_ok-push-2.ensures.items
    ∙ ap (λ r. each_of r made) (map-append g.P.DocSet.entries members (c.args.postings ∷ []))
    ∙ ap (each_of (xs ++ own ∷ [])) (c.in_ok-push.ensures.items ∙ ap (λ n. terms ++ (c.args.offset, n) ∷ []) number)
    ∙ each_of-push xs own c.args.offset terms (subst (λ n. AreInside n terms) (sym long) c.args.self.inside)
