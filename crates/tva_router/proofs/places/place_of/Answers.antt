use Rattle.tva_router.proofs.Common.{ℕ, eqb, sym, ◌∙◌, position_from-zero}
use Rattle.tva_router.proofs.Tables.{place_within}
use Rattle.tva_router.proofs.places.place_of.Goals as goal

pub returns-clause-place : goal.returns-clause-place
returns-clause-place g c =
    c.copied.ensures ∙ c.get.ensures.value ∙ c.requires c.args.link
    ∙ sym (position_from-zero (λ (o : ℕ × g.row.T.Denot). eqb o.0 c.args.link) c.args.links.now)

pub returns-clause-within : goal.returns-clause-within
returns-clause-within g c =
    place_within c.args.links.now c.args.link _
    (c.copied.ensures ∙ c.get.ensures.value ∙ c.requires c.args.link
    ∙ sym (position_from-zero (λ (o : ℕ × g.row.T.Denot). eqb o.0 c.args.link) c.args.links.now))
