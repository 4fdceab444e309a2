use Rattle.tva_router.proofs.Common.{sym, ◌∙◌, position_from-zero, Route, same_prefix}
use Rattle.tva_router.proofs.Tables.{route_within}
use Rattle.tva_router.proofs.routes.place_of_prefix.Goals as goal

pub returns-clause-place : goal.returns-clause-place
returns-clause-place c =
    c.copied.ensures ∙ c.get.ensures.value ∙ c.requires.places c.args.prefix.bits c.args.prefix.address.0
    ∙ sym (position_from-zero (λ (r : Route). same_prefix r.prefix c.args.prefix) c.args.routes.now)

pub returns-clause-within : goal.returns-clause-within
returns-clause-within c = route_within (λ (r : Route). same_prefix r.prefix c.args.prefix) c.args.routes.now _ (returns-clause-place c)
