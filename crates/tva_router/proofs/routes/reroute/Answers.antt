use Rattle.tva_router.proofs.Common.{List, get_or, set, ap, ◌∙◌, position, same_prefix, Route}
use Rattle.tva_router.proofs.Changed.{rerouted_set, rerouted_none}
use Rattle.tva_router.proofs.routes.reroute.Goals as goal

pub returns-in-Some : goal.returns-in-Some
returns-in-Some c =
    let none : Route = record { prefix = record { address = record { 0 = 0 }; bits = 0 }; link = 0 } in
    c.set.ensures
    ∙ ap (λ (z : List Route). set c.args.routes.now c.in-Some.place (record (get_or z c.in-Some.place none) { link = c.args.link })) c.as_slice-in-Some.ensures
    ∙ rerouted_set c.args.prefix c.args.link c.args.routes.now c.in-Some.place none c.requires.apart
    (c.in-Some.ensures.place ∙ ap (λ (z : List Route). position (λ (r : Route). same_prefix r.prefix c.args.prefix) z) c.as_slice.ensures)

pub returns-in_default : goal.returns-in_default
returns-in_default c =
    rerouted_none c.args.prefix c.args.link c.args.routes.now
    (c.in_default.ensures.place ∙ ap (λ (z : List Route). position (λ (r : Route). same_prefix r.prefix c.args.prefix) z) c.as_slice.ensures)
