use Rattle.tva_router.proofs.Common.{◌≡◌, ℕ, List, Option, Some, None, eqb, sym, ap, ◌∙◌, subst, position, option_and_then, Address, LinkLimits, Route, RouterPlan, link_to, sent, queued, way_to, outgoing_link, StandForLogs, ◌with◌, ArePlaces, IsTableOf}
use Rattle.tva_router.proofs.Links.{find_nowhere}
use Rattle.tva_router.proofs.Ports.{stands-nothing}
use Rattle.tva_router.proofs.sending.send.Goals as goal

-- the way of a packet, by the link that its destination leads to
way-by : (plan : RouterPlan) (routes : List Route) (to dst : Address) (o : Option ℕ) → routes ≡ plan.routes → to ≡ dst → o ≡ link_to routes to
    → way_to plan dst ≡ option_and_then (outgoing_link plan) o
way-by plan routes to dst o r e l =
    sym (ap (option_and_then (outgoing_link plan)) (l ∙ (ap (λ (z : List Route). link_to z to) r ∙ ap (link_to plan.routes) e)))

-- without a place of the link there is none
nowhere : (plan : RouterPlan) (outgoing : List (ℕ × LinkLimits)) (link : ℕ) → outgoing ≡ plan.outgoing → position (λ o. eqb o.0 link) outgoing ≡ None → outgoing_link plan link ≡ None
nowhere plan outgoing link o n =
    find_nowhere (λ (o : ℕ × LinkLimits). eqb o.0 link) plan.outgoing (subst (λ (z : List (ℕ × LinkLimits)). position (λ o. eqb o.0 link) z ≡ None) o n)

pub link_to-requires : goal.link_to-requires
link_to-requires c = subst (λ (z : List Route). IsTableOf z c.args.ways.now.routes) (sym c.as_slice.ensures) c.requires.ways.routes

pub place_of-requires : goal.place_of-requires
place_of-requires c = subst (λ (z : List (ℕ × LinkLimits)). ArePlaces z c.args.ways.now.places) (sym c.as_slice-2.ensures) c.requires.ways.places

pub returns-in-None-clause-outcome : goal.returns-in-None-clause-outcome
returns-in-None-clause-outcome c logs packet s held =
    sym (ap (sent logs c.args.class packet)
    (way-by c.args.plan.now c.as_slice.result.now c.destination_in.result packet.flow.dst (Some c.in-Some.link) c.as_slice.ensures (c.destination_in.ensures packet held) (sym c.in-Some.is ∙ c.link_to.ensures)
    ∙ nowhere c.args.plan.now c.as_slice-2.result.now c.in-Some.link c.as_slice-2.ensures (sym c.place_of.ensures.place ∙ c.in-None.is)))

pub returns-in-None-clause-stands : goal.returns-in-None-clause-stands
returns-in-None-clause-stands c logs packet s held =
    subst (λ (z : Option (ℕ × LinkLimits)). StandForLogs c.args.plan.now.outgoing c.args.ports.now.items (logs with queued logs c.args.now.0 c.args.class packet z))
    (sym (way-by c.args.plan.now c.as_slice.result.now c.destination_in.result packet.flow.dst (Some c.in-Some.link) c.as_slice.ensures (c.destination_in.ensures packet held) (sym c.in-Some.is ∙ c.link_to.ensures)
    ∙ nowhere c.args.plan.now c.as_slice-2.result.now c.in-Some.link c.as_slice-2.ensures (sym c.place_of.ensures.place ∙ c.in-None.is)))
    (stands-nothing c.args.plan.now.outgoing c.args.ports.now.items logs s)
