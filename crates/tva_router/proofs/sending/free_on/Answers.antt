use Rattle.tva_router.proofs.Common.{ℕ, Some, None, eqb, sym, ◌∙◌, arith, subst, List, LinkLimits, ArePlaces}
use Rattle.tva_router.proofs.Links.{is_at, at_within, find_nowhere}
use Rattle.tva_router.proofs.Ports.{ports-length, port-get, free-at, place-in}
use Rattle.tva_router.proofs.sending.free_on.Goals as goal

pub place_of-requires : goal.place_of-requires
place_of-requires c = subst (λ (z : List (ℕ × LinkLimits)). ArePlaces z c.args.ways.now.places) (sym c.as_slice.ensures) c.requires.ways.places

pub index-requires : goal.index-requires
index-requires c =
    let place = place-in c.args.plan.now.outgoing c.as_slice.result.now c.args.link c.place_of.result (Some c.in-Some.place) c.as_slice.ensures c.place_of.ensures.place c.in-Some.is in
    omega (
      arith,
      at_within c.args.plan.now.outgoing c.in-Some.place c.args.link (is_at c.args.plan.now.outgoing c.in-Some.place c.args.link place),
      ports-length c.args.plan.now.outgoing c.requires.ports.0 c.args.ports.now.items c.requires.ports.1,
    )

pub unreachable-requires : goal.unreachable-requires
unreachable-requires c =
    c.requires.outgoing (find_nowhere (λ (o : ℕ × LinkLimits). eqb o.0 c.args.link) c.args.plan.now.outgoing
    (place-in c.args.plan.now.outgoing c.as_slice.result.now c.args.link c.place_of.result None c.as_slice.ensures c.place_of.ensures.place c.in-None.is))

pub returns-clause-value : goal.returns-clause-value
returns-clause-value c =
    let place = place-in c.args.plan.now.outgoing c.as_slice.result.now c.args.link c.place_of.result (Some c.in-Some.place) c.as_slice.ensures c.place_of.ensures.place c.in-Some.is in
    let at = is_at c.args.plan.now.outgoing c.in-Some.place c.args.link place in
    let many = ports-length c.args.plan.now.outgoing c.requires.ports.0 c.args.ports.now.items c.requires.ports.1 in
    c.free_at.ensures.value
    ∙ sym (free-at c.args.plan.now.outgoing c.args.ports.now.items c.in-Some.place c.args.link c.index.result.now at many c.index.ensures)

pub returns-clause-soon : goal.returns-clause-soon
returns-clause-soon c last a =
    let place = place-in c.args.plan.now.outgoing c.as_slice.result.now c.args.link c.place_of.result (Some c.in-Some.place) c.as_slice.ensures c.place_of.ensures.place c.in-Some.is in
    let got = port-get c.args.plan.now.outgoing last c.args.ports.now.items c.in-Some.place c.index.result.now (c.args.link, c.index.result.now.limits)
    a (at_within c.args.plan.now.outgoing c.in-Some.place c.args.link (is_at c.args.plan.now.outgoing c.in-Some.place c.args.link place)) c.index.ensures in
    omega (arith, got.1, c.free_at.ensures.soon)
