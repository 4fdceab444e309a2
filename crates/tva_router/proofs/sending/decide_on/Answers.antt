use Rattle.tva_router.proofs.Common.{◌≡◌, ℕ, ◌≤◌, Option, Some, None, eqb, ap, ◌∙◌, subst, arith, sym, List, LinkLimits, decision, started_by, decision_by, ArePlaces}
use Rattle.tva_router.proofs.Links.{is_at, at_within, find_nowhere}
use Rattle.tva_router.proofs.Ports.{ports-length, port-get, ports-set, free-at, free-set, place-in, stands-get, stands-set}
use Rattle.tva_router.proofs.Queueing.{found}
use Rattle.tva_router.proofs.sending.decide_on.Goals as goal

pub place_of-requires : goal.place_of-requires
place_of-requires c = subst (λ (z : List (ℕ × LinkLimits)). ArePlaces z c.args.ways.now.places) (sym c.as_slice.ensures) c.requires.ways.places

pub index_mut-requires : goal.index_mut-requires
index_mut-requires c =
    let place = place-in c.args.plan.now.outgoing c.as_slice.result.now c.args.link c.place_of.result (Some c.in-Some.place) c.as_slice.ensures c.place_of.ensures.place c.in-Some.is in
    omega (
      arith,
      at_within c.args.plan.now.outgoing c.in-Some.place c.args.link (is_at c.args.plan.now.outgoing c.in-Some.place c.args.link place),
      ports-length c.args.plan.now.outgoing c.args.now.0 c.args.ports.now.items c.requires.ports,
    )

pub decide_into-requires-clause-time : goal.decide_into-requires-clause-time
decide_into-requires-clause-time c =
    let place = place-in c.args.plan.now.outgoing c.as_slice.result.now c.args.link c.place_of.result (Some c.in-Some.place) c.as_slice.ensures c.place_of.ensures.place c.in-Some.is in
    (port-get c.args.plan.now.outgoing c.args.now.0 c.args.ports.now.items c.in-Some.place c.index_mut.result.now (c.args.link, c.index_mut.result.now.limits)
    c.requires.ports (at_within c.args.plan.now.outgoing c.in-Some.place c.args.link (is_at c.args.plan.now.outgoing c.in-Some.place c.args.link place)) c.index_mut.ensures.value).1

pub decide_into-requires-clause-free : goal.decide_into-requires-clause-free
decide_into-requires-clause-free c =
    let place = place-in c.args.plan.now.outgoing c.as_slice.result.now c.args.link c.place_of.result (Some c.in-Some.place) c.as_slice.ensures c.place_of.ensures.place c.in-Some.is in
    subst (λ (n : ℕ). n ≤ c.args.now.0)
    (free-at c.args.plan.now.outgoing c.args.ports.now.items c.in-Some.place c.args.link c.index_mut.result.now (is_at c.args.plan.now.outgoing c.in-Some.place c.args.link place)
    (ports-length c.args.plan.now.outgoing c.args.now.0 c.args.ports.now.items c.requires.ports) c.index_mut.ensures.value)
    c.requires.free

pub unreachable-requires : goal.unreachable-requires
unreachable-requires c =
    c.requires.outgoing (find_nowhere (λ (o : ℕ × LinkLimits). eqb o.0 c.args.link) c.args.plan.now.outgoing
    (place-in c.args.plan.now.outgoing c.as_slice.result.now c.args.link c.place_of.result None c.as_slice.ensures c.place_of.ensures.place c.in-None.is))

pub returns-clause-ports : goal.returns-clause-ports
returns-clause-ports c =
    let place = place-in c.args.plan.now.outgoing c.as_slice.result.now c.args.link c.place_of.result (Some c.in-Some.place) c.as_slice.ensures c.place_of.ensures.place c.in-Some.is in
    let within = at_within c.args.plan.now.outgoing c.in-Some.place c.args.link (is_at c.args.plan.now.outgoing c.in-Some.place c.args.link place) in
    let got = port-get c.args.plan.now.outgoing c.args.now.0 c.args.ports.now.items c.in-Some.place c.index_mut.result.now (c.args.link, c.index_mut.result.now.limits)
    c.requires.ports within c.index_mut.ensures.value in
    ports-set c.args.plan.now.outgoing c.args.now.0 c.args.ports.now.items c.in-Some.place c.decide_into.new.self (c.args.link, c.index_mut.result.now.limits)
    c.requires.ports within (c.decide_into.ensures.same ∙ got.0) (omega (arith, c.decide_into.ensures.last))

same_limits : (link : ℕ) (a b : LinkLimits) (o : Option (ℕ × LinkLimits)) → o ≡ Some (link, a) → o ≡ Some (link, b) → a ≡ b
same_limits link a b o e f = let pair : (link, a) ≡ (link, b) = cc in ap (λ (z : ℕ × LinkLimits). z.1) pair

pub returns-clause-decision : goal.returns-clause-decision
returns-clause-decision c logs limits s f =
    let place = place-in c.args.plan.now.outgoing c.as_slice.result.now c.args.link c.place_of.result (Some c.in-Some.place) c.as_slice.ensures c.place_of.ensures.place c.in-Some.is in
    let at = is_at c.args.plan.now.outgoing c.in-Some.place c.args.link place in
    let many = ports-length c.args.plan.now.outgoing c.args.now.0 c.args.ports.now.items c.requires.ports in
    let there = found c.args.plan.now.outgoing c.in-Some.place c.args.link (c.args.link, c.index_mut.result.now.limits) place in
    let got = port-get c.args.plan.now.outgoing c.args.now.0 c.args.ports.now.items c.in-Some.place c.index_mut.result.now (c.args.link, c.index_mut.result.now.limits)
    c.requires.ports (at_within c.args.plan.now.outgoing c.in-Some.place c.args.link at) c.index_mut.ensures.value in
    subst (λ (l : LinkLimits). (decision_by c.decide_into.result c.decide_into.new.hand) ≡ decision l (logs c.args.link) c.args.now.0) (got.0 ∙ same_limits c.args.link _ limits _ there f)
    (c.decide_into.ensures.decision (logs c.args.link) (stands-get c.args.plan.now.outgoing c.args.ports.now.items logs c.in-Some.place c.args.link c.index_mut.result.now s at many c.index_mut.ensures.value))

pub returns-clause-stands : goal.returns-clause-stands
returns-clause-stands c logs s =
    let place = place-in c.args.plan.now.outgoing c.as_slice.result.now c.args.link c.place_of.result (Some c.in-Some.place) c.as_slice.ensures c.place_of.ensures.place c.in-Some.is in
    let at = is_at c.args.plan.now.outgoing c.in-Some.place c.args.link place in
    let many = ports-length c.args.plan.now.outgoing c.args.now.0 c.args.ports.now.items c.requires.ports in
    let got = port-get c.args.plan.now.outgoing c.args.now.0 c.args.ports.now.items c.in-Some.place c.index_mut.result.now (c.args.link, c.index_mut.result.now.limits)
    c.requires.ports (at_within c.args.plan.now.outgoing c.in-Some.place c.args.link at) c.index_mut.ensures.value in
    stands-set c.args.plan.now.outgoing c.args.ports.now.items logs c.in-Some.place c.args.link c.decide_into.new.self (started_by (decision_by c.decide_into.result c.decide_into.new.hand) c.args.now.0) (c.args.link, c.index_mut.result.now.limits) c.requires.plan.outgoing at s
    (c.decide_into.ensures.same ∙ got.0)
    (c.decide_into.ensures.stands (logs c.args.link) (stands-get c.args.plan.now.outgoing c.args.ports.now.items logs c.in-Some.place c.args.link c.index_mut.result.now s at many c.index_mut.ensures.value))

pub returns-clause-busy : goal.returns-clause-busy
returns-clause-busy c starts =
    let place = place-in c.args.plan.now.outgoing c.as_slice.result.now c.args.link c.place_of.result (Some c.in-Some.place) c.as_slice.ensures c.place_of.ensures.place c.in-Some.is in
    let at = is_at c.args.plan.now.outgoing c.in-Some.place c.args.link place in
    let many = ports-length c.args.plan.now.outgoing c.args.now.0 c.args.ports.now.items c.requires.ports in
    rw (free-set c.args.plan.now.outgoing c.args.ports.now.items c.in-Some.place c.args.link c.decide_into.new.self at many) (c.decide_into.ensures.busy starts)

pub returns-clause-soon : goal.returns-clause-soon
returns-clause-soon c =
    let place = place-in c.args.plan.now.outgoing c.as_slice.result.now c.args.link c.place_of.result (Some c.in-Some.place) c.as_slice.ensures c.place_of.ensures.place c.in-Some.is in
    let at = is_at c.args.plan.now.outgoing c.in-Some.place c.args.link place in
    let many = ports-length c.args.plan.now.outgoing c.args.now.0 c.args.ports.now.items c.requires.ports in
    rw (free-set c.args.plan.now.outgoing c.args.ports.now.items c.in-Some.place c.args.link c.decide_into.new.self at many) c.decide_into.ensures.soon
