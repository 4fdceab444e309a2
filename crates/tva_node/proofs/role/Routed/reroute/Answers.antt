use Rattle.tva_node.proofs.Common.{ℕ, map, sym, subst, ap₂, ◌∙◌, Contains, Prefix, changed_plan, links_of, rerouted, Changes, StandsOn}
use Rattle.tva_node.proofs.Making.{has_prefix, has_way, moves_on, some_move}
use Rattle.tva_node.proofs.role.Routed.reroute.Goals as goal

pub reroute-requires-clause-prefix : goal.reroute-requires-clause-prefix
reroute-requires-clause-prefix c =
    subst (λ (p : Prefix). Contains (map (λ r. r.prefix) c.args.self.now.router.plan.routes) p) (c.in-Some.ensures.some.prefix (some_move 0))
    (has_prefix c.args.now.0 c.args.self.now c.requires (some_move 0) c.in-Some.ensures.some.within)

pub reroute-requires-clause-link : goal.reroute-requires-clause-link
reroute-requires-clause-link c =
    subst (λ (k : ℕ). Contains (links_of c.args.self.now.router.plan.outgoing) k) (c.in-Some.ensures.some.link (some_move 0))
    (has_way c.args.now.0 c.args.self.now c.requires (some_move 0) c.in-Some.ensures.some.within)

pub returns-in-Some-clause-goes : goal.returns-in-Some-clause-goes
returns-in-Some-clause-goes c =
    let r = c.args.self.now in
    let m = c.in-Some.ensures.some in
    let plan = c.reroute.ensures.plan ∙ ap₂ (λ (p : Prefix) (k : ℕ). changed_plan r.router.plan.master (rerouted p k r.router.plan.routes) r.router.plan) (sym (m.prefix (some_move 0))) (sym (m.link (some_move 0))) in
    subst (λ (x : Changes). StandsOn c.args.now.0 r (record { router = c.reroute.new.self; next = r.next; changes = x })) (λ i. record { boot = sym m.rest.1 i; moves = sym m.rest.0 i; moved = sym m.on i })
    (moves_on c.args.now.0 r c.reroute.new.self (some_move 0) c.requires m.within (m.time (some_move 0)) c.reroute.ensures.last c.reroute.ensures.built plan c.reroute.ensures.stands)
