use Rattle.tva_node.proofs.Common.{ℕ, sym, subst, RouterPlan, restart_time, IsNextLater}
use Rattle.tva_node.proofs.Making.{up_to}
use Rattle.tva_node.proofs.role.Routed.change.Goals as goal

pub returns-clause-done : goal.returns-clause-done
returns-clause-done c =
    let now = c.args.now.0 in
    up_to now c.reroute.new.self c.reroute.ensures.goes.by
    (subst (λ (p : RouterPlan). IsNextLater restart_time p.restarts c.reroute.new.self.changes.boot now) (sym c.reroute.ensures.goes.same.0)
    (subst (λ (boot : ℕ). IsNextLater restart_time c.loop-now.self.router.built.restarts boot now) (sym c.reroute.ensures.boot) c.loop-now.invariant.next))
    (c.reroute.ensures.done c.loop-now-test.false)
