use Rattle.tva_config.proofs.Common.{◌∙◌, ◌+◌, ◌∷◌, length, sym, ap, arith, into_iter_items, router_plans, seen_owned}
use Rattle.tva_plan.specs.declared.config.NodePlan.TheVariants as node
use Rattle.tva_config.proofs.Longer.{longer}
use Rattle.tva_config.proofs.plans.router_plans.Goals as goal

pub loop-router-preserved : goal.loop-router-preserved
loop-router-preserved c =
    let links = c.args.links.now in
    let owned = seen_owned c.args.owned.now in
    let number = c.loop-router.number in
    let rest = into_iter_items c.next.new.self in
    let next = c.in-Some.ensures.steps.0 in
    let long = ap length next in
    record {
      plans = longer c.loop-router.nodes.items c.push.new.self.items (node.Router c.in_ok-plan.plan) (router_plans links owned number (into_iter_items c.loop-router.router-iterator))
          (router_plans links owned (number + 1) rest) _
          (ap (router_plans links owned number) next ∙ ap (λ p. node.Router p ∷ router_plans links owned (number + 1) rest) (sym c.in_ok-plan.ensures))
          c.in_ok-push.ensures.items c.loop-router.invariant.plans;
      number = omega arith;
    }
