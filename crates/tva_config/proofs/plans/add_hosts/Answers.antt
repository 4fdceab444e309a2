use Rattle.tva_config.proofs.Common.{◌∙◌, ◌+◌, ◌<◌, ◌∷◌, length, drop, sym, ap, arith, drop_more, into_iter_items, host_plans}
use Rattle.tva_plan.specs.declared.config.NodePlan.TheVariants as node
use Rattle.tva_config.proofs.Longer.{longer}
use Rattle.tva_config.proofs.plans.add_hosts.Goals as goal

pub loop-host-preserved : goal.loop-host-preserved
loop-host-preserved c =
    let uplinks = c.args.uplinks.now in
    let i = c.loop-host.i in
    let rest = into_iter_items c.next.new.self in
    let next = c.in-Some.ensures.steps.0 in
    let long = ap length next in
    let within : i < length uplinks = omega arith in
    record {
      plans = longer c.loop-host.nodes.items c.push.new.self.items (node.Host c.host_plan.result) (host_plans (into_iter_items c.loop-host.host-iterator) (drop i uplinks))
          (host_plans rest (drop (i + 1) uplinks)) _
          (ap (λ l. host_plans l (drop i uplinks)) next
          ∙ ap (host_plans (c.in-Some.host ∷ rest)) (drop_more uplinks i 0 within)
          ∙ ap (λ p. node.Host p ∷ host_plans rest (drop (i + 1) uplinks)) (sym c.host_plan.ensures))
          c.in_ok-push.ensures.items c.loop-host.invariant.plans;
      number = omega arith;
    }
