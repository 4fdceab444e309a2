use Rattle.std.proofs.Common.{◌≡◌, ◌∙◌, Result, Ok, Err, OnOk}
use Rattle.tva_nodes_tests.proofs.Common.{ℕ, ◌≤◌, FitsRow}
use Rattle.tva_base.specs.declared.packet.Flow.{Flow}
use Rattle.tva_plan.specs.declared.config.NodePlan.{NodePlan}
use Rattle.tva_plan.specs.declared.config.NodePlan.TheVariants.{Router, Host}
use Rattle.tva_rows.specs.declared.rows.RowWhat.TheVariants.{Inject}
use Rattle.tva_shim.specs.Packets.{IsCarried}
use Rattle.tva_shim.specs.declared.packets.Carried.{Carried}
use Rattle.tva_nodes_tests.proofs.tests.calls.give_row.Goals as goal

injects : (plan : NodePlan) (flow : Flow) (payload : ℕ) (carried : Carried) → payload ≤ 1600 → IsCarried carried → FitsRow plan (Inject flow payload carried)
injects (Router p) flow payload carried l is = (l, is)
injects (Host p) flow payload carried l is = (l, is)

pub post-requires-clause-fits : goal.post-requires-clause-fits
post-requires-clause-fits c = injects c.args.node.now.site.plan _ c.args.payload _ c.requires.payload tt

on_ok : {T E : Type 0} (P : Type 0) (r : Result T E) → P → OnOk r P
on_ok P (Ok x) h = h
on_ok P (Err e) h = tt

pub returns-clause-horizon : goal.returns-clause-horizon
returns-clause-horizon c = on_ok (c.post.new.self.horizon ≡ 1000) c.post.result (c.post.ensures.same.horizon ∙ c.requires.horizon)

pub returns-clause-worked : goal.returns-clause-worked
returns-clause-worked c = on_ok (c.post.new.self.worked_to ≡ 0) c.post.result (c.post.ensures.same.worked_to ∙ c.requires.worked)

pub returns-clause-stands : goal.returns-clause-stands
returns-clause-stands c = c.post.ensures.stands
