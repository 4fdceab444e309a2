use Rattle.tva_plan.proofs.Common.{◌≡◌, arith}
use Rattle.std.proofs.lemmas.Map.Text.{hash_map_updates_str}
use Rattle.tva_plan.proofs.Named.{named_from-before}
use Rattle.tva_plan.proofs.names.node_numbers.Goals as goal

pub loop-number-preserved : goal.loop-number-preserved
loop-number-preserved c = (
  omega arith,
  λ name.
      let put = hash_map_updates_str c.name_at.result.now c.loop-number.numbers c.insert.new.self _ c.in_ok-insert.ensures.updates name in
      named_from-before c.args.plans.now c.loop-number.number _ c.index-plans-number.result _ name _ _ (omega arith) (omega arith) c.index-plans-number.is c.name_at.ensures (c.loop-number.invariant.1 name) put,
)

pub returns : goal.returns
returns c =
    let none : c.loop-number.number ≡ 0 = omega arith in
    rw none at c.loop-number.invariant.1
