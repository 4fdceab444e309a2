use Rattle.tva_config_entries.proofs.Items.{Collects}
use Rattle.tva_config_entries.proofs.arrays.each.Given as goal

abbrev pub invariant-loop-value : goal.invariant-loop-value
invariant-loop-value g l = Collects g.T.Kind.kind l.found.items l.array.items l.value-index
