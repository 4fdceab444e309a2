use Rattle.tva_config_entries.proofs.Common.{map, table_view, as_table}
use Rattle.tva_config_entries.proofs.Items.{Collects}
use Rattle.tva_config_entries.proofs.arrays.each_table.Given as goal

abbrev pub invariant-loop-value : goal.invariant-loop-value
invariant-loop-value l = Collects as_table (map (λ t. table_view t.now) l.found.items) l.array.items l.value-index
