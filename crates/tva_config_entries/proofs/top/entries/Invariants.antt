use Rattle.tva_config_entries.proofs.Common.{◌≡◌, length, drop, map, table_view, entry_step}
use Rattle.tva_config_entries.proofs.InTurn.{Continues}
use Rattle.tva_config_entries.proofs.top.entries.Given as goal

abbrev pub invariant-loop-i : goal.invariant-loop-i
invariant-loop-i g l = record {
  read : Continues (entry_step l.kind (g.T.Entry.entry_of l.version)) l.read.items (map (λ t. table_view t.now) (drop l.i l.tables)) (map (λ t. table_view t.now) l.tables);
  count : length l.read.items ≡ l.i;
}
