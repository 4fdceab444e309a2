use Rattle.tva_index.proofs.Common.{links_of, entries_of, IsBelow}
use Rattle.tva_index.proofs.bits.leaf_below.Given as goal

-- the steps so far lead below the place
abbrev pub invariant-loop-step : goal.invariant-loop-step
invariant-loop-step l = IsBelow (links_of l.tree.places.items) (entries_of l.tree.places.items) l.fn.from.at l.led l._step
