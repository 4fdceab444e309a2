use Rattle.tva_audit.proofs.Common.{◌≡◌, List, ◌++◌, drop, Event, picked, from_source, event_node, sum_told, AreTallied, sums_among}
use Rattle.tva_audit.proofs.tallies.sums_of.Given as goal

-- the sums of the routers up to here; those of the others are still to come
abbrev pub invariant-loop-place : goal.invariant-loop-place
invariant-loop-place l =
    (told : List Event) → AreTallied l.config told l.tallies
    → l.all.items ++ picked (λ number plan. sum_told number plan (from_source event_node number told)) l.place (drop l.place l.nodes) ≡ sums_among l.config told
