use Rattle.tva_index.proofs.Common.{◌≡◌, ◌*◌, ◌-◌, ◌<◌, ◌≤◌, map, slice_index}
use Rattle.tva_index.proofs.tree.least_leaf.Given as goal

-- this node has the root's number
abbrev pub invariant-loop-at : goal.invariant-loop-at
invariant-loop-at g l = record {
  from : 1 ≤ l.at;
  until : l.at < 2 * l.places;
  least : slice_index (map g.N.Number.number l.nodes.items) l.at ≡ slice_index (map g.N.Number.number l.nodes.items) 1;
}

abbrev pub decreases-loop-at : goal.decreases-loop-at
decreases-loop-at g l = 2 * l.places - l.at
