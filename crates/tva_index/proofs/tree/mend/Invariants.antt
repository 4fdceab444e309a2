use Rattle.tva_index.proofs.Common.{◌≡◌, ◌*◌, ◌<◌, length, drop, map, AreNodesBut}
use Rattle.tva_index.proofs.tree.mend.Given as goal

-- all nodes but this one are right, and the numbers below are as they were
abbrev pub invariant-loop-at : goal.invariant-loop-at
invariant-loop-at g l = record {
  size : length l.nodes.items ≡ 2 * l.places;
  within : l.at < l.places;
  nodes : AreNodesBut l.places (map g.N.Number.number l.nodes.items) l.at;
  leaves : drop l.places (map g.N.Number.number l.nodes.items) ≡ drop l.places (map g.N.Number.number l.fn.nodes.items);
}

abbrev pub decreases-loop-at : goal.decreases-loop-at
decreases-loop-at g l = l.at
