use Rattle.tva_policy.proofs.Common.{◌≡◌, take, list_any}
use Rattle.std.specs.BTreeMap.{is_at}
use Rattle.tva_policy.proofs.sets.set_of.Given as goal

-- the set has the elements that were passed
abbrev pub invariant-loop-element : goal.invariant-loop-element
invariant-loop-element g l = (q : g.row.K.Denot) → list_any (is_at (g.K.Ord.cmp q)) l.set.keys ≡ list_any (is_at (g.K.Ord.cmp q)) (take l.element-index l.list)
