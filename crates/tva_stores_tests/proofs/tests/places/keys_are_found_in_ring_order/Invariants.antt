use Rattle.std.proofs.Common.{◌≡◌}
use Rattle.tva_index.specs.KeyRing.{ring}
use Rattle.tva_stores_tests.proofs.tests.places.keys_are_found_in_ring_order.Given as goal

-- the ring has the keys of the plain list
abbrev pub invariant-loop-round : goal.invariant-loop-round
invariant-loop-round g l = l.all ≡ ring 8 l.plain.items
