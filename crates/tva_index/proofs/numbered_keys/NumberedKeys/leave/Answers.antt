use Rattle.tva_index.proofs.Common.{◌≡◌, ◌∷◌, ℕ, List, subst, arith, AreNumbered, links_of, entries_of}
use Rattle.tva_index.proofs.Ringed.{front_there, numbered_leave}
use Rattle.tva_index.proofs.numbered_keys.NumberedKeys.leave.Goals as goal

pub take_key-requires-clause-there : goal.take_key-requires-clause-there
take_key-requires-clause-there c = grind (arith, front_there)

pub invariant_of-self : goal.invariant_of-self
invariant_of-self c =
    let i = c.self.inside in
    let e : i.order.items ≡ c.in-Some.key ∷ c.take_front.new.queue.items = c.in-Some.ensures.items in
    let n = numbered_leave i.places i.first c.in-Some.key c.take_front.new.queue.items (links_of i.tree.places.items) (entries_of i.tree.places.items) i.tree.free.items
    (subst (λ (z : List ℕ). AreNumbered i.places i.first z (links_of i.tree.places.items) (entries_of i.tree.places.items) i.tree.free.items) e c.self.invariant.0)
    (links_of c.take_key.new.tree.places.items) (entries_of c.take_key.new.tree.places.items) c.take_key.new.tree.free.items c.take_key.ensures.tree c.take_key.ensures.without c.take_key.ensures.free.0 in
    (n, omega (arith, c.self.invariant.1, c.in-Some.ensures.capacity), omega (arith, c.self.invariant.2, c.take_key.ensures.free.1))
