use Rattle.tva_index.proofs.Common.{◌≡◌, ◌+◌, ◌%◌, ◌^◌, ◌∷◌, ℕ, List, length, subst, arith, links_of, entries_of, IsWritten, AreNumbered}
use Rattle.tva_index.proofs.Ringed.{front_there, numbered_turn}
use Rattle.tva_index.proofs.numbered_keys.NumberedKeys.turn.Goals as goal

pub renumber-requires-clause-there : goal.renumber-requires-clause-there
renumber-requires-clause-there c = grind (arith, front_there)

pub invariant_of-self : goal.invariant_of-self
invariant_of-self c =
    let i = c.self.inside in
    let e : i.order.items ≡ c.in-Some.key ∷ c.pop_front.new.self.items = c.in-Some.ensures.items in
    let m : c.len.result ≡ length c.pop_front.new.self.items = omega (arith, c.len.ensures, c.pop_front.new.self.ok.0) in
    let n = numbered_turn i.places i.first c.in-Some.key c.pop_front.new.self.items (links_of i.tree.places.items) (entries_of i.tree.places.items) i.tree.free.items
    (subst (λ (z : List ℕ). AreNumbered i.places i.first z (links_of i.tree.places.items) (entries_of i.tree.places.items) i.tree.free.items) e c.self.invariant.0)
    (links_of c.renumber.new.tree.places.items) (entries_of c.renumber.new.tree.places.items) c.renumber.new.tree.free.items c.renumber.ensures.tree
    (subst (λ (z : ℕ). IsWritten c.in-Some.key (((i.first + 1) % 2 ^ 32 + z) % 2 ^ 32) (entries_of i.tree.places.items) (entries_of c.renumber.new.tree.places.items)) m c.renumber.ensures.written) c.renumber.ensures.free.0 in
    (rw c.push_back_reserved.ensures.items n, omega (arith, c.self.invariant.1, c.in-Some.ensures.capacity, c.push_back_reserved.ensures.capacity), omega (arith, c.self.invariant.2, c.renumber.ensures.free.1))
