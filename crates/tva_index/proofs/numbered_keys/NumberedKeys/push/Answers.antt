use Rattle.tva_index.proofs.Common.{◌≡◌, ◌+◌, ◌%◌, ◌^◌, ◌<◌, ◌++◌, ◌∷◌, [], ℕ, length, None, sym, ap, subst, arith, Ring, ring, place_in, links_of, entries_of, IsPut}
use Rattle.tva_index.proofs.Ringed.{new_absent, numbered_push}
use Rattle.tva_index.proofs.numbered_keys.NumberedKeys.push.Goals as goal

pub put-requires-clause-absent : goal.put-requires-clause-absent
put-requires-clause-absent c =
    let i = c.self.inside in
    new_absent i.places i.first i.order.items (links_of i.tree.places.items) (entries_of i.tree.places.items) i.tree.free.items c.self.invariant.0 c.args.key (subst (λ (r : Ring). place_in c.args.key r.keys ≡ None) (sym c.self.view_is) c.requires.new)

pub invariant_of-self : goal.invariant_of-self
invariant_of-self c =
    let i = c.self.inside in
    let e : c.len.result ≡ length i.order.items = omega (arith, c.len.ensures, i.order.ok.0) in
    let room : length i.order.items < i.places = omega (arith, ap (λ (r : Ring). r.places) c.self.view_is, ap (λ (r : Ring). length r.keys) c.self.view_is, c.requires.room) in
    let n = numbered_push i.places i.first i.order.items (links_of i.tree.places.items) (entries_of i.tree.places.items) i.tree.free.items c.self.invariant.0 c.args.key (links_of c.put.new.tree.places.items) (entries_of c.put.new.tree.places.items) c.put.new.tree.free.items room c.put.ensures.tree
    (subst (λ (z : ℕ). IsPut c.args.key ((i.first + z) % 2 ^ 32) (entries_of i.tree.places.items) (entries_of c.put.new.tree.places.items)) e c.put.ensures.put) c.put.ensures.free.0 in
    (rw c.push_back_reserved.ensures.items n, omega (arith, c.self.invariant.1, c.push_back_reserved.ensures.capacity), omega (arith, c.self.invariant.2, c.put.ensures.free.1))

pub returns : goal.returns
returns c = rw c.push_back_reserved.ensures.items (ap (λ (r : Ring). ring r.places (r.keys ++ c.args.key ∷ [])) c.self.view_is)
