use Rattle.tva_index.proofs.Common.{◌≡◌, ◌++◌, ◌*◌, ◌-◌, ◌<◌, ◌∙◌, ℕ, List, [], length, drop, map, take, replicate, Some, sym, ap, ap₂, subst, arith, drop-replicate, get_or-replicate, length-replicate, take-nil, IsLeastPlace}
use Rattle.tva_index.proofs.Nodes.{all_zero, nodes_zero}
use Rattle.tva_index.proofs.lowest.Lowest.with_places.Goals as goal

-- an empty list that was filled up
filled : {A : Type 0} (n len : ℕ) (z : A) (xs nodes : List A) → nodes ≡ [] → len ≡ 0 → xs ≡ take n nodes ++ replicate (n - len) z → xs ≡ replicate n z
filled n len z xs nodes e l q = q ∙ ap₂ ◌++◌ (ap (take n) e ∙ take-nil n) (ap (λ k. replicate k z) (omega (arith, l)))

-- the numbers are behind the inner nodes
behind : (n : ℕ) (xs : List ℕ) → xs ≡ replicate (2 * n) 0 → drop n xs ≡ replicate n 0
behind n xs e = ap (drop n) e ∙ (drop-replicate n (2 * n) 0 ∙ ap (λ m. replicate m 0) (omega arith))

first_of_zeros : (n : ℕ) → 0 < n → IsLeastPlace (replicate {A = ℕ} n 0) (Some 0)
first_of_zeros n some = grind (arith, length-replicate, get_or-replicate)

pub returns : goal.returns
returns g c =
    let made = filled (2 * c.args.places) c.in_ok-nodes.nodes.len c.zero.result c.resize.new.self.items c.in_ok-nodes.nodes.items c.in_ok-nodes.ensures.items c.in_ok-nodes.ensures.len c.in_ok-resize.ensures.items in
    behind c.args.places (map g.N.Number.number c.resize.new.self.items) (all_zero g.N.Number.number c.zero.result c.args.places c.resize.new.self.items c.zero.ensures made)

pub invariant_of-result : goal.invariant_of-result
invariant_of-result g c =
    let n = c.args.places in
    let xs = c.resize.new.self.items in
    let made = filled (2 * n) c.in_ok-nodes.nodes.len c.zero.result xs c.in_ok-nodes.nodes.items c.in_ok-nodes.ensures.items c.in_ok-nodes.ensures.len c.in_ok-resize.ensures.items in
    let ys = map g.N.Number.number xs in
    let zeros : ys ≡ replicate (2 * n) 0 = all_zero g.N.Number.number c.zero.result n xs c.zero.ensures made in (
      ap (λ zs. length zs) made ∙ length-replicate (2 * n) c.zero.result,
      c.ranges.places.fits,
      nodes_zero n (2 * n) ys (omega arith) zeros,
      λ some. subst (λ zs. IsLeastPlace zs (Some 0)) (sym (behind n ys zeros)) (first_of_zeros n some),
    )
