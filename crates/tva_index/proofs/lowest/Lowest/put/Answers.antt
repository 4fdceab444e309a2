use Rattle.tva_index.proofs.Common.{◌≡◌, ◌+◌, ◌-◌, ◌*◌, ◌/◌, ◌<◌, ℕ, Bool, false, eqb, List, length, drop, map, set, sym, ap, ◌∙◌, subst, arith, eqb-true, drop-set-add, length-drop, length-map, map-set, AreNodesBut}
use Rattle.std.proofs.lemmas.Bool.Decides.{nat_tests}
use Rattle.tva_index.proofs.Nodes.{least_at, least_written, least_kept, nodes-leaf, number_at}
use Rattle.tva_index.proofs.lowest.Lowest.put.Goals as goal

-- the place is one of so many
within_places : {A : Type 0} (f : A → ℕ) (n p : ℕ) (xs : List A) (ys : List ℕ) → length xs ≡ 2 * n → p < length ys → drop n (map f xs) ≡ ys → p < n
within_places f n p xs ys s l e = omega (arith, l, ap (λ (v : List ℕ). length v) e, length-drop n (map f xs), length-map xs f, s)

-- the numbers, once one is written
leaves_set : {A : Type 0} (f : A → ℕ) (n p : ℕ) (v : A) (xs : List A) (ys : List ℕ) → drop n ys ≡ drop n (map f (set xs (n + p) v)) → drop n ys ≡ drop n (set (map f xs) (n + p) (f v))
leaves_set f n p v xs ys e = e ∙ ap (drop n) (map-set f xs (n + p) v)

written : {A : Type 0} (f : A → ℕ) (n p : ℕ) (v : A) (xs : List A) (ys zs : List ℕ) → drop n ys ≡ drop n (map f (set xs (n + p) v)) → drop n (map f xs) ≡ zs → drop n ys ≡ set zs p (f v)
written f n p v xs ys zs e w = leaves_set f n p v xs ys e ∙ (drop-set-add n (map f xs) p (f v) ∙ ap (λ (z : List ℕ). set z p (f v)) w)

differ : (a b : ℕ) (t : Bool) → t ≡ eqb a b → t ≡ false → a ≡ b → ⊥
differ a b t s n e = grind (arith, nat_tests)

pub mend-requires-clause-nodes : goal.mend-requires-clause-nodes
mend-requires-clause-nodes g c =
    let f = g.N.Number.number in
    let a = c.self.inside in
    let leaf = a.places + c.args.place in
    subst (λ (ys : List ℕ). AreNodesBut a.places ys (leaf / 2)) (sym (map-set f a.nodes.items leaf c.args.number)) (nodes-leaf a.places leaf (f c.args.number) (map f a.nodes.items) c.self.invariant.2 (omega arith))

pub invariant_of-self : goal.invariant_of-self
invariant_of-self g c =
    let f = g.N.Number.number in
    let a = c.self.inside in
    let mend = c.mend.ensures in
    let xs = a.nodes.items in
    let ys = c.mend.new.nodes.items in
    let within = within_places f a.places c.args.place xs c.args.self.now c.self.invariant.0 c.requires c.self.view_is in
    let root = number_at f ys 1 _ (omega (arith, mend.size, within)) c.index.ensures in
    let same = eqb-true (f c.args.number) (f c.index.result.now) (sym c.is_same.ensures ∙ c.if-is_same.true) in
    (mend.size, c.self.invariant.1, mend.nodes, λ _. least_written a.places c.args.place (f c.args.number) (map f xs) (map f ys) (length-map xs f ∙ c.self.invariant.0) (length-map ys f ∙ mend.size) mend.nodes (leaves_set f a.places c.args.place c.args.number xs (map f ys) mend.leaves) within (omega (arith, root, same)))

pub invariant_of-self-then-place-self : goal.invariant_of-self-then-place-self
invariant_of-self-then-place-self g c =
    let f = g.N.Number.number in
    let a = c.self.inside in
    let mend = c.mend.ensures in
    let leaf = c.least_leaf in
    let ys = c.mend.new.nodes.items in
    (mend.size, c.self.invariant.1, mend.nodes, λ _. least_at a.places leaf.result (leaf.result - a.places) (map f ys) mend.nodes (length-map ys f ∙ mend.size) leaf.ensures.leaf.0 leaf.ensures.leaf.1 leaf.ensures.least (omega (arith, leaf.ensures.leaf.0)))

pub invariant_of-self-else-place-self : goal.invariant_of-self-else-place-self
invariant_of-self-else-place-self g c =
    let f = g.N.Number.number in
    let a = c.self.inside in
    let mend = c.mend.ensures in
    let xs = a.nodes.items in
    let ys = c.mend.new.nodes.items in
    let within = within_places f a.places c.args.place xs c.args.self.now c.self.invariant.0 c.requires c.self.view_is in
    let root = number_at f ys 1 _ (omega (arith, mend.size, within)) c.index.ensures in
    (mend.size, c.self.invariant.1, mend.nodes, λ some. least_kept a.places c.args.place a.first (f c.args.number) (map f xs) (map f ys) (length-map xs f ∙ c.self.invariant.0) (length-map ys f ∙ mend.size) mend.nodes (leaves_set f a.places c.args.place c.args.number xs (map f ys) mend.leaves) within (λ e. differ (f c.args.number) (f c.index.result.now) c.is_same.result c.is_same.ensures c.if-is_same.false (omega (arith, e, root))) (c.self.invariant.3 some) c.if-place-self.false)

pub returns-then-is_same : goal.returns-then-is_same
returns-then-is_same g c = let a = c.self.inside in written g.N.Number.number a.places c.args.place c.args.number a.nodes.items (map g.N.Number.number c.mend.new.nodes.items) c.args.self.now c.mend.ensures.leaves c.self.view_is

pub returns-then-place-self : goal.returns-then-place-self
returns-then-place-self g c = let a = c.self.inside in written g.N.Number.number a.places c.args.place c.args.number a.nodes.items (map g.N.Number.number c.mend.new.nodes.items) c.args.self.now c.mend.ensures.leaves c.self.view_is

pub returns-else-place-self : goal.returns-else-place-self
returns-else-place-self g c = let a = c.self.inside in written g.N.Number.number a.places c.args.place c.args.number a.nodes.items (map g.N.Number.number c.mend.new.nodes.items) c.args.self.now c.mend.ensures.leaves c.self.view_is
