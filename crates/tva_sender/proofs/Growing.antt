-- The tree with one address more.
use Rattle.tva_sender.proofs.Common.{◌≡◌, ℕ, zero, suc, ◌+◌, ◌<◌, Bool, cond, eqb, List, [], ◌∷◌, ◌++◌, length, set, Option, Some, None, sym, ap, ◌∙◌, subst, inl, inr, ◌⊎◌, arith, option_and_then, cases_lt, cases_eq, ne_eqb, get_or-set_same, get_or-set_other, get_or_append_left, get_or_push, get_or-map, length-set, length_push, map-append, map-set, set-get_or, Node, addresses_of, leaf, node, branch, with_branch, is_high, step, spot, IsTree, IsMissing}
use Rattle.tva_sender.proofs.Tree.{within}

-- a branch that leads somewhere else
same_address : (n : Node) (high : Bool) (to : ℕ) → (with_branch n high to).address ≡ n.address
same_address n high to = grind arith

leads : (n : Node) (high : Bool) (to : ℕ) → branch high (with_branch n high to) ≡ Some to
leads n high to = grind arith

still_leads : (n : Node) (high other : Bool) (to j : ℕ) → branch other n ≡ Some j → branch high n ≡ None → branch other (with_branch n high to) ≡ Some j
still_leads n high other to j e none = grind arith

led_before : (n : Node) (high other : Bool) (to j : ℕ) → branch other (with_branch n high to) ≡ Some j → (branch other n ≡ Some j) ⊎ (j ≡ to)
led_before n high other to j e = grind arith

no_leaf : (a : ℕ) (high : Bool) (j : ℕ) → branch high (leaf a) ≡ Some j → ⊥
no_leaf a high j e = grind arith

choice-still : (b : Bool) (n : Node) (high other : Bool) (to at j : ℕ) → cond b (Some at) (branch other n) ≡ Some j → branch high n ≡ None → cond b (Some at) (branch other (with_branch n high to)) ≡ Some j
choice-still b n high other to at j e none = grind (arith, still_leads)

step-still : (n : Node) (high : Bool) (to a depth at j : ℕ) → step n a depth at ≡ Some j → branch high n ≡ None → step (with_branch n high to) a depth at ≡ Some j
step-still n high to a depth at j e none = cc (same_address n high to, choice-still (eqb n.address a) n high (is_high a depth) to at j e none)

abbrev pub grown : List Node → ℕ → ℕ → Bool → List Node
grown ns a at high = set ns at (with_branch (node ns at) high (length ns)) ++ leaf a ∷ []

module _ (ns : List Node) (t : IsTree ns) (a at : ℕ) (high : Bool) (m : IsMissing ns a at high) where
  size : length (grown ns a at high) ≡ length ns + 1
  size = length_push (set ns at (with_branch (node ns at) high (length ns))) (leaf a) ∙ ap (λ (n : ℕ). n + 1) (length-set ns at (with_branch (node ns at) high (length ns)))

  node-at : node (grown ns a at high) at ≡ with_branch (node ns at) high (length ns)
  node-at = grind (arith, get_or_append_left, length-set, get_or-set_same)

  node-other : (i : ℕ) → i < length ns → (i ≡ at → ⊥) → node (grown ns a at high) i ≡ node ns i
  node-other i l other = grind (arith, get_or_append_left, length-set, get_or-set_other)

  node-new : node (grown ns a at high) (length ns) ≡ leaf a
  node-new = simp (get_or_push, length-set)

  -- steps lead where they led
  step-grown : (p depth i j : ℕ) → i < length ns → step (node ns i) p depth i ≡ Some j → step (node (grown ns a at high) i) p depth i ≡ Some j
  step-grown p depth i j l e = grind (arith, cases_eq, node-at, step-still, node-other)

  spot-next : (p depth j : ℕ) (o u : Option ℕ) → ((i : ℕ) → o ≡ Some i → (u ≡ Some i) × (i < length ns))
      → option_and_then (λ (i : ℕ). step (node ns i) p depth i) o ≡ Some j → option_and_then (λ (i : ℕ). step (node (grown ns a at high) i) p depth i) u ≡ Some j
  spot-next p depth j o u h e = grind (arith, step-grown)

  spot-grown : (p depth i : ℕ) → spot ns p depth ≡ Some i → spot (grown ns a at high) p depth ≡ Some i
  spot-grown p zero i e = e
  spot-grown p (suc depth) i e =
      spot-next p depth i (spot ns p depth) (spot (grown ns a at high) p depth)
      (λ j h. (spot-grown p depth j h, within ns t (omega (arith, m.within)) p depth j h)) e

  address-grown : (i : ℕ) → i < length ns → (node (grown ns a at high) i).address ≡ (node ns i).address
  address-grown i l = grind (arith, cases_eq, node-at, same_address, node-other)

  -- and one more leads to the new place
  spot-new : spot (grown ns a at high) a (suc m.depth) ≡ Some (length ns)
  spot-new = grind (arith, ne_eqb, same_address, spot-grown, node-at)

  later-old : (i j : ℕ) (b : Bool) → i < length ns → branch b (node ns i) ≡ Some j → (i < j) × (j < length (grown ns a at high))
  later-old i j b l e = let k = t.later i j b l e in (k.0, omega (arith, k.1, size))

  later-grown : (i j : ℕ) (b : Bool) → i < length ns → branch b (node (grown ns a at high) i) ≡ Some j → (i < j) × (j < length (grown ns a at high))
  later-grown i j b l e = elim (cases_eq i at) [
    | inl is ↦ (
        let here : branch b (with_branch (node ns i) high (length ns)) ≡ Some j = subst (λ (n : Node). branch b n ≡ Some j) (subst (λ (z : ℕ). node (grown ns a at high) z ≡ with_branch (node ns z) high (length ns)) (sym is) node-at) e in
        elim (led_before (node ns i) high b (length ns) j here) [
          | inl k ↦ later-old i j b l k
          | inr k ↦ (omega (arith, l, k), omega (arith, k, size))
        ])
    | inr other ↦ later-old i j b l (subst (λ (n : Node). branch b n ≡ Some j) (node-other i l other) e)
  ]

  pub tree-grown : IsTree (grown ns a at high)
  tree-grown = record {
    later = λ i j b l e. elim (cases_lt i (length ns)) [
      | inl k ↦ later-grown i j b k e
      | inr k ↦ (
          let last : i ≡ length ns = omega (arith, l, k, size) in
          let none : branch b (leaf a) ≡ Some j = subst (λ (n : Node). branch b n ≡ Some j) (subst (λ (z : ℕ). node (grown ns a at high) z ≡ leaf a) (sym last) node-new) e in
          absurd (no_leaf a b j none))
    ];
    reached = λ i l. elim (cases_lt i (length ns)) [
      | inl k ↦ (
          let r = t.reached i k in
          (r.0, subst (λ (z : ℕ). spot (grown ns a at high) z r.0 ≡ Some i) (sym (address-grown i k)) (spot-grown (node ns i).address r.0 i r.1)))
      | inr k ↦ (
          let last : i ≡ length ns = omega (arith, l, k, size) in (
            suc m.depth,
            subst (λ (z : ℕ). spot (grown ns a at high) (node (grown ns a at high) z).address (suc m.depth) ≡ Some z) (sym last)
                (subst (λ (z : ℕ). spot (grown ns a at high) z (suc m.depth) ≡ Some (length ns)) (sym (ap (λ (n : Node). n.address) node-new)) spot-new),
          ))
    ];
  }

  pub addresses-grown : addresses_of (grown ns a at high) ≡ addresses_of ns ++ a ∷ []
  addresses-grown =
      let n = with_branch (node ns at) high (length ns) in
      let kept : set (addresses_of ns) at n.address ≡ addresses_of ns =
      subst (λ (z : ℕ). set (addresses_of ns) at z ≡ addresses_of ns)
      (get_or-map (λ (x : Node). x.address) ns at (leaf 0) 0 m.within ∙ sym (same_address (node ns at) high (length ns)))
      (set-get_or (addresses_of ns) at 0) in
      map-append (λ (x : Node). x.address) (set ns at n) (leaf a ∷ [])
      ∙ ap (λ (z : List ℕ). z ++ a ∷ []) (map-set (λ (x : Node). x.address) ns at n ∙ kept)
