-- Steps by the bits of an address lead to its place, and to nowhere if it has none.
use Rattle.tva_sender.proofs.Common.{◌≡◌, ℕ, zero, suc, ◌<◌, ◌≤◌, ◌/◌, ◌%◌, Bool, eqb, List, [], ◌∷◌, length, get_or, Option, Some, None, refl, sym, ap, ◌∙◌, subst, inl, inr, arith, option_and_then, cases_lt, cases_eq, eqb-false, ne_eqb, get_or_read, Node, IsNowhere, IsFirstAt, addresses_of, leaf, node, branch, bits_past, is_high, step, spot, IsTree, IsMissing}
use Rattle.std.proofs.lemmas.Bool.{eq-eqb}

-- one step
step-stays : (n : Node) (a depth at : ℕ) → n.address ≡ a → step n a depth at ≡ Some at
step-stays n a depth at e = rw (eq-eqb n.address a e) refl

step-goes : (n : Node) (a depth at : ℕ) → (n.address ≡ a → ⊥) → step n a depth at ≡ branch (is_high a depth) n
step-goes n a depth at e = rw (ne_eqb n.address a e) refl

pub next : (ns : List Node) (a depth at : ℕ) → spot ns a depth ≡ Some at → spot ns a (suc depth) ≡ step (node ns at) a depth at
next ns a depth at e = ap (option_and_then (λ (i : ℕ). step (node ns i) a depth i)) e

pub next-branch : (ns : List Node) (a depth at to : ℕ) → spot ns a depth ≡ Some at → ((node ns at).address ≡ a → ⊥) → branch (is_high a depth) (node ns at) ≡ Some to → spot ns a (suc depth) ≡ Some to
next-branch ns a depth at to e other leads = next ns a depth at e ∙ (step-goes (node ns at) a depth at other ∙ leads)

-- no step leads away from the address
stays : (ns : List Node) (a depth i : ℕ) → spot ns a depth ≡ Some i → (node ns i).address ≡ a → (more : ℕ) → depth ≤ more → spot ns a more ≡ Some i
stays ns a depth i here is zero l = let e : depth ≡ zero = omega (arith, l) in subst (λ z. spot ns a z ≡ Some i) e here
stays ns a depth i here is (suc more) l = elim (cases_lt depth (suc more)) [
  | inl m ↦ next ns a more i (stays ns a depth i here is more (omega (arith, m))) ∙ step-stays (node ns i) a more i is
  | inr m ↦ (let e : depth ≡ suc more = omega (arith, l, m) in subst (λ z. spot ns a z ≡ Some i) e here)
]

-- nor back from nowhere
gone : (ns : List Node) (a depth : ℕ) → spot ns a depth ≡ None → (more : ℕ) → depth ≤ more → spot ns a more ≡ None
gone ns a depth here zero l = let e : depth ≡ zero = omega (arith, l) in subst (λ z. spot ns a z ≡ None) e here
gone ns a depth here (suc more) l = elim (cases_lt depth (suc more)) [
  | inl m ↦ ap (option_and_then (λ (i : ℕ). step (node ns i) a more i)) (gone ns a depth here more (omega (arith, m)))
  | inr m ↦ (let e : depth ≡ suc more = omega (arith, l, m) in subst (λ z. spot ns a z ≡ None) e here)
]

-- steps lead to places
within-next : (ns : List Node) → IsTree ns → (a depth : ℕ) (o : Option ℕ) → ((i : ℕ) → o ≡ Some i → i < length ns) → (j : ℕ) → option_and_then (λ (i : ℕ). step (node ns i) a depth i) o ≡ Some j → j < length ns
within-next ns t a depth o h j e = grind (arith, cases_eq, step-stays, step-goes)

pub within : (ns : List Node) → IsTree ns → 0 < length ns → (a depth i : ℕ) → spot ns a depth ≡ Some i → i < length ns
within ns t some a zero i e = let first : 0 ≡ i = cc in omega (arith, some, first)
within ns t some a (suc depth) i e = within-next ns t a depth (spot ns a depth) (λ j h. within ns t some a depth j h) i e

-- an address stands once
one_place : (ns : List Node) → IsTree ns → (i j : ℕ) → i < length ns → j < length ns → (node ns i).address ≡ (node ns j).address → i ≡ j
one_place ns t i j li lj same =
    let a = (node ns i).address in
    let r = t.reached i li in
    let q = t.reached j lj in
    let there : spot ns a q.0 ≡ Some j = subst (λ (z : ℕ). spot ns z q.0 ≡ Some j) (sym same) q.1 in
    elim (cases_lt r.0 q.0) [
      | inl l ↦ (let s = stays ns a r.0 i r.1 refl q.0 (omega (arith, l)) in cc)
      | inr l ↦ (let s = stays ns a q.0 j there (sym same) r.0 l in cc)
    ]

-- where steps to it end nowhere, it has no place
no_place : (ns : List Node) → IsTree ns → (a at : ℕ) (high : Bool) → IsMissing ns a at high → (i : ℕ) → i < length ns → (node ns i).address ≡ a → ⊥
no_place ns t a at high m i l is =
    let r = t.reached i l in
    let there : spot ns a r.0 ≡ Some i = subst (λ (z : ℕ). spot ns z r.0 ≡ Some i) is r.1 in
    elim (cases_lt m.depth r.0) [
      | inl k ↦ (
          let turn : branch (is_high a m.depth) (node ns at) ≡ None = subst (λ (b : Bool). branch b (node ns at) ≡ None) m.turn m.nowhere in
          let none : spot ns a (suc m.depth) ≡ None = next ns a m.depth at m.here ∙ (step-goes (node ns at) a m.depth at m.other ∙ turn) in
          let g = gone ns a (suc m.depth) none r.0 (omega (arith, k)) in absurd (cc))
      | inr k ↦ (
          let s = stays ns a r.0 i there is m.depth k in
          let h = m.here in
          let same : i ≡ at = cc in m.other (subst (λ (z : ℕ). (node ns z).address ≡ a) same is))
    ]

-- the same of the list of addresses
nowhere-each : (a : ℕ) (ns : List Node) → ((i : ℕ) → i < length ns → (node ns i).address ≡ a → ⊥) → IsNowhere a (addresses_of ns)
nowhere-each a [] h = tt
nowhere-each a (n ∷ ns) h =
    (ne_eqb a n.address (λ e. h zero (omega arith) (sym e)), nowhere-each a ns (λ i l. h (suc i) (omega (arith, l))))

first-each : (a : ℕ) (ns : List Node) (at : ℕ) → at < length ns → (node ns at).address ≡ a → ((i : ℕ) → i < at → (node ns i).address ≡ a → ⊥) → IsFirstAt a (addresses_of ns) at
first-each a [] at l is h = absurd (omega (arith, l))
first-each a (n ∷ ns) zero l is h = eq-eqb a n.address (sym is)
first-each a (n ∷ ns) (suc at) l is h =
    (ne_eqb a n.address (λ e. h zero (omega arith) (sym e)), first-each a ns at (omega (arith, l)) is (λ i m. h (suc i) (omega (arith, m))))

pub each-nowhere : (a : ℕ) (ns : List Node) → IsNowhere a (addresses_of ns) → (i : ℕ) → i < length ns → (node ns i).address ≡ a → ⊥
each-nowhere a [] h i l is = absurd (omega (arith, l))
each-nowhere a (n ∷ ns) h zero l is = eqb-false a n.address h.0 (sym is)
each-nowhere a (n ∷ ns) h (suc i) l is = each-nowhere a ns h.1 i (omega (arith, l)) is

pub first_found : (ns : List Node) → IsTree ns → (a at : ℕ) → at < length ns → (node ns at).address ≡ a → IsFirstAt a (addresses_of ns) at
first_found ns t a at l is = grind (arith, first-each, one_place)

pub nowhere_missing : (ns : List Node) → IsTree ns → (a at : ℕ) (high : Bool) → IsMissing ns a at high → IsNowhere a (addresses_of ns)
nowhere_missing ns t a at high m = nowhere-each a ns (no_place ns t a at high m)

-- a walk that stands at a node goes on from it, or ends there
turn-of : (a depth bits : ℕ) (high : Bool) → bits ≡ bits_past a depth → high ≡ eqb (bits % 2) 1 → high ≡ is_high a depth
turn-of a depth bits high same turn = turn ∙ ap (λ (z : ℕ). eqb (z % 2) 1) same

pub walk-next : (ns : List Node) → IsTree ns → (a depth at bits to : ℕ) (high : Bool) (n : Node) → at < length ns → n ≡ get_or ns at n → spot ns a depth ≡ Some at → bits ≡ bits_past a depth → (n.address ≡ a → ⊥) → high ≡ eqb (bits % 2) 1 → branch high n ≡ Some to
    → (spot ns a (suc depth) ≡ Some to) × (bits / 2 ≡ bits_past a (suc depth)) × (at < to) × (to < length ns)
walk-next ns t a depth at bits to high n l is here same other turn leads =
    let there : n ≡ node ns at = get_or_read ns at n l is (leaf 0) in
    let way : branch high (node ns at) ≡ Some to = subst (λ (z : Node). branch high z ≡ Some to) there leads in
    let far = t.later at to high l way in (
      next-branch ns a depth at to here (subst (λ (z : Node). z.address ≡ a → ⊥) there other) (subst (λ (b : Bool). branch b (node ns at) ≡ Some to) (turn-of a depth bits high same turn) way),
      ap (λ (z : ℕ). z / 2) same,
      far.0,
      far.1,
    )
