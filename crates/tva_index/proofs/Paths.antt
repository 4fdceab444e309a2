-- Walks by the bits of keys.
use Rattle.tva_index.proofs.Common.{◌≡◌, ℕ, zero, suc, ◌+◌, ◌*◌, ◌/◌, ◌%◌, ◌^◌, ◌<◌, ◌≤◌, List, length, Option, Some, None, refl, sym, ap, ◌∙◌, subst, inl, inr, arith, option_and_then, cases_lt, cases_eq, Numbered, Led, link_at, entry_at, HasKey, IsAbsent, bits_past, link_by, spot, IsKeyTree, IsFound, IsMissing, IsBelow}

-- ## entries

-- an entry of the key, and a key without one
pub has_key : (key : ℕ) (o : Option Numbered) → HasKey key o → (n : Numbered) × (o ≡ Some n) × (n.key ≡ key)
has_key key o h = grind arith

pub key_is : (key : ℕ) (o : Option Numbered) (n : Numbered) → o ≡ Some n → n.key ≡ key → HasKey key o
key_is key o n e h = subst (HasKey key) (sym e) h

pub same_entry : (o : Option Numbered) (n m : Numbered) → o ≡ Some n → o ≡ Some m → n ≡ m
same_entry o n m e f = cc

pub no_entry : (o : Option Numbered) (n : Numbered) → o ≡ None → o ≡ Some n → ⊥
no_entry o n e f = absurd (cc)

pub no_link : (o : Option ℕ) (p : ℕ) → o ≡ None → o ≡ Some p → ⊥
no_link o p e f = absurd (cc)

pub same_place : (o : Option ℕ) (p q : ℕ) → o ≡ Some p → o ≡ Some q → p ≡ q
same_place o p q e f = cc

-- ## the bits of keys

-- keys with the same bits
same_past : (d a b : ℕ) → ((c : ℕ) → c < d → bits_past a c % 2 ≡ bits_past b c % 2) → bits_past a d ≡ bits_past b d → a ≡ b
same_past zero a b each e = e
same_past (suc d) a b each e = grind (arith, same_past d a b)

-- a number doubled so many times
doubled : ℕ → ℕ → ℕ
doubled zero m = m
doubled (suc d) m = doubled d (2 * m)

past_below : (d a m : ℕ) → a < doubled d m → bits_past a d < m
unfolding doubled
past_below zero a m l = l
past_below (suc d) a m l = let h = past_below d a (2 * m) l in omega (arith, h)

past_all : (a : ℕ) → a < 2 ^ 32 → bits_past a 32 ≡ 0
unfolding doubled
past_all a l = let h = past_below 32 a 1 l in omega (arith, h)

pub same_bits : (a b : ℕ) → a < 2 ^ 32 → b < 2 ^ 32 → ((c : ℕ) → c < 32 → bits_past a c % 2 ≡ bits_past b c % 2) → a ≡ b
same_bits a b l m each = same_past 32 a b each (past_all a l ∙ sym (past_all b m))

-- ## walks

-- a step
pub step-on : (links : List (Option ℕ)) (key depth at to : ℕ) → spot links key depth ≡ Some at → link_at links (link_by key depth at) ≡ Some to → spot links key (suc depth) ≡ Some to
step-on links key depth at to e l = ap (option_and_then (λ (p : ℕ). link_at links (link_by key depth p))) e ∙ l

step-off : (links : List (Option ℕ)) (key depth at : ℕ) → spot links key depth ≡ Some at → link_at links (link_by key depth at) ≡ None → spot links key (suc depth) ≡ None
step-off links key depth at e l = ap (option_and_then (λ (p : ℕ). link_at links (link_by key depth p))) e ∙ l

came-by : (links : List (Option ℕ)) (key depth p : ℕ) (o : Option ℕ) → option_and_then (λ (q : ℕ). link_at links (link_by key depth q)) o ≡ Some p → (q : ℕ) × (o ≡ Some q) × (link_at links (link_by key depth q) ≡ Some p)
came-by links key depth p o e = grind arith

-- the step before
pub came : (links : List (Option ℕ)) (key depth p : ℕ) → spot links key (suc depth) ≡ Some p → (q : ℕ) × (spot links key depth ≡ Some q) × (link_at links (link_by key depth q) ≡ Some p)
came links key depth p e = came-by links key depth p (spot links key depth) e

-- no step leads back from nowhere
gone : (links : List (Option ℕ)) (key depth : ℕ) → spot links key depth ≡ None → (more : ℕ) → depth ≤ more → spot links key more ≡ None
gone links key depth here zero l = let e : depth ≡ zero = omega (arith, l) in subst (λ z. spot links key z ≡ None) e here
gone links key depth here (suc more) l = elim (cases_lt depth (suc more)) [
  | inl m ↦ ap (option_and_then (λ (p : ℕ). link_at links (link_by key more p))) (gone links key depth here more (omega (arith, m)))
  | inr m ↦ (let e : depth ≡ suc more = omega (arith, l, m) in subst (λ z. spot links key z ≡ None) e here)
]

module _ (links : List (Option ℕ)) (es : List (Option Numbered)) (free : List ℕ) (t : IsKeyTree links es free) where
  -- a walk stays within the tree: at the first place, or where a link leads
  pub stays : (key depth p : ℕ) → spot links key depth ≡ Some p → p < length es
  stays key depth p e = grind (arith, t.leads)

  pub link_within : (key depth p : ℕ) → spot links key depth ≡ Some p → link_by key depth p < length links
  link_within key depth p e = let l = stays key depth p e in omega (arith, l, t.sizes)

  -- walks to one place have taken the same ways
  pub one_way : (a b d e p : ℕ) → spot links a d ≡ Some p → spot links b e ≡ Some p
      → (d ≡ e) × ((c : ℕ) → c < d → bits_past a c % 2 ≡ bits_past b c % 2) × ((c : ℕ) → c ≤ d → spot links a c ≡ spot links b c)
  one_way a b zero zero p h k = (refl, (λ c l. absurd (omega (arith, l))), λ c l. let z : c ≡ 0 = omega (arith, l) in subst (λ x. spot links a x ≡ spot links b x) (sym z) refl)
  one_way a b zero (suc e) p h k = grind (arith, t.leads)
  one_way a b (suc d) zero p h k = grind (arith, t.leads)
  one_way a b (suc d) (suc e) p h k =
      let q = came links a d p h in
      let r = came links b e p k in
      let o : link_by a d q.0 ≡ link_by b e r.0 = t.once (link_by a d q.0) (link_by b e r.0) p q.2 r.2 in
      let same : q.0 ≡ r.0 = omega (arith, o) in
      let bit : bits_past a d % 2 ≡ bits_past b e % 2 = omega (arith, o) in
      let i = one_way a b d e q.0 q.1 (subst (λ z. spot links b e ≡ Some z) (sym same) r.1) in (
        ap (λ (z : ℕ). suc z) i.0,
        λ c l. elim (cases_lt c d) [
          | inl m ↦ i.1 c m
          | inr m ↦ (let z : c ≡ d = omega (arith, l, m) in subst (λ x. bits_past a x % 2 ≡ bits_past b x % 2) (sym z) (bit ∙ ap (λ (x : ℕ). bits_past b x % 2) (sym i.0)))
        ],
        λ c l. elim (cases_lt c (suc d)) [
          | inl m ↦ i.2 c (omega (arith, m))
          | inr m ↦ (
              let z : c ≡ suc d = omega (arith, l, m) in
              subst (λ x. spot links a x ≡ spot links b x) (sym z) (h ∙ (sym k ∙ ap (λ (x : ℕ). spot links b (suc x)) (sym i.0))))
        ],
      )

  -- ## the walk to a key

  -- no entry of the key stands where the walk was
  abbrev pub IsLater : ℕ → ℕ → Type 0
  IsLater key depth = (p : ℕ) → HasKey key (entry_at es p) → (d : ℕ) → spot links key d ≡ Some p → depth < d

  -- nor before its last step
  abbrev pub IsNotBefore : ℕ → ℕ → Type 0
  IsNotBefore key depth = (p : ℕ) → HasKey key (entry_at es p) → (d : ℕ) → spot links key d ≡ Some p → depth ≤ d

  pub later_here : (key depth at : ℕ) → IsNotBefore key depth → spot links key depth ≡ Some at → (HasKey key (entry_at es at) → ⊥) → IsLater key depth
  later_here key depth at w e other p h d r = grind (arith, cases_eq, same_place)

  -- where it leads nowhere
  pub later-none : (key depth at : ℕ) → IsLater key depth → spot links key depth ≡ Some at → link_at links (link_by key depth at) ≡ None → IsAbsent es key
  later-none key depth at w e none p h =
      let n = has_key key (entry_at es p) h in
      let r = t.reached p n.0 n.1 in
      let s : spot links key r.0 ≡ Some p = subst (λ x. spot links x r.0 ≡ Some p) n.2 r.2 in
      let l = w p h r.0 s in
      no_link (spot links key r.0) p (gone links key (suc depth) (step-off links key depth at e none) r.0 (omega (arith, l))) s

  -- it ends before all bits are taken
  pub later_all : (key at : ℕ) → key < 2 ^ 32 → IsLater key 32 → spot links key 32 ≡ Some at → ⊥
  later_all key at small w e =
      let c = came links key 31 at e in
      let o = t.leads (link_by key 31 c.0) at c.2 in
      let r = t.reached at o.2 o.3 in
      let y = one_way key o.2.key 32 r.0 at e r.2 in
      let same : key ≡ o.2.key = same_bits key o.2.key small (t.small at o.2 o.3) y.1 in
      let l = w at (key_is key (entry_at es at) o.2 o.3 (sym same)) 32 e in
      absurd (omega (arith, l))

  pub later_end : (key at : ℕ) → key < 2 ^ 32 → IsNotBefore key 33 → spot links key 33 ≡ Some at → ⊥
  later_end key at small w e = let c = came links key 32 at e in later_all key c.0 small (λ p h d r. let l = w p h d r in omega (arith, l)) c.1

  -- a step of the walk
  pub goes : (key depth at bits next : ℕ) → spot links key depth ≡ Some at → bits ≡ bits_past key depth → link_at links (2 * at + bits % 2) ≡ Some next
      → (spot links key (depth + 1) ≡ Some next) × (bits / 2 ≡ bits_past key (depth + 1))
  goes key depth at bits next path same leads = grind (arith, step-on)

  -- it ends at a link that leads nowhere
  pub stops : (key depth at bits : ℕ) → key < 2 ^ 32 → depth < 33 → spot links key depth ≡ Some at → bits ≡ bits_past key depth → IsLater key depth → link_at links (2 * at + bits % 2) ≡ None
      → IsMissing links es key (2 * at + bits % 2)
  stops key depth at bits small deep path same later none = grind (arith, cases_eq, later_all, link_within, later-none)

  -- ## the way on to a place below

  pub below-start : (key : ℕ) (led : Led) → IsFound links es key led → IsBelow links es led.at led 0
  below-start key led f = grind arith

  pub below-on : (above : ℕ) (led next : Led) (steps : ℕ) → IsBelow links es above led steps → 2 * led.at ≤ next.link → next.link ≤ 2 * led.at + 1 → link_at links next.link ≡ Some next.at → IsBelow links es above next (steps + 1)
  below-on above led next steps b low high l =
      let o = t.leads next.link next.at l in
      let r = t.reached next.at o.2 o.3 in
      below-by o.2 r.0 o.3 r.1 r.2
    where
      below-by : (n : Numbered) (d : ℕ) → entry_at es next.at ≡ Some n → d ≤ 32 → spot links n.key d ≡ Some next.at → IsBelow links es above next (steps + 1)
      below-by n zero e deep s =
          let z : 0 ≡ next.at = cc in
          absurd (omega (arith, z, (t.leads next.link next.at l).0))
      below-by n (suc d) e deep s =
          let c = came links n.key d next.at s in
          let w : link_by n.key d c.0 ≡ next.link = t.once (link_by n.key d c.0) next.link next.at c.2 l in
          let same : c.0 ≡ led.at = omega (arith, w, low, high) in
          let y = one_way b.key.key n.key b.depth d led.at b.path (subst (λ x. spot links n.key d ≡ Some x) same c.1) in
          let long = b.long in
          record {
            key = n;
            entry = e;
            link = l;
            depth = suc d;
            path = s;
            passed = b.passed;
            by = sym (y.2 b.passed (omega (arith, long))) ∙ b.by;
            long = omega (arith, long, y.0);
            deep = (b.deep.0, deep);
          }

  -- the way is no longer than a key has bits
  pub below_all : (above : ℕ) (led : Led) → IsBelow links es above led 32 → ⊥
  below_all above led b = let l = b.long in let d = b.deep in absurd (omega (arith, l, d))

  -- it leads to places of the tree
  pub led_within : (above : ℕ) (led : Led) (steps : ℕ) → IsBelow links es above led steps → led.at < length es
  led_within above led steps b = (t.leads led.link led.at b.link).1

  pub below_any : (above : ℕ) (led : Led) (steps : ℕ) → IsBelow links es above led steps → IsBelow links es above led 0
  below_any above led steps b = grind arith
