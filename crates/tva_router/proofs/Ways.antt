-- The route that a look-up finds is the one with the longest prefix.
use Rattle.tva_router.proofs.Common.{◌≡◌, ◌⊎◌, ℕ, ◌≤◌, max, Bool, true, false, ◌&&◌, cond, eqb, List, [], ◌∷◌, map, filter, Option, Some, None, refl, sym, subst, inl, inr, suc, arith, Contains, All, find, fold, option_map, All-nil, All-cons, holds, Address, Route, longest, leads, link_to, IsWay, leb_tells, nat_tests, rules, common_steps}
use Rattle.tva_router.proofs.Ports.{same_link}

module _ {X : Type 0} where
  pub here : (x : X) (xs : List X) → Contains (x ∷ xs) x
  here x xs = (0, omega arith, refl)

  pub there : (x y : X) (ys : List X) → Contains ys x → Contains (y ∷ ys) x
  there x y ys c = (suc c.0, omega (arith, c.1), c.2)

  pub all_at : (P : X → Type 0) (xs : List X) (x : X) → All P xs → Contains xs x → P x
  all_at P xs x a c = subst P c.2 (a c.0 x c.1)

  pub found_is : (p : X → Bool) (xs : List X) (x : X) → find p xs ≡ Some x → Contains xs x × (p x ≡ true)
  found_is p [] x f = absurd (cc)
  found_is p (y ∷ ys) x f =
      (elim (p y) as (λ b. p y ≡ b → cond b (Some y) (find p ys) ≡ Some x → Contains (y ∷ ys) x × (p x ≡ true)) [
        | true ↦ λ e g. let same : y ≡ x = cc in subst (λ (z : X). Contains (y ∷ ys) z × (p z ≡ true)) same (here y ys, e)
        | false ↦ λ e g. let r = found_is p ys x g in (there x y ys r.0, r.1)
      ]) refl f

  pub none_is : (p : X → Bool) (xs : List X) → find p xs ≡ None → All (λ x. p x ≡ false) xs
  none_is p [] f = All-nil (λ x. p x ≡ false)
  none_is p (y ∷ ys) f =
      (elim (p y) as (λ b. p y ≡ b → cond b (Some y) (find p ys) ≡ None → All (λ x. p x ≡ false) (y ∷ ys)) [
        | true ↦ λ e g. absurd (cc)
        | false ↦ λ e g. All-cons (λ x. p x ≡ false) y ys e (none_is p ys g)
      ]) refl f

-- the greatest length of those that hold the destination, and of a length to begin with
abbrev pub best : ℕ → List Route → Address → ℕ
best bits routes dst = fold max bits (map (λ r. r.prefix.bits) (filter (λ r. holds r.prefix dst) routes))

abbrev pub Within : Address → ℕ → Route → Type 0
Within dst most r = holds r.prefix dst ≡ true → r.prefix.bits ≤ most

pub greatest : (bits : ℕ) (routes : List Route) (dst : Address) → (bits ≤ best bits routes dst) × All (Within dst (best bits routes dst)) routes
greatest bits [] dst = (omega arith, All-nil (Within dst bits))
greatest bits (r ∷ rs) dst =
    (elim (holds r.prefix dst) as (λ b. holds r.prefix dst ≡ b
    → (bits ≤ fold max bits (map (λ x. x.prefix.bits) (cond b (r ∷ filter (λ x. holds x.prefix dst) rs) (filter (λ x. holds x.prefix dst) rs))))
    × All (Within dst (fold max bits (map (λ x. x.prefix.bits) (cond b (r ∷ filter (λ x. holds x.prefix dst) rs) (filter (λ x. holds x.prefix dst) rs))))) (r ∷ rs)) [
      | true ↦ λ e.
          let g = greatest (max bits r.prefix.bits) rs dst in
          (omega (arith, g.0), All-cons (Within dst (best (max bits r.prefix.bits) rs dst)) r rs (λ h. omega (arith, g.0)) g.1)
      | false ↦ λ e. let g = greatest bits rs dst in (g.0, All-cons (Within dst (best bits rs dst)) r rs (λ h. absurd (cc)) g.1)
    ]) refl

-- a route of that length that holds the destination
abbrev pub Reaches : List Route → Address → ℕ → Type 0
Reaches routes dst bits = (r : Route) × (Contains routes r × ((holds r.prefix dst ≡ true) × (r.prefix.bits ≡ bits)))

further : (r : Route) (rs : List Route) (dst : Address) (bits : ℕ) → Reaches rs dst bits → Reaches (r ∷ rs) dst bits
further r rs dst bits a = (a.0, (there a.0 r rs a.1.0, a.1.1))

pub reached : (bits : ℕ) (routes : List Route) (dst : Address) → (best bits routes dst ≡ bits) ⊎ Reaches routes dst (best bits routes dst)
reached bits [] dst = inl refl
reached bits (r ∷ rs) dst =
    (elim (holds r.prefix dst) as (λ b. holds r.prefix dst ≡ b
    → (fold max bits (map (λ x. x.prefix.bits) (cond b (r ∷ filter (λ x. holds x.prefix dst) rs) (filter (λ x. holds x.prefix dst) rs))) ≡ bits)
    ⊎ Reaches (r ∷ rs) dst (fold max bits (map (λ x. x.prefix.bits) (cond b (r ∷ filter (λ x. holds x.prefix dst) rs) (filter (λ x. holds x.prefix dst) rs))))) [
      | true ↦ λ e. elim (reached (max bits r.prefix.bits) rs dst) [
        | inl k ↦ elim (leb_tells r.prefix.bits bits) [
          | inl h ↦ inl (omega (arith, k, h.1))
          | inr h ↦ inr (r, (here r rs, (e, omega (arith, k, h.1))))
        ]
        | inr k ↦ inr (further r rs dst (best (max bits r.prefix.bits) rs dst) k)
      ]
      | false ↦ λ e. elim (reached bits rs dst) [
        | inl k ↦ inl k
        | inr k ↦ inr (further r rs dst (best bits rs dst) k)
      ]
    ]) refl

pub both : (a b : Bool) → a && b ≡ true → (a ≡ true) × (b ≡ true)
both a b e = grind arith

eqb_same : (k : ℕ) → eqb k k ≡ true
eqb_same k = grind (arith, nat_tests)

pub leads_is : (bits : ℕ) (dst : Address) (r : Route) → holds r.prefix dst ≡ true → r.prefix.bits ≡ bits → leads bits dst r ≡ true
leads_is bits dst r h k = subst (λ (n : ℕ). leads n dst r ≡ true) k (subst (λ (b : Bool). b && eqb r.prefix.bits r.prefix.bits ≡ true) (sym h) (eqb_same r.prefix.bits))

pub link_some : (o : Option Route) (link : ℕ) → option_map (λ r. r.link) o ≡ Some link → (r : Route) × ((o ≡ Some r) × (r.link ≡ link))
link_some None link e = absurd (cc)
link_some (Some r) link e = (r, (refl, cc))

pub link_none : (o : Option Route) → option_map (λ r. r.link) o ≡ None → o ≡ None
link_none None e = refl
link_none (Some r) e = absurd (cc)

-- a destination's link is that of a route whose prefix holds it, where no longer one does
pub way_leads : (routes : List Route) (dst : Address) (link : ℕ) → link_to routes dst ≡ Some link → (r : Route) × (IsWay routes dst r × (r.link ≡ link))
unfolding link_to
way_leads routes dst link e =
    let s = link_some (find (leads (longest routes dst) dst) routes) link e in
    let f = found_is (leads (longest routes dst) dst) routes s.0 s.1.0 in
    let b = both (holds s.0.prefix dst) (eqb s.0.prefix.bits (longest routes dst)) f.1 in
    let same : s.0.prefix.bits ≡ longest routes dst = same_link s.0.prefix.bits (longest routes dst) b.1 in (
      s.0,
      (
        record {
          there = f.0;
          begins = b.0;
          greatest = subst (λ (n : ℕ). All (Within dst n) routes) (sym same) (greatest 0 routes dst).1;
        },
        s.1.1,
      ),
    )

none_leads : (routes : List Route) (dst : Address) → All (λ r. leads (longest routes dst) dst r ≡ false) routes → (r : Route) → Contains routes r → holds r.prefix dst ≡ true → ⊥
none_leads routes dst a r c h =
    let most : r.prefix.bits ≤ longest routes dst = all_at (Within dst (longest routes dst)) routes r (greatest 0 routes dst).1 c h in
    elim (reached 0 routes dst) [
      | inl k ↦
          let l : leads (longest routes dst) dst r ≡ true = leads_is (longest routes dst) dst r h (omega (arith, k, most)) in
          let n = all_at (λ (x : Route). leads (longest routes dst) dst x ≡ false) routes r a c in
          absurd (cc)
      | inr k ↦
          let l : leads (longest routes dst) dst k.0 ≡ true = leads_is (longest routes dst) dst k.0 k.1.1.0 k.1.1.1 in
          let n = all_at (λ (x : Route). leads (longest routes dst) dst x ≡ false) routes k.0 a k.1.0 in
          absurd (cc)
    ]

pub not_true : (b : Bool) → (b ≡ true → ⊥) → b ≡ false
not_true true f = absurd (f refl)
not_true false f = refl

none_hold : (dst : Address) (routes : List Route) → ((r : Route) → Contains routes r → holds r.prefix dst ≡ true → ⊥) → All (λ r. holds r.prefix dst ≡ false) routes
none_hold dst [] f = All-nil (λ (r : Route). holds r.prefix dst ≡ false)
none_hold dst (r ∷ rs) f = All-cons (λ (x : Route). holds x.prefix dst ≡ false) r rs (not_true (holds r.prefix dst) (f r (here r rs))) (none_hold dst rs (λ x c. f x (there x r rs c)))

-- a destination without a link is held by no prefix
pub way_nowhere : (routes : List Route) (dst : Address) → link_to routes dst ≡ None → All (λ r. holds r.prefix dst ≡ false) routes
unfolding link_to
way_nowhere routes dst e =
    none_hold dst routes (none_leads routes dst (none_is (leads (longest routes dst) dst) routes (link_none (find (leads (longest routes dst) dst) routes) e)))
