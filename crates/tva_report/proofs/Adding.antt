-- Lemmas on pairs of a boot and a grant, and on the sums of one more charge.
use Rattle.tva_report.proofs.Common.{◌≡◌, ℕ, ◌+◌, ◌≤◌, true, false, List, [], ◌∷◌, ◌++◌, map, cond, refl, sym, ◌∙◌, ap, arith, inl, inr, add-zero, zero-add, All, ◌==◌, list_any, cases_Bool, eqb-true, eq-eqb, le-ltb, map-append, All-cons, All-head, All-nil, All-tail, All-weaker, sum_by-cons, Charged, Pair, boot_among, of_boot, firsts, with_sums, bytes_of_pair, charged_bytes, pair_of, pair_sums, same_pair, add_to, pair_order}
use Rattle.std.specs.Ordering.{is_eq, nat_cmp, ordering_then}
use Rattle.std.specs.declared.cmp.Ordering.{Ordering}
use Rattle.std.specs.declared.cmp.Ordering.TheVariants.{Less, Equal, Greater}
use Rattle.std.specs.Cmp.{Equal-is}
use Rattle.std.proofs.lemmas.Map.Lookups.{exact_unsigned}
use Rattle.tva_base.specs.declared.packet.Grant.{Grant}
use Rattle.tva_base.specs.declared.packet.Flow.{Flow}
use Rattle.tva_base.specs.declared.packet.Rights.{Rights}
use Rattle.tva_base.specs.declared.addresses.Address.{Address}
use Rattle.tva_base.specs.declared.packet.Time.{Time}
use Rattle.tva_base.specs.Orders.{flow_order, grant_order, rights_order}
use Rattle.tva_flow.specs.Charges.{same_grant}
use Rattle.tva_flow.proofs.Same.{and_true, same_grant-self, same_is}
use Rattle.tva_report.proofs.Keys.{Tells, sums_push}

-- ## the test of pairs

same_pair-self : (a : Pair) → same_pair a a ≡ true
same_pair-self a = rw (eq-eqb a.boot a.boot refl, same_grant-self a.grant) refl

same_pair-is : (a b : Pair) → same_pair a b ≡ true → a ≡ b
same_pair-is a b h =
    let both = and_true (a.boot == b.boot) (same_grant a.grant b.grant) h in
    let boots = eqb-true a.boot b.boot both.0 in
    let grants = same_is a.grant b.grant both.1 in
    ap (λ (x : ℕ). let p : Pair = record { boot = x; grant = a.grant } in p) boots
    ∙ ap (λ (x : Grant). let p : Pair = record { boot = b.boot; grant = x } in p) grants

pub tells_pairs : Tells same_pair
tells_pairs = record { self = same_pair-self; same_is = same_pair-is }

-- ## the order of pairs

then_equal : (o p : Ordering) → ordering_then o p ≡ Equal → (o ≡ Equal) × (p ≡ Equal)
then_equal Less p h = absurd cc
then_equal Equal p h = (refl, h)
then_equal Greater p h = absurd cc

order-flow : (a b : Flow) → flow_order a b ≡ Equal → a ≡ b
order-flow a b h =
    let both = then_equal (nat_cmp a.src.0 b.src.0) (nat_cmp a.dst.0 b.dst.0) h in
    let src = exact_unsigned a.src.0 b.src.0 both.0 in
    let dst = exact_unsigned a.dst.0 b.dst.0 both.1 in
    ap (λ (x : ℕ). let s : Address = record { 0 = x } in let f : Flow = record { src = s; dst = a.dst } in f) src
    ∙ ap (λ (x : ℕ). let d : Address = record { 0 = x } in let f : Flow = record { src = b.src; dst = d } in f) dst

order-rights : (a b : Rights) → rights_order a b ≡ Equal → a ≡ b
order-rights a b h =
    let both = then_equal (nat_cmp a.n b.n) (nat_cmp a.t b.t) h in
    let n = exact_unsigned a.n b.n both.0 in
    let t = exact_unsigned a.t b.t both.1 in
    ap (λ (x : ℕ). let r : Rights = record { n = x; t = a.t } in r) n
    ∙ ap (λ (x : ℕ). let r : Rights = record { n = b.n; t = x } in r) t

order-grant : (a b : Grant) → grant_order a b ≡ Equal → a ≡ b
order-grant a b h =
    let outer = then_equal (flow_order a.flow b.flow) (ordering_then (rights_order a.rights b.rights) (nat_cmp a.second b.second)) h in
    let inner = then_equal (rights_order a.rights b.rights) (nat_cmp a.second b.second) outer.1 in
    let flow = order-flow a.flow b.flow outer.0 in
    let rights = order-rights a.rights b.rights inner.0 in
    let second = exact_unsigned a.second b.second inner.1 in
    ap (λ (x : Flow). let g : Grant = record { flow = x; rights = a.rights; second = a.second } in g) flow
    ∙ ap (λ (x : Rights). let g : Grant = record { flow = b.flow; rights = x; second = a.second } in g) rights
    ∙ ap (λ (x : ℕ). let g : Grant = record { flow = b.flow; rights = b.rights; second = x } in g) second

order-pair : (a b : Pair) → pair_order a b ≡ Equal → a ≡ b
order-pair a b h =
    let both = then_equal (nat_cmp a.boot b.boot) (grant_order a.grant b.grant) h in
    ap (λ (x : ℕ). let p : Pair = record { boot = x; grant = a.grant } in p) (exact_unsigned a.boot b.boot both.0)
    ∙ ap (λ (x : Grant). let p : Pair = record { boot = b.boot; grant = x } in p) (order-grant a.grant b.grant both.1)

nat_cmp-self : (n : ℕ) → nat_cmp n n ≡ Equal
nat_cmp-self n = rw (le-ltb n n (omega arith), eq-eqb n n refl) refl

order-self : (a : Pair) → pair_order a a ≡ Equal
order-self a = rw (nat_cmp-self a.boot, nat_cmp-self a.grant.flow.src.0, nat_cmp-self a.grant.flow.dst.0, nat_cmp-self a.grant.rights.n, nat_cmp-self a.grant.rights.t, nat_cmp-self a.grant.second) refl

-- the order finds what the test finds
pub order_tests : (a b : Pair) → is_eq (pair_order a b) ≡ same_pair a b
order_tests a b =
    elim (cases_Bool (same_pair a b)) [
      | inl e ↦
          let p = same_pair-is a b e in
          rw (p, order-self b, same_pair-self b) refl
      | inr e ↦
          elim (cases_Bool (is_eq (pair_order a b))) [
            | inl d ↦
                let p = order-pair a b ((Equal-is (pair_order a b)).0 d) in
                let s = same_pair-self b in
                let z = rw p at e in absurd cc
            | inr d ↦ d ∙ sym e
          ]
    ]

turned : (a b : Pair) → same_pair a b ≡ same_pair b a
turned a b =
    elim (cases_Bool (same_pair a b)) [
      | inl e ↦ let p = same_pair-is a b e in rw p refl
      | inr e ↦
          elim (cases_Bool (same_pair b a)) [
            | inl d ↦ let p = same_pair-is b a d in let s = same_pair-self a in let z = rw p at e in absurd cc
            | inr d ↦ e ∙ sym d
          ]
    ]

-- ## one more charge

module _ (restarts : List (Time × List ℕ)) where
  bytes_cons : (c : Charged) (cs : List Charged) (pair : Pair) → bytes_of_pair restarts (c ∷ cs) pair ≡ cond (same_pair (pair_of restarts c) pair) c.length 0 + bytes_of_pair restarts cs pair
  bytes_cons c cs pair =
      elim (cases_Bool (boot_among restarts c.time.0 == pair.boot)) [
        | inl e ↦ rw e (sum_by-cons (charged_bytes pair.grant) c (of_boot restarts pair.boot cs))
        | inr e ↦ rw (e, zero-add) refl
      ]

  bytes_push : (cs : List Charged) (c : Charged) (pair : Pair) → bytes_of_pair restarts (cs ++ c ∷ []) pair ≡ bytes_of_pair restarts cs pair + cond (same_pair pair (pair_of restarts c)) c.length 0
  bytes_push [] c pair = bytes_cons c [] pair ∙ rw (turned pair (pair_of restarts c), add-zero, zero-add) refl
  bytes_push (d ∷ ds) c pair =
      bytes_cons d (ds ++ c ∷ []) pair ∙ rw (bytes_push ds c pair, bytes_cons d ds pair) (omega arith)

  -- a pair without a charge has no bytes
  bytes_none : (pair : Pair) (cs : List Charged) → list_any (λ p. same_pair p pair) (map (pair_of restarts) cs) ≡ false → bytes_of_pair restarts cs pair ≡ 0
  bytes_none pair [] h = refl
  bytes_none pair (c ∷ cs) h =
      elim (cases_Bool (same_pair (pair_of restarts c) pair)) [
        | inl e ↦ let z = rw e at h in absurd cc
        | inr e ↦ bytes_cons c cs pair ∙ rw (e, bytes_none pair cs (rw e at h)) refl
      ]

  pub sums_more : (cs : List Charged) (c : Charged) → pair_sums restarts (cs ++ c ∷ []) ≡ add_to same_pair (pair_of restarts c) c.length (pair_sums restarts cs)
  sums_more cs c =
      let all = bytes_of_pair restarts (cs ++ c ∷ []) in
      ap (λ keys. with_sums all (firsts same_pair keys)) (map-append (pair_of restarts) cs (c ∷ []))
      ∙ sums_push same_pair tells_pairs (pair_of restarts c) c.length (bytes_of_pair restarts cs) all
      (bytes_push cs c) (map (pair_of restarts) cs) (bytes_none (pair_of restarts c) cs)

-- ## bounds

pub parts-add : (pair : Pair) (more most : ℕ) (sums : List (Pair × ℕ)) → All (λ s. s.1 ≤ most) sums → All (λ s. s.1 ≤ most + more) (add_to same_pair pair more sums)
parts-add pair more most [] h = All-cons (λ s. s.1 ≤ most + more) (pair, more) [] (omega arith) (All-nil (λ s. s.1 ≤ most + more))
parts-add pair more most (s ∷ sums) h =
    let here : s.1 ≤ most = All-head (λ s. s.1 ≤ most) s sums h in
    let rest = All-tail (λ s. s.1 ≤ most) s sums h in
    elim (cases_Bool (same_pair s.0 pair)) [
      | inl e ↦
          rw e (All-cons (λ s. s.1 ≤ most + more) (s.0, s.1 + more) sums (omega arith) (All-weaker (λ s. s.1 ≤ most) (λ s. s.1 ≤ most + more) (λ x l. omega arith) sums rest))
      | inr e ↦ rw e (All-cons (λ s. s.1 ≤ most + more) s (add_to same_pair pair more sums) (omega arith) (parts-add pair more most sums rest))
    ]
