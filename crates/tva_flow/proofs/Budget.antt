-- No grant has twice its units.
use Rattle.tva_flow.proofs.Common.{◌≡◌, ℕ, ◌+◌, ◌*◌, ◌/◌, ◌<◌, ◌≤◌, Bool, true, false, not, ◌||◌, cond, List, [], ◌∷◌, ◌++◌, refl, sym, ap, ◌∙◌, subst, inl, inr, ◌⊎◌, zero-add, add-zero, mul_assoc, arith, append_assoc, append-nil, AllByRecursion, mul-le-mul_right, mul_comm, add-mul, cases_lt, nat_tests, div_ceil_times, sum_by-cons, sum_by-append, sum_by_push, All-head, All-tail, All-filter, All-from_recursion, Flow, Grant, credit_of, router_second, Entry, Charge, end_of, is_living, restarts, run, same_flow, same_grant, bytes_under, bytes_of, of_flow, living_count, IsAuthorised, NoChargeLater, IsNext, AreNext, StandsFor, cache, IsWithinSeconds, AreTimely, IsWithinBudget}
use Rattle.tva_flow.proofs.Same.{by_bool, same_is, same_grant-self, same_flow-self}
use Rattle.tva_flow.proofs.Pushes.{credit, credits, of_flow-push, past-push}
use Rattle.tva_flow.proofs.Steps.{run_new, run_more, end_from_dead}
use Rattle.tva_flow.proofs.Rows.{authorised_rows}
use Rattle.tva_flow.proofs.Standing.{stands-later}
use Rattle.tva_flow.proofs.Places.{timely_front}
use Rattle.tva_flow.proofs.Counting.{living_count_is, length-live_flows-le}

-- whether a charge came in its grant's seconds
abbrev IsTimely : ℕ → Charge → Type 0
IsTimely o c = IsWithinSeconds o c.time c.grant

-- a run, what stands before it, and its first charge
pub record Split (all later : List Charge) : Type 0 where
  pub before : List Charge
  pub start : Charge
  pub rest : List Charge
  pub whole : all ≡ before ++ start ∷ rest
  pub later_is : later ≡ start ∷ rest
  pub dead : is_living before start.time ≡ false

dead_from : (b : Bool) → (not b || false) ≡ true → b ≡ false
dead_from true h = absurd (cc)
dead_from false h = refl

split : (before cs : List Charge) → restarts before cs ≡ true → Split (before ++ cs) (run before cs)
split before [] h = absurd (cc)
split before (d ∷ ds) h =
    by_bool (restarts (before ++ d ∷ []) ds) (λ b. (restarts (before ++ d ∷ []) ds ≡ b) → (not (is_living before d.time) || b) ≡ true → Split (before ++ d ∷ ds) (cond b (run (before ++ d ∷ []) ds) (d ∷ ds)))
    (λ k e _. subst (λ z. Split z (run (before ++ d ∷ []) ds)) (append_assoc before (d ∷ []) ds) (split (before ++ d ∷ []) ds e))
    (λ k e q. record { before = before; start = d; rest = ds; whole = refl; later_is = refl; dead = dead_from (is_living before d.time) q })
    refl h

pub split_run : (d : Charge) (ds : List Charge) → Split (d ∷ ds) (run [] (d ∷ ds))
split_run d ds =
    by_bool (restarts (d ∷ []) ds) (λ b. Split (d ∷ ds) (cond b (run (d ∷ []) ds) (d ∷ ds)))
    (λ k. split (d ∷ []) ds k)
    (λ k. record { before = []; start = d; rest = ds; whole = refl; later_is = refl; dead = (let e : is_living [] d.time ≡ false = grind (arith, nat_tests) in e) })

-- a credit is enough for the bytes
paid : (c : Charge) → 1 ≤ c.grant.rights.n → c.length * (c.grant.rights.t * 1000000000) ≤ credit c * (1024 * c.grant.rights.n)
unfolding credit_of
paid c n =
    let d = (div_ceil_times (c.length * c.grant.rights.t * 1000000000) (1024 * c.grant.rights.n) (omega arith)).0 in
    rw (← mul_assoc c.length c.grant.rights.t 1000000000) d

-- the credits pay for the bytes
credits-ge : (g : Grant) (cs : List Charge) → 1 ≤ g.rights.n → bytes_of g cs * (g.rights.t * 1000000000) ≤ credits cs * (1024 * g.rights.n)
credits-ge g [] n = omega arith
credits-ge g (c ∷ cs) n =
    let ih = credits-ge g cs n in
    let s = sum_by-cons (bytes_under g) c cs in
    let t = sum_by-cons credit c cs in
    let here : bytes_under g c * (g.rights.t * 1000000000) ≤ credit c * (1024 * g.rights.n) = by_bool (same_grant c.grant g) (λ b. cond b c.length 0 * (g.rights.t * 1000000000) ≤ credit c * (1024 * g.rights.n))
    (λ k. subst (λ z. c.length * (z.rights.t * 1000000000) ≤ credit c * (1024 * z.rights.n)) (same_is c.grant g k) (paid c (subst (λ z. 1 ≤ z.rights.n) (sym (same_is c.grant g k)) n)))
    (λ k. omega arith) in
    rw (s, t, add-mul (bytes_under g c) (bytes_of g cs) (g.rights.t * 1000000000), add-mul (credit c) (credits cs) (1024 * g.rights.n)) (omega arith)

-- what a grant's charges from a time on add to the end
end-ge : (g : Grant) (m offset : ℕ) (cs : List Charge) → 1 ≤ g.rights.n → ((c : Charge) → same_grant c.grant g ≡ true → IsTimely offset c → m ≤ c.time + offset) → AreTimely offset cs
    → (bytes_of g cs ≡ 0) ⊎ (m * (1024 * g.rights.n) + bytes_of g cs * (g.rights.t * 1000000000) ≤ (end_of cs + offset) * (1024 * g.rights.n))
end-ge g m offset [] n t a = inl refl
end-ge g m offset (c ∷ cs) n t a =
    by_bool (same_grant c.grant g) (λ b. (same_grant c.grant g ≡ b) → (bytes_of g (c ∷ cs) ≡ 0) ⊎ (m * (1024 * g.rights.n) + bytes_of g (c ∷ cs) * (g.rights.t * 1000000000) ≤ (end_of (c ∷ cs) + offset) * (1024 * g.rights.n)))
    (λ k _. inr (
    let l : m ≤ c.time + offset = t c k (All-head (IsTimely offset) c cs a) in
    let p = credits-ge g (c ∷ cs) n in
    let e : c.time + credits (c ∷ cs) ≤ end_of (c ∷ cs) = omega arith in
    let w = mul-le-mul_right (1024 * g.rights.n) (let q : (c.time + offset) + credits (c ∷ cs) ≤ end_of (c ∷ cs) + offset = omega arith in q) in
    let y = mul-le-mul_right (1024 * g.rights.n) l in
    omega (arith, w, y, p, add-mul (c.time + offset) (credits (c ∷ cs)) (1024 * g.rights.n))))
    (λ k q.
    let s : bytes_of g (c ∷ cs) ≡ bytes_of g cs = sum_by-cons (bytes_under g) c cs ∙ ap (λ b. cond b c.length 0 + bytes_of g cs) q ∙ zero-add (bytes_of g cs) in
    let e : end_of cs + offset ≤ end_of (c ∷ cs) + offset = omega arith in
    let w = mul-le-mul_right (1024 * g.rights.n) e in
    elim (end-ge g m offset cs n t (All-tail (IsTimely offset) c cs a)) [
      | inl h ↦ inl (s ∙ h)
      | inr h ↦ inr (rw s (omega (arith, w, h)))
    ])
    refl

-- the arithmetic of the budget
fewer : (m b x k e z : ℕ) → m * k + b * x ≤ e * k → e ≤ z → z < m + x → 1 ≤ k → b < k
fewer m b x k e z h l t n =
    elim (cases_lt b k) [
      | inl y ↦ y
      | inr y ↦ absurd (
          let p = mul-le-mul_right x y in
          let q = mul-le-mul_right k l in
          let r = mul-le-mul_right k (let s : z + 1 ≤ m + x = omega arith in s) in
          omega (arith, p, q, r, add-mul z 1 k, add-mul m x k, mul_comm x k, h))
    ]

bytes-of_flow : (g : Grant) (h : List Charge) → bytes_of g h ≡ bytes_of g (of_flow g.flow h)
bytes-of_flow g [] = refl
bytes-of_flow g (c ∷ cs) = grind (arith, nat_tests, bytes-of_flow g cs, sum_by-cons (bytes_under g) c cs, sum_by-cons (bytes_under g) c (of_flow g.flow cs))

past-of_flow : (t : ℕ) (f : Flow) (h : List Charge) → NoChargeLater t h → NoChargeLater t (of_flow f h)
past-of_flow t f h p = All-filter (λ c. same_flow c.grant.flow f) (λ (c : Charge). c.time ≤ t) h p

timely-of_flow : (o : ℕ) (f : Flow) (h : List Charge) → AreTimely o h → AreTimely o (of_flow f h)
timely-of_flow o f h p = All-filter (λ c. same_flow c.grant.flow f) (IsTimely o) h p

past-mid : (t : ℕ) (xs : List Charge) (y : Charge) (ys : List Charge) → NoChargeLater t (xs ++ y ∷ ys) → y.time ≤ t
past-mid t [] y ys p = All-head (λ (c : Charge). c.time ≤ t) y ys p
past-mid t (x ∷ xs) y ys p = past-mid t xs y ys (All-tail (λ (c : Charge). c.time ≤ t) x (xs ++ y ∷ ys) p)

timely-last : (o : ℕ) (xs : List Charge) (y : Charge) → AreTimely o (xs ++ y ∷ []) → IsTimely o y
timely-last o [] y p = All-head (IsTimely o) y [] p
timely-last o (x ∷ xs) y p = timely-last o xs y (All-tail (IsTimely o) x (xs ++ y ∷ []) p)

split_push : (cs : List Charge) (c : Charge) → Split (cs ++ c ∷ []) (run [] (cs ++ c ∷ []))
split_push [] c = split_run c []
split_push (d ∷ ds) c = split_run d (ds ++ c ∷ [])

bytes_own : (c : Charge) (g : Grant) → same_grant c.grant g ≡ true → bytes_under g c ≡ c.length
bytes_own c g k = ap (λ b. cond b c.length 0) k

-- the run within the grant's units
run-within : (cs : List Charge) (c : Charge) (g : Grant) → same_grant c.grant g ≡ true → cond (is_living cs c.time) (bytes_of g (run [] cs)) 0 + c.length ≤ 1024 * g.rights.n → bytes_of g (run [] (cs ++ c ∷ [])) ≤ 1024 * g.rights.n
run-within cs c g k h = grind (arith, nat_tests, bytes_own c g k, run_more cs c, run_new cs c, sum_by_push (bytes_under g) (run [] cs) c, sum_by-cons (bytes_under g) c [])

starts_by : (g : Grant) (o : ℕ) (c : Charge) → same_grant c.grant g ≡ true → IsTimely o c → g.second * 1000000000 ≤ c.time + o
starts_by g o c k t = let e = same_is c.grant g k in let q : g.second ≤ (c.time + o) / 1000000000 = subst (λ (z : Grant). z.second ≤ router_second o c.time) e t.from in omega arith

ends_by : (g : Grant) (o : ℕ) (c : Charge) → same_grant c.grant g ≡ true → IsTimely o c → c.time + o < g.second * 1000000000 + g.rights.t * 1000000000
ends_by g o c k t = let e = same_is c.grant g k in let q : (c.time + o) / 1000000000 < g.second + g.rights.t = subst (λ (z : Grant). router_second o c.time < z.second + z.rights.t) e t.until in omega arith

-- the budget of one flow, after a charge of the grant
flow-budget : (o : ℕ) (cs : List Charge) (c : Charge) (g : Grant) → same_grant c.grant g ≡ true → 1 ≤ g.rights.n → NoChargeLater c.time cs → AreTimely o (cs ++ c ∷ [])
    → cond (is_living cs c.time) (bytes_of g (run [] cs)) 0 + c.length ≤ 1024 * g.rights.n → bytes_of g (cs ++ c ∷ []) < 2 * (1024 * g.rights.n)
flow-budget o cs c g k n p t u =
    let d = split_push cs c in
    let whole : bytes_of g (cs ++ c ∷ []) ≡ bytes_of g d.before + bytes_of g (d.start ∷ d.rest) = ap (bytes_of g) d.whole ∙ sum_by-append (bytes_under g) d.before (d.start ∷ d.rest) in
    let late : bytes_of g (d.start ∷ d.rest) ≤ 1024 * g.rights.n = rw (← d.later_is) (run-within cs c g k u) in
    let start : d.start.time ≤ c.time = past-mid c.time d.before d.start d.rest (subst (NoChargeLater c.time) d.whole (past-push c.time cs c p (omega arith))) in
    let dead = end_from_dead d.before d.start.time d.dead in
    let w = ends_by g o c k (timely-last o cs c t) in
    let front = timely_front o d.before (d.start ∷ d.rest) (subst (AreTimely o) d.whole t) in
    elim (end-ge g (g.second * 1000000000) o d.before n (λ x q y. starts_by g o x q y) front) [
      | inl z ↦ omega (arith, whole, late, z)
      | inr z ↦ (let f : bytes_of g d.before < 1024 * g.rights.n = fewer (g.second * 1000000000) (bytes_of g d.before) (g.rights.t * 1000000000) (1024 * g.rights.n) (end_of d.before + o) (c.time + o) z (omega (arith, start, dead)) w (omega arith) in omega (arith, whole, late, f))
    ]

bytes-push : (g : Grant) (h : List Charge) (c : Charge) → bytes_of g (h ++ c ∷ []) ≡ bytes_of g h + bytes_under g c
bytes-push g h c = sum_by_push (bytes_under g) h c

used-within : (slots o : ℕ) (before : List Charge) (c : Charge) → IsAuthorised slots o before c
    → cond (is_living (of_flow c.grant.flow before) c.time) (bytes_of c.grant (run [] (of_flow c.grant.flow before))) 0 + c.length ≤ 1024 * c.grant.rights.n
used-within slots o before c v = (authorised_rows slots o before c v).1

-- no grant has twice its units or more
abbrev IsSparing : List Charge → Type 0
IsSparing h = (g : Grant) → 0 < bytes_of g h → bytes_of g h < 2 * (1024 * g.rights.n)

budget-step : (slots o : ℕ) (before : List Charge) (c : Charge) → IsSparing before → IsNext slots o before c → AreTimely o (before ++ c ∷ []) → IsSparing (before ++ c ∷ [])
budget-step slots o before c w x t g =
    by_bool (same_grant c.grant g) (λ b. (same_grant c.grant g ≡ b) → 0 < bytes_of g (before ++ c ∷ []) → bytes_of g (before ++ c ∷ []) < 2 * (1024 * g.rights.n))
    (λ _ q _.
    let u = used-within slots o before c x.authorised in
    let n : 1 ≤ c.grant.rights.n = omega (arith, u, x.packet.length) in
    let e = same_is c.grant g q in
    let f : of_flow c.grant.flow (before ++ c ∷ []) ≡ of_flow c.grant.flow before ++ c ∷ [] = of_flow-push c.grant.flow before c ∙ ap (λ b. cond b (of_flow c.grant.flow before ++ c ∷ []) (of_flow c.grant.flow before)) (same_flow-self c.grant.flow) in
    subst (λ (z : Grant). bytes_of z (before ++ c ∷ []) < 2 * (1024 * z.rights.n)) e
    (rw (bytes-of_flow c.grant (before ++ c ∷ []), f)
    (flow-budget o (of_flow c.grant.flow before) c c.grant (same_grant-self c.grant) n (past-of_flow c.time c.grant.flow before x.order) (subst (AreTimely o) f (timely-of_flow o c.grant.flow (before ++ c ∷ []) t)) u)))
    (λ _ q h. let z : bytes_under g c ≡ 0 = ap (λ b. cond b c.length 0) q in
    let s : bytes_of g (before ++ c ∷ []) ≡ bytes_of g before = bytes-push g before c ∙ (ap (λ x. bytes_of g before + x) z ∙ add-zero (bytes_of g before)) in
    rw s (w g (rw s at h)))
    refl

budget_all : (slots o : ℕ) (before h : List Charge) → IsSparing before → AreNext slots o before h → AreTimely o (before ++ h) → IsSparing (before ++ h)
budget_all slots o before [] w a t = rw append-nil w
budget_all slots o before (c ∷ cs) w a t =
    let e = append_assoc before (c ∷ []) cs in
    subst IsSparing e (budget_all slots o (before ++ c ∷ []) cs
    (budget-step slots o before c w a.0 (timely_front o (before ++ c ∷ []) cs (subst (AreTimely o) (sym e) t))) a.1 (subst (AreTimely o) (sym e) t))

-- each charge has bytes, so its grant has
each : (slots o : ℕ) (h before cs : List Charge) → ((g : Grant) → bytes_of g cs ≤ bytes_of g h) → IsSparing h → AreNext slots o before cs → AllByRecursion (λ (c : Charge). bytes_of c.grant h < 2 * (1024 * c.grant.rights.n)) cs
each slots o h before [] s w a = tt
each slots o h before (c ∷ cs) s w a = (
  w c.grant (omega (arith, s c.grant, sum_by-cons (bytes_under c.grant) c cs, bytes_own c c.grant (same_grant-self c.grant), a.0.packet.length)),
  each slots o h (before ++ c ∷ []) cs (λ g. omega (arith, s g, sum_by-cons (bytes_under g) c cs)) w a.1,
)

-- no charges for which a cache stands give a grant twice its units
pub budget : (slots o : ℕ) (h : List Charge) → AreNext slots o [] h → AreTimely o h → IsWithinBudget h
budget slots o h a t =
    All-from_recursion (λ (c : Charge). bytes_of c.grant h < 2 * (1024 * c.grant.rights.n)) h
    (each slots o h [] h (λ g. omega arith) (budget_all slots o [] h (λ g x. absurd (omega arith)) a t) a)

-- no more flows live than there are slots
pub living_few : (s o last now : ℕ) (es : List Entry) (h : List Charge) → StandsFor (cache s o last es) h → last ≤ now → living_count h now ≤ s
living_few s o last now es h v l =
    omega (arith, living_count_is s o now es h (stands-later s o last now es h v l), length-live_flows-le now es, v.few)
