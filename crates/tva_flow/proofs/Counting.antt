-- As many flows live as entries do.
use Rattle.tva_flow.proofs.Common.{◌≡◌, ℕ, ◌+◌, ◌<◌, ◌≤◌, Bool, true, false, ◌&&◌, cond, ltb, List, [], ◌∷◌, length, get_or, Option, Some, None, refl, sym, ap, ◌∙◌, subst, inl, inr, zero, suc, arith, and_right, count_by, nat_tests, sum_by-cons, All, AllByRecursion, recursion_from_All, Entry, Flow, Charge, same_flow, is_living, of_flow, lives, has_flow, flows, living_count, IsKept, StandsFor, cache, entry_of, AreApart}
use Rattle.tva_flow.proofs.Same.{flow_tells, by_bool, by_flow}
use Rattle.tva_flow.proofs.Standing.{stands-later}
use Rattle.tva_flow.proofs.Steps.{by_lt, kept_cases, not_living}

abbrev pub has : Flow → List Flow → Bool
has f [] = false
has f (x ∷ xs) = cond (same_flow x f) true (has f xs)

abbrev pub AreDistinct : List Flow → Type 0
AreDistinct [] = Unit {0}
AreDistinct (x ∷ xs) = (has x xs ≡ false) × AreDistinct xs

abbrev pub without : Flow → List Flow → List Flow
without f [] = []
without f (x ∷ xs) = cond (same_flow x f) xs (x ∷ without f xs)

length-without : (f : Flow) (xs : List Flow) → has f xs ≡ true → length (without f xs) + 1 ≡ length xs
length-without f [] h = absurd (cc)
length-without f (x ∷ xs) h = grind (arith, flow_tells, length-without f xs)

pub has_first : (x f : Flow) (xs : List Flow) → x ≡ f → has f (x ∷ xs) ≡ true
has_first x f xs e = by_flow x f (λ b. cond b true (has f xs) ≡ true) (λ q. refl) (λ q. absurd (q e))

pub has_later : (x f : Flow) (xs : List Flow) → (x ≡ f → ⊥) → has f (x ∷ xs) ≡ has f xs
has_later x f xs n = by_flow x f (λ b. cond b true (has f xs) ≡ has f xs) (λ q. absurd (n q)) (λ q. refl)

has-without : (f k : Flow) (xs : List Flow) → (f ≡ k → ⊥) → has k xs ≡ true → has k (without f xs) ≡ true
has-without f k [] n h = h
has-without f k (x ∷ xs) n h = grind (arith, flow_tells, has-without f k xs n)

-- a list of numbers that differ is no longer than one that has them all
pub length-subset : (xs ys : List Flow) → AreDistinct xs → ((f : Flow) → has f xs ≡ true → has f ys ≡ true) → length xs ≤ length ys
length-subset [] ys d s = omega arith
length-subset (x ∷ xs) ys d s =
    let here : has x ys ≡ true = s x (has_first x x xs refl) in
    let rest : (f : Flow) → has f xs ≡ true → has f (without x ys) ≡ true = λ f h. has-without x f ys (λ e. let k : has x xs ≡ true = subst (λ z. has z xs ≡ true) (sym e) h in absurd (cc)) (s f (by_flow x f (λ b. cond b true (has f xs) ≡ true) (λ e. refl) (λ e. h))) in
    omega (arith, length-without x ys here, length-subset xs (without x ys) d.1 rest)

pub same_length : (xs ys : List Flow) → AreDistinct xs → AreDistinct ys → ((f : Flow) → has f xs ≡ has f ys) → length xs ≡ length ys
same_length xs ys d e s = omega (arith, length-subset xs ys d (λ f h. sym (s f) ∙ h), length-subset ys xs e (λ f h. s f ∙ h))

-- the flows of a history
pub has-flows : (f : Flow) (h : List Charge) → has f (flows h) ≡ has_flow f h
has-flows f [] = refl
has-flows f (c ∷ cs) = grind (arith, flow_tells, has-flows f cs)

pub distinct-flows : (h : List Charge) → AreDistinct (flows h)
distinct-flows [] = tt
distinct-flows (c ∷ cs) = grind (arith, has-flows c.grant.flow cs, distinct-flows cs)

-- those of some flows that live
abbrev pub living_among : List Charge → ℕ → List Flow → List Flow
living_among h now [] = []
living_among h now (f ∷ fs) = cond (lives h f now) (f ∷ living_among h now fs) (living_among h now fs)

pub length-living_among : (h : List Charge) (now : ℕ) (fs : List Flow) → length (living_among h now fs) ≡ count_by (λ f. lives h f now) fs
length-living_among h now [] = refl
length-living_among h now (f ∷ fs) = grind (arith, nat_tests, length-living_among h now fs, sum_by-cons (λ x. cond (lives h x now) 1 0) f fs)

pub has-living_among : (h : List Charge) (now : ℕ) (fs : List Flow) (f : Flow) → has f (living_among h now fs) ≡ (has f fs && lives h f now)
has-living_among h now [] f = refl
has-living_among h now (g ∷ fs) f = grind (arith, nat_tests, flow_tells, has-living_among h now fs f, and_right (has f fs) false refl)

pub distinct-living_among : (h : List Charge) (now : ℕ) (fs : List Flow) → AreDistinct fs → AreDistinct (living_among h now fs)
distinct-living_among h now [] d = tt
distinct-living_among h now (g ∷ fs) d = grind (arith, nat_tests, distinct-living_among h now fs d.1, has-living_among h now fs g)

-- the flows of the entries that live
abbrev pub live_flows : ℕ → List Entry → List Flow
live_flows now [] = []
live_flows now (e ∷ es) = cond (ltb now e.end) (e.grant.flow ∷ live_flows now es) (live_flows now es)

abbrev pub is_live : ℕ → Option Entry → Bool
is_live now None = false
is_live now (Some e) = ltb now e.end

has-live_flows : (now : ℕ) (es : List Entry) (f : Flow) → AreApart es → has f (live_flows now es) ≡ is_live now (entry_of f es)
has-live_flows now [] f a = refl
has-live_flows now (e ∷ es) f a = grind (arith, nat_tests, flow_tells, has-live_flows now es f a.1)

distinct-live_flows : (now : ℕ) (es : List Entry) → AreApart es → AreDistinct (live_flows now es)
distinct-live_flows now [] a = tt
distinct-live_flows now (e ∷ es) a = grind (arith, nat_tests, distinct-live_flows now es a.1, has-live_flows now es e.grant.flow a.1)

pub kept_live : (now : ℕ) (o : Option Entry) (cs : List Charge) → IsKept o cs now → is_living cs now ≡ is_live now o
kept_live now None cs k = k
kept_live now (Some e) cs k = elim (kept_cases cs now e k) [ inl h ↦ ap (ltb now) (sym h.end) | inr h ↦ not_living cs now h.0 ∙ sym (let d : ltb now e.end ≡ false = grind (arith, nat_tests) in d) ]

of_flow_none : (f : Flow) (h : List Charge) → has_flow f h ≡ false → of_flow f h ≡ []
of_flow_none f [] k = refl
of_flow_none f (c ∷ cs) k = by_flow c.grant.flow f (λ b. cond b true (has_flow f cs) ≡ false → cond b (c ∷ of_flow f cs) (of_flow f cs) ≡ []) (λ e q. absurd (cc)) (λ e q. of_flow_none f cs q) k

pub has_and_lives : (h : List Charge) (now : ℕ) (f : Flow) → (has_flow f h && lives h f now) ≡ lives h f now
has_and_lives h now f = by_bool (has_flow f h) (λ b. (b && lives h f now) ≡ lives h f now) (λ k. refl) (λ k. rw (of_flow_none f h k) (grind (arith, nat_tests)))

-- as many flows live as entries do
pub living_count_is : (s o now : ℕ) (es : List Entry) (h : List Charge) → StandsFor (cache s o now es) h → living_count h now ≡ length (live_flows now es)
living_count_is s o now es h v =
    sym (length-living_among h now (flows h))
    ∙ same_length (living_among h now (flows h)) (live_flows now es) (distinct-living_among h now (flows h) (distinct-flows h)) (distinct-live_flows now es v.apart)
    (λ f. has-living_among h now (flows h) f ∙ (ap (λ b. b && lives h f now) (has-flows f h) ∙ (has_and_lives h now f ∙ (kept_live now (entry_of f es) (of_flow f h) (v.kept f) ∙ sym (has-live_flows now es f v.apart)))))

pub length-live_flows-le : (now : ℕ) (es : List Entry) → length (live_flows now es) ≤ length es
length-live_flows-le now [] = omega arith
length-live_flows-le now (e ∷ es) = by_bool (ltb now e.end) (λ b. length (cond b (e.grant.flow ∷ live_flows now es) (live_flows now es)) ≤ length (e ∷ es)) (λ k. omega (arith, length-live_flows-le now es)) (λ k. omega (arith, length-live_flows-le now es))

-- where each entry lives, and where one doesn't
all_live : (now : ℕ) (es : List Entry) → AllByRecursion (λ e. now < e.end) es → length (live_flows now es) ≡ length es
all_live now [] a = refl
all_live now (e ∷ es) a = by_lt now e.end (λ b. length (cond b (e.grant.flow ∷ live_flows now es) (live_flows now es)) ≡ length (e ∷ es)) (λ k. omega (arith, all_live now es a.1)) (λ k. absurd (omega (arith, a.0)))

pub length-live_flows-all : (now : ℕ) (es : List Entry) → All (λ e. now < e.end) es → length (live_flows now es) ≡ length es
length-live_flows-all now es a = all_live now es (recursion_from_All (λ e. now < e.end) es a)

pub length-live_flows-lt : (now : ℕ) (es : List Entry) (i : ℕ) (e : Entry) → i < length es → e ≡ get_or es i e → e.end ≤ now → length (live_flows now es) < length es
length-live_flows-lt now [] i e n s d = absurd (omega arith)
length-live_flows-lt now (x ∷ xs) zero e n s d = grind (arith, nat_tests, length-live_flows-le now xs)
length-live_flows-lt now (x ∷ xs) (suc i) e n s d = grind (arith, nat_tests, length-live_flows-lt now xs i e)

pub length-live_flows : (now : ℕ) (es : List Entry) → length (live_flows now es) ≡ count_by (λ e. ltb now e.end) es
length-live_flows now [] = refl
length-live_flows now (e ∷ es) = grind (arith, nat_tests, length-live_flows now es, sum_by-cons (λ x. cond (ltb now x.end) 1 0) e es)

pub living_is : (s o last now : ℕ) (es : List Entry) (h : List Charge) → StandsFor (cache s o last es) h → last ≤ now → count_by (λ e. ltb now e.end) es ≡ living_count h now
living_is s o last now es h v l = sym (living_count_is s o now es h (stands-later s o last now es h v l) ∙ length-live_flows now es)
