-- Numbers that are no later than the ends of the entries: what a least one tells, and how many are late.
use Rattle.tva_flow.proofs.Common.{◌≡◌, ℕ, ◌+◌, ◌<◌, ◌≤◌, cond, eqb, List, [], ◌∷◌, length, get_or, set, Some, sym, ap, subst, zero, suc, inl, inr, ◌⊎◌, arith, All, cases_eq, nat_tests, get_or-set_same, get_or-set_other, get_or_default, IsLeastPlace, Entry, AreNoLater}
use Rattle.tva_flow.proofs.Indexed.{same_read}

abbrev pub AllLive : ℕ → List Entry → Type 0
AllLive now es = All (λ (x : Entry). now < x.end) es

-- where the least number is after a time, so is each end
pub all_live : (es : List Entry) (ends : List ℕ) (first now : ℕ) → AreNoLater ends es → length ends ≡ length es → IsLeastPlace ends (Some first) → now < get_or ends first 0 → AllLive now es
all_live es ends first now b n w a i d l =
    omega (arith, b i (get_or es i d) l (get_or_default es i d (get_or es i d) l), w.1 i (omega (arith, l, n)), a)

-- a number that is written is its entry's end
pub raised : (es : List Entry) (ends : List ℕ) (at : ℕ) (e : Entry) → AreNoLater ends es → at < length ends → at < length es → e ≡ get_or es at e → AreNoLater (set ends at e.end) es
raised es ends at e b m l q i d k r =
    elim (cases_eq i at) [
      | inl y ↦ (
          let u : get_or (set ends at e.end) i 0 ≡ e.end = subst (λ z. get_or (set ends at e.end) z 0 ≡ e.end) (sym y) (get_or-set_same ends at e.end 0 m) in
          let v : d.end ≡ e.end = ap (λ (x : Entry). x.end) (same_read es i d e r (subst (λ z. e ≡ get_or es z e) (sym y) q) k) in
          omega (arith, u, v))
      | inr y ↦ omega (arith, get_or-set_other ends at i e.end 0 y, b i d k r)
    ]

-- how many places have a number that isn't their entry's end
abbrev pub late : List Entry → List ℕ → ℕ
late [] ns = 0
late (e ∷ es) [] = 0
late (e ∷ es) (n ∷ ns) = cond (eqb n e.end) 0 1 + late es ns

pub late-le : (es : List Entry) (ns : List ℕ) → late es ns ≤ length es
late-le [] ns = omega arith
late-le (e ∷ es) [] = omega arith
late-le (e ∷ es) (n ∷ ns) = grind (arith, nat_tests, late-le es ns)

-- one less, where a late one is written
pub late-set : (es : List Entry) (ns : List ℕ) (i : ℕ) (e : Entry) → i < length es → i < length ns → e ≡ get_or es i e → (get_or ns i 0 ≡ e.end → ⊥) → late es (set ns i e.end) + 1 ≡ late es ns
late-set [] ns i e l m q d = absurd (omega arith)
late-set (x ∷ xs) [] i e l m q d = absurd (omega arith)
late-set (x ∷ xs) (n ∷ ns) zero e l m q d = grind (arith, nat_tests)
late-set (x ∷ xs) (n ∷ ns) (suc i) e l m q d = omega (arith, late-set xs ns i e (omega arith) (omega arith) q d)

-- so a turn at a living entry's place leaves one late place less, or tells that all entries live
pub turn_left : (es : List Entry) (ends : List ℕ) (first turn now : ℕ) (e : Entry) → AreNoLater ends es → length ends ≡ length es → IsLeastPlace ends (Some first) → e ≡ get_or es first e → now < e.end
    → AllLive now es ⊎ (late es ends + turn ≤ length es) → AllLive now es ⊎ (late es (set ends first e.end) + (turn + 1) ≤ length es)
turn_left es ends first turn now e b n w q l k = grind (arith, cases_eq (get_or ends first 0) e.end, all_live es ends first now b n w, late-set es ends first e)

-- the place that was written is still least: all entries live
pub still_least : (es : List Entry) (ends : List ℕ) (first now : ℕ) (e : Entry) → AreNoLater (set ends first e.end) es → length (set ends first e.end) ≡ length es → first < length ends → IsLeastPlace (set ends first e.end) (Some first) → now < e.end → AllLive now es
still_least es ends first now e b n m w l =
    all_live es (set ends first e.end) first now b n w (omega (arith, get_or-set_same ends first e.end 0 m, l))
