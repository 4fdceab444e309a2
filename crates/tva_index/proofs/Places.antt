-- The links and the entries of places, after one place is read or written.
use Rattle.tva_index.proofs.Common.{◌≡◌, ℕ, zero, suc, ◌+◌, ◌*◌, ◌%◌, ◌<◌, List, [], ◌∷◌, length, get_or, set, replicate, Option, Some, None, refl, sym, ap, ◌∙◌, subst, arith, cases_eq, get_or-map, length-map, map-set, map-set_same, Numbered, led_to, way_on, unused_place, links_of, entries_of, link_at, entry_at}
use Rattle.tva_index.specs.declared.bits.Place.{Place}

pub length-entries_of : (ps : List Place) → length (entries_of ps) ≡ length ps
length-entries_of ps = length-map ps (λ (p : Place). p.entry)

-- ## a place that is read

pub entry_read_of : (ps : List Place) (i : ℕ) (x : Place) → i < length ps → x ≡ get_or ps i x → x.entry ≡ entry_at (entries_of ps) i
entry_read_of ps i x l r = ap (λ (p : Place). p.entry) r ∙ sym (get_or-map (λ (p : Place). p.entry) ps i x None l)

twice : (i : ℕ) → 2 * suc i ≡ suc (suc (2 * i))
twice i = omega arith

twice_more : (i : ℕ) → 2 * suc i + 1 ≡ suc (suc (2 * i + 1))
twice_more i = omega arith

pub low_read : (ps : List Place) (i : ℕ) (x : Place) → i < length ps → x ≡ get_or ps i x → link_at (links_of ps) (2 * i) ≡ led_to x.low
low_read [] i x l r = absurd (omega (arith, l))
low_read (p ∷ ps) zero x l r = ap (λ (z : Place). led_to z.low) (sym r)
low_read (p ∷ ps) (suc i) x l r = subst (λ z. link_at (links_of (p ∷ ps)) z ≡ led_to x.low) (sym (twice i)) (low_read ps i x (omega (arith, l)) r)

pub high_read : (ps : List Place) (i : ℕ) (x : Place) → i < length ps → x ≡ get_or ps i x → link_at (links_of ps) (2 * i + 1) ≡ led_to x.high
high_read [] i x l r = absurd (omega (arith, l))
high_read (p ∷ ps) zero x l r = ap (λ (z : Place). led_to z.high) (sym r)
high_read (p ∷ ps) (suc i) x l r = subst (λ z. link_at (links_of (p ∷ ps)) z ≡ led_to x.high) (sym (twice_more i)) (high_read ps i x (omega (arith, l)) r)

pub way_read : (ps : List Place) (i bits : ℕ) (x : Place) → i < length ps → x ≡ get_or ps i x → link_at (links_of ps) (2 * i + bits % 2) ≡ way_on x (bits % 2)
way_read ps i bits x l r = grind (arith, cases_eq, low_read, high_read)

-- ## a place that is written

pub links_same : (ps : List Place) (i : ℕ) (x y : Place) → x ≡ get_or ps i x → y.low ≡ x.low → y.high ≡ x.high → links_of (set ps i y) ≡ links_of ps
links_same [] i x y r a b = refl
links_same (p ∷ ps) zero x y r a b = grind arith
links_same (p ∷ ps) (suc i) x y r a b = ap (λ (z : List (Option ℕ)). led_to p.low ∷ led_to p.high ∷ z) (links_same ps i x y r a b)

pub low_written : (ps : List Place) (i : ℕ) (x y : Place) → x ≡ get_or ps i x → y.high ≡ x.high → links_of (set ps i y) ≡ set (links_of ps) (2 * i) (led_to y.low)
low_written [] i x y r b = refl
low_written (p ∷ ps) zero x y r b = ap (λ (z : ℕ). led_to y.low ∷ led_to z ∷ links_of ps) (b ∙ ap (λ (z : Place). z.high) r)
low_written (p ∷ ps) (suc i) x y r b = grind (arith, twice, low_written ps i x y r b)

pub high_written : (ps : List Place) (i : ℕ) (x y : Place) → x ≡ get_or ps i x → y.low ≡ x.low → links_of (set ps i y) ≡ set (links_of ps) (2 * i + 1) (led_to y.high)
high_written [] i x y r a = refl
high_written (p ∷ ps) zero x y r a = ap (λ (z : ℕ). led_to z ∷ led_to y.high ∷ links_of ps) (a ∙ ap (λ (z : Place). z.low) r)
high_written (p ∷ ps) (suc i) x y r a = grind (arith, twice_more, high_written ps i x y r a)

pub entries_written : (ps : List Place) (i : ℕ) (y : Place) → entries_of (set ps i y) ≡ set (entries_of ps) i y.entry
entries_written ps i y = map-set (λ (p : Place). p.entry) ps i y

pub entries_same : (ps : List Place) (i : ℕ) (x y : Place) → x ≡ get_or ps i x → y.entry ≡ x.entry → entries_of (set ps i y) ≡ entries_of ps
entries_same ps i x y r e = map-set_same (λ (p : Place). p.entry) ps i y x (e ∙ ap (λ (p : Place). p.entry) r)

-- ## places at first

pub links_of-unused : (n : ℕ) → links_of (replicate n unused_place) ≡ replicate (2 * n) None
links_of-unused zero = refl
links_of-unused (suc n) = search (arith, twice, links_of-unused n)

pub entries_of-unused : (n : ℕ) → entries_of (replicate n unused_place) ≡ replicate n None
entries_of-unused zero = refl
entries_of-unused (suc n) = ap (λ (z : List (Option Numbered)). None ∷ z) (entries_of-unused n)

-- a link to a place other than the first
pub led_to-some : (p : ℕ) → 0 < p → led_to p ≡ Some p
led_to-some p l = grind arith
