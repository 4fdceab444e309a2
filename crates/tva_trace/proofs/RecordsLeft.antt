-- The records that are left of a text.
use Rattle.tva_trace.proofs.Common.{◌≡◌, ◌∙◌, sym, ap, refl, ℕ, zero, suc, ◌+◌, ◌<◌, List, [], ◌∷◌, ◌++◌, length, Option, Some, None, cond, Bool, true, false, ◌⊎◌, inl, inr, arith, add-one, records_next, ReadRecord, source_of, Reader, rows-more}
use Rattle.csv.specs.Machine.{Read, next_record, step, is_end, fields_after, field_after, ends_at_end}
use Rattle.csv.specs.Reading.{records_from, Reached}
use Rattle.csv.specs.declared.parser.Config.{Config}
use Rattle.csv.specs.declared.parser.State.{State}
use Rattle.csv.specs.declared.parser.State.TheVariants as st

-- the records of a text, from a state
abbrev pub left_of : Config → State → List ℕ → List (List (List ℕ))
left_of cfg s xs = records_from cfg (length xs + 1) s xs

-- a read takes bytes, or there were none
abbrev Takes : List ℕ → Read → Type 0
Takes xs p = (length p.2 < length xs) ⊎ ((xs ≡ []) × (p.1 ≡ st.StartRecord) × (p.2 ≡ []))

either : {A : Type 0} (b : Bool) (x y : Option A) (p : A) → cond b x y ≡ Some p → (x ≡ Some p) ⊎ (y ≡ Some p)
either true x y p e = inl e
either false x y p e = inr e

takes-longer : (c : ℕ) (rest : List ℕ) (p : Read) → Takes rest p → Takes (c ∷ rest) p
takes-longer c rest p (inl h) = inl (omega arith)
takes-longer c rest p (inr h) = inl (omega (arith, ap length h.2))

takes : (cfg : Config) (s : State) (fields : List (List ℕ)) (field xs : List ℕ) (p : Read) → next_record cfg s fields field xs ≡ Some p → Takes xs p
unfolding next_record
takes cfg s fields field [] p e =
    elim (either (ends_at_end s) (Some (fields ++ (field ∷ []), st.StartRecord, [])) None p e) [
      | inl h ↦ inr (refl, (cc), (cc))
      | inr h ↦ absurd (cc)
    ]
takes cfg s fields field (c ∷ rest) p e =
    elim (either (is_end (step cfg s c).1) _ _ p e) [
      | inl h ↦ let same : rest ≡ p.2 = cc in inl (omega (arith, ap length same))
      | inr h ↦ takes-longer c rest p (takes cfg (step cfg s c).0 (fields_after (step cfg s c).1 fields field) (field_after (step cfg s c).1 c field) rest p h)
    ]

nothing_left : (cfg : Config) (n : ℕ) → records_from cfg n st.StartRecord [] ≡ []
unfolding records_from next_record
nothing_left cfg zero = refl
nothing_left cfg (suc n) = refl

next-same : (cfg : Config) (n m : ℕ) (xs : List ℕ) (p : Read) → ((s : State) (ys : List ℕ) → length ys < n → length ys < m → records_from cfg n s ys ≡ records_from cfg m s ys) → length xs < suc n → length xs < suc m → Takes xs p → records_from cfg n p.1 p.2 ≡ records_from cfg m p.1 p.2
next-same cfg n m xs p same hn hm (inl h) = same p.1 p.2 (omega arith) (omega arith)
next-same cfg n m xs p same hn hm (inr h) = rw (h.1, h.2, nothing_left cfg n, nothing_left cfg m) refl

after-same : (cfg : Config) (n m : ℕ) (s : State) (xs : List ℕ) (r : Option Read) → r ≡ next_record cfg s [] [] xs → ((s : State) (ys : List ℕ) → length ys < n → length ys < m → records_from cfg n s ys ≡ records_from cfg m s ys) → length xs < suc n → length xs < suc m → records_next (records_from cfg n) r ≡ records_next (records_from cfg m) r
after-same cfg n m s xs None e same hn hm = refl
after-same cfg n m s xs (Some p) e same hn hm = ap (λ l. p.0 ∷ l) (next-same cfg n m xs p same hn hm (takes cfg s [] [] xs p (sym e)))

-- with room for all bytes, the count of turns makes no difference
any_turns : (cfg : Config) (n m : ℕ) (s : State) (xs : List ℕ) → length xs < n → length xs < m → records_from cfg n s xs ≡ records_from cfg m s xs
unfolding records_from
any_turns cfg zero m s xs hn hm = absurd (omega arith)
any_turns cfg (suc n) zero s xs hn hm = absurd (omega arith)
any_turns cfg (suc n) (suc m) s xs hn hm = after-same cfg n m s xs (next_record cfg s [] [] xs) refl (any_turns cfg n m) hn hm

left-turns : (cfg : Config) (xs : List ℕ) (p : Read) → Takes xs p → records_from cfg (length xs) p.1 p.2 ≡ left_of cfg p.1 p.2
left-turns cfg xs p (inl h) = any_turns cfg (length xs) (length p.2 + 1) p.1 p.2 h (omega arith)
left-turns cfg xs p (inr h) = rw (h.1, h.2, nothing_left cfg (length xs), nothing_left cfg (length {A = ℕ} [] + 1)) refl

from-next : (cfg : Config) (n : ℕ) (s : State) (xs : List ℕ) (r : Option Read) → next_record cfg s [] [] xs ≡ r → records_from cfg (n + 1) s xs ≡ records_next (records_from cfg n) r
unfolding records_from
from-next cfg n s xs r e = rw add-one (ap (records_next (records_from cfg n)) e)

-- a record that is read is the first of those that were left
pub left-some : (cfg : Config) (s : State) (xs : List ℕ) (p : Read) → next_record cfg s [] [] xs ≡ Some p → left_of cfg s xs ≡ p.0 ∷ left_of cfg p.1 p.2
left-some cfg s xs p e = from-next cfg (length xs) s xs (Some p) e ∙ ap (λ l. p.0 ∷ l) (left-turns cfg xs p (takes cfg s [] [] xs p e))

-- where none is read, none was left
pub left-none : (cfg : Config) (s : State) (xs : List ℕ) → next_record cfg s [] [] xs ≡ None → left_of cfg s xs ≡ []
left-none cfg s xs e = from-next cfg (length xs) s xs None e

left-same : (cfg : Config) (p : Read) (f : List (List ℕ)) (s : State) (z : List ℕ) → f ≡ p.0 → p.1 ≡ s → p.2 ≡ z → p.0 ∷ left_of cfg p.1 p.2 ≡ f ∷ left_of cfg s z
left-same cfg p f s z ef es ez = cc

-- what a read of a record takes of those that are left
pub left-read : {R : Type 0} (rem : R → Option (List ℕ)) (a b : Reader R) (f : List (List ℕ)) (cfg : Config) (y : List ℕ)
    → a.config ≡ cfg → source_of rem a ≡ Some y → ReadRecord rem a b true f
    → (z : List ℕ) × (source_of rem b ≡ Some z) × (left_of cfg a.state y ≡ f ∷ left_of cfg b.state z)
unfolding Reached
left-read rem a b f cfg y ec ex r =
    let m = rows-more rem a b f cfg a.state y y [] ec ex (refl, refl) r in
    let p = m.2.0 in
    (m.0, m.1, left-some cfg a.state y p m.2.1 ∙ left-same cfg p f b.state m.0 m.2.2 m.2.3.0 m.2.3.1)
