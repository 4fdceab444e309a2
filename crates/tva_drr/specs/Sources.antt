-- Kit: turns over sources, as plain and two-level queues keep them, for the contracts of the functions on them.
use Rattle.std.specs.Prelude.{ℕ, ◌+◌, ◌-◌, nat_lt, if◌then◌else◌, List, [], ◌∷◌, ◌++◌, map, Option, Some, None, refl}
use Rattle.std.specs.Coded.{Coded, code_by, coded×, coded_list, coded_ℕ}
use Rattle.tva_base.specs.declared.limits.DrrLimits.{DrrLimits}
use Rattle.tva_drr.specs.declared.served.Served.{Served}
use Rattle.tva_drr.specs.Code.{limits_code}

-- turns in ring order, the front first, how many there may be, and the limits with which each source was made
pub record TurnsOver (S : Type 0) : Type 0 where
  pub limits : DrrLimits
  pub places : ℕ
  pub turns : List (Served S)

module _ {S : Type 0} where
  abbrev pub served : ℕ → ℕ → S → Served S
  served key deficit source = record { key = key; deficit = deficit; source = source }

  abbrev pub turns_over : DrrLimits → ℕ → List (Served S) → TurnsOver S
  turns_over limits places turns = record { limits = limits; places = places; turns = turns }

  abbrev pub served_code : Coded S → Coded (Served S)
  served_code c = code_by (ℕ × (ℕ × S)) (coded× coded_ℕ (coded× coded_ℕ c))
      (λ t. (t.key, (t.deficit, t.source))) (λ p. served p.0 p.1.0 p.1.1) (λ _. refl)

  abbrev pub turns_code : Coded S → Coded (TurnsOver S)
  turns_code c = code_by (DrrLimits × (ℕ × List (Served S))) (coded× limits_code (coded× coded_ℕ (coded_list (served_code c))))
      (λ t. (t.limits, (t.places, t.turns))) (λ p. turns_over p.0 p.1.0 p.1.1) (λ _. refl)

  abbrev pub turn_keys : List (Served S) → List ℕ
  turn_keys ts = map (λ t. t.key) ts

  abbrev pub turns_refilled : ℕ → List (Served S) → List (Served S)
  turns_refilled quantum [] = []
  turns_refilled quantum (t ∷ ts) = served t.key (t.deficit + quantum) t.source ∷ ts

  -- a front whose source sends nothing next leaves, one whose deficit is below what it sends next goes last
  abbrev pub turn_settled : ℕ → Option ℕ → Served S → List (Served S) → List (Served S)
  turn_settled quantum None t ts = turns_refilled quantum ts
  turn_settled quantum (Some m) t ts = if nat_lt t.deficit m then turns_refilled quantum (ts ++ t ∷ []) else t ∷ ts

  abbrev pub turns_settled : (S → Option ℕ) → ℕ → List (Served S) → List (Served S)
  turns_settled sends quantum [] = []
  turns_settled sends quantum (t ∷ ts) = turn_settled quantum (sends t.source) t ts

  -- the front's source sends so many bytes
  abbrev pub turns_popped : (S → ℕ) → (S → S) → List (Served S) → List (Served S)
  turns_popped sent popped [] = []
  turns_popped sent popped (t ∷ ts) = served t.key (t.deficit - sent t.source) (popped t.source) ∷ ts

  -- what the front's source sends next
  abbrev pub front_next : {A : Type 0} → (S → Option A) → List (Served S) → Option A
  front_next next [] = None
  front_next next (t ∷ ts) = next t.source
