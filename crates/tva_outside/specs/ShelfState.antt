-- Crate: what there is to know of a shelf in memory.
use Rattle.std.specs.Prelude.{◌≡◌, ℕ, List, Result, Ok, Err, None, Some, refl}
use Rattle.std.specs.{declared.option.Option.Option, FinMap.code}
use Rattle.std.specs.Coded.{Coded, code_by, coded×, coded_ℕ, coded_list, coded_option, coded_result}
use Rattle.tva_outside.specs.Held.{HeldByName}
use Rattle.tva_outside.specs.Loads.{Given, Load, bytes, failure, too_many, no_memory}

-- what is held, the numbers of the loads that are to fail, how many loads there were, those that found no
-- memory aside, how many of them failed as they were to, and what was asked for and given
pub record ShelfState : Type 0 where
  pub files : HeldByName
  pub failing : List ℕ
  pub loads : ℕ
  pub faults : ℕ
  pub gave : List Load

abbrev pub split : Given → Result (List ℕ) (Option (Option ℕ))
split (bytes b) = Ok b
split failure = Err None
split (too_many k) = Err (Some (Some k))
split no_memory = Err (Some None)

abbrev pub join : Result (List ℕ) (Option (Option ℕ)) → Given
join (Ok b) = bytes b
join (Err None) = failure
join (Err (Some (Some k))) = too_many k
join (Err (Some None)) = no_memory

abbrev pub join_split : (g : Given) → join (split g) ≡ g
join_split (bytes b) = refl
join_split failure = refl
join_split (too_many k) = refl
join_split no_memory = refl

abbrev pub coded_given : Coded Given
coded_given =
    code_by (Result (List ℕ) (Option (Option ℕ))) (coded_result (coded_list coded_ℕ) (coded_option (coded_option coded_ℕ))) split join join_split

abbrev pub coded_load : Coded Load
coded_load =
    code_by (List ℕ × Given) (coded× (coded_list coded_ℕ) coded_given) (λ l. (l.name, l.given)) (λ p. record { name = p.0; given = p.1 })
    (λ _. refl)

abbrev pub coded_state : Coded ShelfState
coded_state =
    code_by (HeldByName × (List ℕ × (ℕ × (ℕ × List Load))))
    (coded× (code (coded_list coded_ℕ) (coded_list coded_ℕ))
    (coded× (coded_list coded_ℕ) (coded× coded_ℕ (coded× coded_ℕ (coded_list coded_load)))))
    (λ s. (s.files, (s.failing, (s.loads, (s.faults, s.gave)))))
    (λ p. record { files = p.0; failing = p.1.0; loads = p.1.1.0; faults = p.1.1.1.0; gave = p.1.1.1.1 })
    (λ _. refl)
