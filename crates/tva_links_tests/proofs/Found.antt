-- Where some element passes a test, there is a first one that does.
use Rattle.tva_links_tests.proofs.Common.{◌≡◌, Bool, true, false, cond, List, [], ◌∷◌, Option, Some, None, ◌||◌}
use Rattle.std.specs.List.{find, list_any}

found_at : {X : Type 0} (here more : Bool) (x : X) (rest : Option X)
    → (more ≡ true → rest ≡ None → ⊥) → (here || more) ≡ true → cond here (Some x) rest ≡ None → ⊥
found_at true more x rest known some none = absurd (cc)
found_at false more x rest known some none = known some none

pub found : {X : Type 0} (test : X → Bool) (xs : List X) → list_any test xs ≡ true → find test xs ≡ None → ⊥
found test [] some none = absurd (cc)
found test (x ∷ xs) some none = found_at (test x) (list_any test xs) x (find test xs) (found test xs) some none
