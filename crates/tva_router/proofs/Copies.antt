-- A copy of a restart.
use Rattle.tva_router.proofs.Common.{◌≡◌, ℕ, List, refl, subst, Time, arith, rules, nat_tests, common_steps}

pub restart_copied : (x y : Time × List ℕ) → y.0 ≡ x.0 → y.1 ≡ x.1 → y ≡ x
restart_copied x y time master = subst (λ (t : Time). y ≡ (t, x.1)) time (subst (λ (m : List ℕ). y ≡ (y.0, m)) master refl)
