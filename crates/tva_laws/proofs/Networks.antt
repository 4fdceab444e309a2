-- The network with a restart is valid, and so are rows at which A sends.
use Rattle.tva_laws.proofs.Common.{◌<◌, ◌≤◌, ℕ, List, [], ◌∷◌, refl, arith, All-nil, DenyAll, IsConfig, IsRow, at_time, restart_config, sends}
use Rattle.tva_laws.proofs.Walkable.{valid_with}

pub valid : (master : List ℕ) → IsConfig (restart_config master)
valid master = valid_with ((at_time 8000000, master) ∷ []) DenyAll (All-nil (λ (m : ℕ). 8000000 < m), tt) (omega arith)

pub sent : (master : List ℕ) (time payload : ℕ) → time ≤ 10000000000 → payload ≤ 1600 → IsRow (restart_config master) (sends time payload)
sent master time payload t p = record { time = t; node = omega arith; what = (refl, p) }
