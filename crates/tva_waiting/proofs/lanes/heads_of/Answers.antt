use Rattle.tva_waiting.proofs.Common.{nat_tests, ◌≡◌, ◌≤◌, ◌∷◌, [], ℕ, List, zero, suc, length, get_or, refl, arith, get_or-set_other, get_or-set_same, length-set, never}
use Rattle.tva_waiting.proofs.Held.{queue_past}
use Rattle.tva_waiting.proofs.lanes.heads_of.Goals as goal

past : (ns : List ℕ) (n d : ℕ) → length ns ≤ n → get_or ns n d ≡ d
past [] n d l = refl
past (m ∷ ns) zero d l = absurd (omega arith)
past (m ∷ ns) (suc n) d l = past ns n d (omega (arith, l))

pub loop-place-preserved : goal.loop-place-preserved
loop-place-preserved c = grind (arith, nat_tests, length-set, never, get_or-set_same, get_or-set_other)

pub returns-clause-count : goal.returns-clause-count
returns-clause-count c = c.loop-place.invariant.count

pub returns-clause-each : goal.returns-clause-each
returns-clause-each c = grind (arith, nat_tests, past, never, queue_past)
