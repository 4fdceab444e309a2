use Rattle.tva_drr.proofs.Common.{◌≡◌, length, All}
use Rattle.tva_drr.proofs.turning.sources.Given as goal

abbrev pub invariant-loop-i : goal.invariant-loop-i
invariant-loop-i g l = (length l.all.items ≡ l._i) × All (λ s. s ≡ g.S.Source.fresh l.limits) l.all.items
