use Rattle.tva_base.proofs.Common.{◌≡◌, take}
use Rattle.tva_base.proofs.listed.Caps.copied.Given as goal

-- the copy has the capabilities that were passed
abbrev pub invariant-loop-cap : goal.invariant-loop-cap
invariant-loop-cap l = l.copy ≡ take l.cap-index l.cap-items
