use Rattle.tva_shim.proofs.Common.{◌∙◌, sym}
use Rattle.tva_shim.proofs.Wholes.{bytes_after}
use Rattle.tva_shim.proofs.decoding.decode.Goals as goal

pub returns-else-is_empty-clause-only : goal.returns-else-is_empty-clause-only
returns-else-is_empty-clause-only c s is same = absurd (bytes_after c.in_ok-shim.ensures (sym c.is_empty.ensures ∙ c.if-is_empty.false) s is same)

pub returns-else-is_empty-clause-none : goal.returns-else-is_empty-clause-none
returns-else-is_empty-clause-none c = bytes_after c.in_ok-shim.ensures (sym c.is_empty.ensures ∙ c.if-is_empty.false)
