use Rattle.tva_shim.proofs.Common.{◌∙◌}
use Rattle.tva_shim.proofs.Paired.{tags_paired}
use Rattle.tva_shim.proofs.entries.Entries.tags.Goals as goal

pub returns : goal.returns
returns c = c.as_slice.ensures.value ∙ tags_paired c.self.inside.tags.items c.self.inside.precaps.items _ c.self.invariant.0 c.self.view_is
