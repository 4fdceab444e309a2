use Rattle.tva_shim.proofs.Common.{◌∙◌}
use Rattle.tva_shim.proofs.Paired.{as_many}
use Rattle.tva_shim.proofs.entries.Entries.len.Goals as goal

pub returns-clause-count : goal.returns-clause-count
returns-clause-count c =
    c.len.ensures.value ∙ as_many c.self.inside.tags.items c.self.inside.precaps.items _ c.self.invariant.0 c.self.view_is
