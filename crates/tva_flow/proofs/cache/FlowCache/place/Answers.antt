use Rattle.tva_flow.proofs.Common.{◌<◌, length, subst, IfSome, Cache}
use Rattle.tva_flow.proofs.Shown.{within}
use Rattle.tva_flow.proofs.cache.FlowCache.place.Goals as goal

pub returns-clause-within : goal.returns-clause-within
returns-clause-within c = subst (λ (z : Cache). IfSome c.find.result (λ i. i < length z.entries)) c.self.view_is (within c.self.inside.entries.items c.args.flow.now c.find.result c.find.ensures)
