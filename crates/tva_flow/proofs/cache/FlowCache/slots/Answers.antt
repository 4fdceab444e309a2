use Rattle.tva_flow.proofs.Budget.{budget, living_few}
use Rattle.tva_flow.proofs.cache.FlowCache.slots.Goals as goal

pub returns-clause-budget : goal.returns-clause-budget
returns-clause-budget c h v t = budget c.args.self.now.slots c.args.self.now.offset h v.charges t

pub returns-clause-living : goal.returns-clause-living
returns-clause-living c h v now l = living_few c.args.self.now.slots c.args.self.now.offset c.args.self.now.last now c.args.self.now.entries h v l
