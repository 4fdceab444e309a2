use Rattle.tva_plan.proofs.counts.node_count.Goals as goal

pub returns : goal.returns
returns c = c.len.ensures
