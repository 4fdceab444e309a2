use Rattle.tva_shim.proofs.Tags.{last-more}
use Rattle.tva_shim.proofs.shims.last_tag_of.Goals as goal

pub loop-tag-preserved : goal.loop-tag-preserved
loop-tag-preserved c = last-more _ _ _ _ _ c.loop-tag-test.true c.loop-tag.invariant c.nonzero_or-last.ensures
