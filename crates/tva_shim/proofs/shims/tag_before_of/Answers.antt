use Rattle.tva_shim.proofs.Tags.{before-more, last-more}
use Rattle.tva_shim.proofs.shims.tag_before_of.Goals as goal

pub loop-tag-preserved : goal.loop-tag-preserved
loop-tag-preserved c = (
  last-more _ _ _ _ _ c.loop-tag-test.true c.loop-tag.invariant.0 c.where_tagged-last.ensures,
  before-more _ _ _ _ _ _ c.loop-tag-test.true c.loop-tag.invariant.0 c.loop-tag.invariant.1
      c.where_tagged-before.ensures,
)
