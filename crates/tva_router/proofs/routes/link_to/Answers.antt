use Rattle.tva_router.proofs.Common.{sym, ◌∙◌, arith}
use Rattle.tva_router.proofs.Tables.{shorter_at_first, shorter-more, found_longest, found_nowhere}
use Rattle.tva_router.proofs.routes.link_to.Goals as goal

pub loop-shorter-init : goal.loop-shorter-init
loop-shorter-init c = shorter_at_first c.args.routes.now c.args.dst c.requires.short

pub loop-shorter-preserved : goal.loop-shorter-preserved
loop-shorter-preserved c =
    shorter-more c.args.routes.now c.args.dst c.loop-shorter.shorter c.link_at-link.result (omega arith) c.link_at-link.ensures (sym c.is_some.ensures ∙ c.if-is_some.false) c.loop-shorter.invariant

pub returns-then-is_some : goal.returns-then-is_some
returns-then-is_some c =
    found_longest c.args.routes.now c.args.dst c.loop-shorter.shorter c.link_at-link.result (omega arith) c.link_at-link.ensures (sym c.is_some.ensures ∙ c.if-is_some.true) c.loop-shorter.invariant

pub returns : goal.returns
returns c = found_nowhere c.args.routes.now c.args.dst c.loop-shorter.shorter (omega arith) c.loop-shorter.invariant
