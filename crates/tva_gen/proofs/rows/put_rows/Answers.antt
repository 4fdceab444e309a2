use Rattle.tva_gen.proofs.Common.{map, arith}
use Rattle.tva_gen.proofs.RowsPut.{all_put, row_put}
use Rattle.tva_gen.proofs.rows.put_rows.Goals as goal

pub loop-left-preserved : goal.loop-left-preserved
loop-left-preserved c = row_put c.args.horizon (map (λ h. h.now) c.args.hosts.now) c.loop-left.left c.loop-left.time _ _ c.loop-left.words _ _ _ _ (omega arith) c.draw-draw.ensures.draw c.draw-draw.ensures.behind c.later-time.ensures c.in_ok-put_line.ensures c.loop-left.invariant

pub returns : goal.returns
returns c = all_put c.args.horizon (map (λ h. h.now) c.args.hosts.now) c.loop-left.left c.loop-left.time c.loop-left.words _ _ (omega arith) c.loop-left.invariant
