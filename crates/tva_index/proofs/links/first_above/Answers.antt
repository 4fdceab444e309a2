use Rattle.tva_index.proofs.Common.{subst, sym, ap, arith, get_or_read, IsLastBelow}
use Rattle.tva_index.proofs.Homes.{in_range}
use Rattle.tva_index.proofs.Chains.{rank, rank-le, step_read, walk_place}
use Rattle.tva_index.proofs.links.first_above.Goals as goal

pub loop-at-init : goal.loop-at-init
loop-at-init c = grind (arith, get_or_read, c.requires.bucket, c.index.ensures, c.requires.linked.starts)

-- what stands before the place that was passed
passed : (c : goal.After-place-at-in-Some) → IsLastBelow c.args.links.now.homes.items c.in-Some.other c.args.bucket c.place-at-in-Some.result
passed c =
    let k = c.args.links.now in
    let w = rw c.in-Some.is at c.loop-at.invariant in
    let h = walk_place k.homes.items c.args.place c.args.bucket c.loop-at.above c.in-Some.other w in
    subst (IsLastBelow k.homes.items c.in-Some.other c.args.bucket) (sym c.place-at-in-Some.ensures)
    (step_read k.last.items k.before.items k.homes.items c.in-Some.other c.args.bucket c.index-in-Some.result.now c.requires.linked (in_range k.homes.items c.in-Some.other c.args.bucket h) c.index-in-Some.ensures h)

pub loop-at-preserved : goal.loop-at-preserved
loop-at-preserved c =
    let k = c.args.links.now in
    let w = rw c.in-Some.is at c.loop-at.invariant in
    (c.if-other-place.false, walk_place k.homes.items c.args.place c.args.bucket c.loop-at.above c.in-Some.other w, passed c)

pub loop-at-smaller : goal.loop-at-smaller
loop-at-smaller c = omega (arith, rank-le c.args.links.now.homes.items c.in-Some.other c.args.bucket c.place-at-in-Some.result (passed c), ap rank c.in-Some.is)
