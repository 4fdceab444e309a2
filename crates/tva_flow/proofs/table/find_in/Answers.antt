use Rattle.tva_flow.proofs.Common.{ap, length, arith, rank, rank-le}
use Rattle.tva_flow.proofs.Same.{not_same}
use Rattle.tva_flow.proofs.Indexed.{walk_starts, rest_starts, rest_goes, none_of}
use Rattle.tva_flow.proofs.table.find_in.Goals as goal

pub loop-at-init : goal.loop-at-init
loop-at-init c =
    let hs = c.args.places.now.homes in
    record {
      here = walk_starts hs (length hs) c.args.bucket c.last-at.result c.last-at.ensures;
      rest = rest_starts c.args.all.now.items hs c.args.bucket c.args.flow.now c.last-at.result c.requires.found c.last-at.ensures;
    }

pub loop-at-preserved : goal.loop-at-preserved
loop-at-preserved c =
    let hs = c.args.places.now.homes in
    let k = c.before-at.ensures c.args.bucket (rw c.in-Some.is at c.loop-at.invariant.here) in
    record {
      here = walk_starts hs c.in-Some.place c.args.bucket c.before-at.result k;
      rest = rest_goes c.args.all.now.items hs c.args.bucket c.args.flow.now c.in-Some.place c.index-entry.result.now c.before-at.result c.requires.found (rw c.in-Some.is at c.loop-at.invariant.rest) c.index-entry.ensures
          (not_same c.index-entry.result.now.grant.flow c.args.flow.now c.is_same_flow.result c.is_same_flow.ensures c.if-is_same_flow.false) k;
    }

pub loop-at-smaller : goal.loop-at-smaller
loop-at-smaller c =
    let k = c.before-at.ensures c.args.bucket (rw c.in-Some.is at c.loop-at.invariant.here) in
    omega (arith, rank-le c.args.places.now.homes c.in-Some.place c.args.bucket c.before-at.result k, ap rank c.in-Some.is)

pub returns : goal.returns
returns c = none_of c.args.flow.now c.args.all.now.items (rw c.in_default.is at c.loop-at.invariant.rest)
