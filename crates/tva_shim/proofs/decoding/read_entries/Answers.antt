use Rattle.tva_shim.proofs.Common.{◌<◌, ◌∷◌, [], length, length-append, arith}
use Rattle.tva_shim.proofs.Reading.{begun_more, begun_missing}
use Rattle.tva_shim.proofs.decoding.read_entries.Goals as goal

pub returns-in_err-entry : goal.returns-in_err-entry
returns-in_err-entry c =
    let more : length c.loop.entries < c.args.count = omega arith in
    rw c.from_residual.ensures (begun_missing c.loop.entries c.loop.invariant.begun more c.in_err-entry.ensures)

pub loop-preserved : goal.loop-preserved
loop-preserved c =
    let more : length c.loop.entries < c.args.count = omega arith in
    rw c.push.ensures (record {
      begun = begun_more c.loop.entries c.in_ok-entry.entry c.loop.invariant.begun more c.in_ok-entry.ensures;
      count = omega (arith, length-append c.loop.entries (c.in_ok-entry.entry ∷ []));
    })
