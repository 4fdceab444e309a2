use Rattle.tva_shim.proofs.Common.{◌<◌, ◌∷◌, [], length, length-append, arith}
use Rattle.tva_shim.proofs.Reading.{begun_more, begun_missing}
use Rattle.tva_shim.proofs.decoding.read_caps.Goals as goal

pub returns-in_err-cap : goal.returns-in_err-cap
returns-in_err-cap c =
    let more : length c.loop.caps < c.args.count = omega arith in
    rw c.from_residual.ensures (begun_missing c.loop.caps c.loop.invariant.begun more c.in_err-cap.ensures)

pub loop-preserved : goal.loop-preserved
loop-preserved c =
    let more : length c.loop.caps < c.args.count = omega arith in
    rw c.push.ensures (record {
      begun = begun_more c.loop.caps c.in_ok-cap.cap c.loop.invariant.begun more c.in_ok-cap.ensures;
      count = omega (arith, length-append c.loop.caps (c.in_ok-cap.cap ∷ []));
    })
