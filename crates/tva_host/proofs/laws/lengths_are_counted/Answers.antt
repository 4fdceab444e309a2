use Rattle.tva_host.proofs.Common.{◌≡◌, ◌+◌, refl, ap, ◌∙◌, arith, return_size, upper_size, length_of, shim_of, next_shape, next_made, body_of}
use Rattle.tva_shim.specs.declared.packets.Carried.TheVariants as carried
use Rattle.tva_host.proofs.Lengths.{made-length, intended-length}
use Rattle.tva_host.proofs.laws.lengths_are_counted.Goals as goal

pub returns-clause-shape : goal.returns-clause-shape
returns-clause-shape c version shape back p counted carries = made-length version shape back p counted carries

pub returns-clause-intended : goal.returns-clause-intended
returns-clause-intended c node plan h now dst payload above counted = intended-length node plan h now dst payload above counted

pub returns-clause-reply : goal.returns-clause-reply
returns-clause-reply c node plan h now src back above counted =
    let shape = next_shape plan h now src (body_of plan.version back above) in
    let size : upper_size above + return_size plan.version back ≡ body_of plan.version back above = omega arith in
    made-length plan.version shape back (next_made node plan h src (upper_size above) (carried.Shim (shim_of plan.version shape back)) above shape).packet counted refl
    ∙ ap (length_of plan.version shape) size
