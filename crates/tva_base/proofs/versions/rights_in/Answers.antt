use Rattle.tva_base.proofs.Common.{Some, ap, ◌∙◌, both_ways}
use Rattle.tva_base.proofs.Widths.{number_again, same_rights, carries_parts}
use Rattle.tva_base.proofs.versions.rights_in.Goals as goal

pub returns-then-carries-clause-found : goal.returns-then-carries-clause-found
returns-then-carries-clause-found c =
    (c.carries.ensures.fits c.if-carries.true, number_again c.args.version c.args.number c.weight-weight.result c.weight-weight.ensures.seconds)

pub returns-then-carries-clause-only : goal.returns-then-carries-clause-only
returns-then-carries-clause-only c r are is =
    ap Some (same_rights c.args.version c.args.number c.weight-weight.result r c.weight-weight.ensures.seconds are is)

pub returns-else-carries-clause-only : goal.returns-else-carries-clause-only
returns-else-carries-clause-only c r are is =
    absurd (both_ways c.carries.result c.if-carries.false
    (c.carries.ensures.value ∙ carries_parts c.args.version c.args.number c.weight-weight.result r c.weight-weight.ensures.seconds are is))
