use Rattle.tva_drr.proofs.Untils.{until_most}
use Rattle.tva_drr.proofs.group_laws.items_of_groups_go_within_bounds.Goals as goal

pub returns : goal.returns
returns g c = record {
  until = λ h outer inner n steps i o k. until_most g.T.Measured.measure h.limits h.inner outer inner n h.groups steps i o k;
}
