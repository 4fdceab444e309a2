use Rattle.tva_net.proofs.Common.{refl}
use Rattle.tva_net.proofs.Begin.{nothing_given}
use Rattle.tva_net.proofs.parts.Parts.build.Goals as goal

pub returns-clause-stands : goal.returns-clause-stands
returns-clause-stands c = record {
  tells = record { way = c.in_ok-build.ensures.works.way; given = nothing_given c.args.config.now _ refl; sound = refl };
  kept = c.in_ok-build.ensures.works.kept;
}

pub returns-clause-times : goal.returns-clause-times
returns-clause-times c = λ e. c.in_ok-build.ensures.noted
