use Rattle.tva_base.proofs.Dotted.{dotted_given, dotted_taken}
use Rattle.tva_base.proofs.readers.addresses_are_four_numbers.Goals as goal

pub returns-clause-given : goal.returns-clause-given
returns-clause-given c = dotted_given

pub returns-clause-taken : goal.returns-clause-taken
returns-clause-taken c = dotted_taken
