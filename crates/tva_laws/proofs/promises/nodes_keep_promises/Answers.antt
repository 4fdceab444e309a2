use Rattle.tva_laws.proofs.Kept.{keeps, sends_sized, sized_before}
use Rattle.tva_laws.proofs.promises.nodes_keep_promises.Goals as goal

pub returns-clause-kept : goal.returns-clause-kept
returns-clause-kept c site inputs until log valid small sized is = keeps site inputs until log valid small (sized_before until inputs sized) is

pub returns-clause-sized : goal.returns-clause-sized
returns-clause-sized c site inputs until log valid small sized is = sends_sized site inputs until log valid small (sized_before until inputs sized) is
