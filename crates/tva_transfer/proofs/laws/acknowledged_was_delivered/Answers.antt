use Rattle.tva_transfer.proofs.Between.{is_delivered, prefix}
use Rattle.tva_transfer.proofs.laws.acknowledged_was_delivered.Goals as goal

pub returns : goal.returns
returns c = record { delivered = is_delivered; at_each_place = prefix }
