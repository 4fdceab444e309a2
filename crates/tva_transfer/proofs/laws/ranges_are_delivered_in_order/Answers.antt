use Rattle.tva_transfer.proofs.Between.{are_within}
use Rattle.tva_transfer.proofs.History.{ranges_follow}
use Rattle.tva_transfer.proofs.laws.ranges_are_delivered_in_order.Goals as goal

pub returns : goal.returns
returns c = record { follow = ranges_follow; within = are_within }
