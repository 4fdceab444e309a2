-- Kit: what the code keeps of a packet's claim on a grant.
use Rattle.std.specs.Prelude.{Option}
use Rattle.std.specs.Option.{option_map}
use Rattle.tva_host.specs.{declared.received.Claim.Claim, Receiving.ClaimData}

abbrev pub claim_view : Option Claim → Option ClaimData
claim_view claim = option_map (λ c. record { tags = c.tags.items; precaps = c.precaps }) claim
