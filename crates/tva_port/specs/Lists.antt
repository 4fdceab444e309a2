-- Kit: the list of legacy packets and the other parts of a port under its limits.
use Rattle.std.specs.Prelude.{◌≡◌, ◌≤◌, ℕ, ◌+◌, nat_lt, Bool, ◌||◌, if◌then◌else◌, List, [], ◌∷◌, ◌++◌, length}
use Rattle.tva_shim.specs.Packets.{PacketData, packet_length}
use Rattle.tva_drr.specs.declared.offered.Offered.{Offered}
use Rattle.tva_drr.specs.declared.offered.Offered.TheVariants.{Queued, QueueFull}
use Rattle.tva_drr.specs.Queues.{Fair, bytes_in}
use Rattle.tva_base.specs.declared.limits.LinkLimits.{LinkLimits}
use Rattle.tva_base.specs.Plan.{AreLinkLimits}
use Rattle.tva_port.specs.declared.requests.RequestQueues.{RequestQueues}
use Rattle.tva_port.specs.Levels.{limits_in}
use Rattle.tva_port.specs.Requests.{cap}

-- at most so many packets, at most so many bytes, and the packets, oldest first
pub record LegacyData : Type 0 where
  pub places : ℕ
  pub most : ℕ
  pub packets : List PacketData

abbrev pub legacy_data : ℕ → ℕ → List PacketData → LegacyData
legacy_data places most packets = record { places = places; most = most; packets = packets }

abbrev pub lacks_room : LegacyData → PacketData → Bool
lacks_room w packet =
    nat_lt w.places (length w.packets + 1) || nat_lt w.most (bytes_in packet_length w.packets + packet_length packet)

abbrev pub legacy_answer : LegacyData → PacketData → Offered PacketData
legacy_answer w packet = if lacks_room w packet then QueueFull packet else Queued

abbrev pub legacy_leaves : LegacyData → PacketData → LegacyData
legacy_leaves w packet = if lacks_room w packet then w else legacy_data w.places w.most (w.packets ++ packet ∷ [])

-- a port within its limits: each part has its limits, the credit is at most its cap, and the link is
-- busy for no longer than 2,048 bytes take
pub record IsSound (l : LinkLimits) (last c free : ℕ) (rs : RequestQueues) (gs : Fair PacketData)
    (w : LegacyData) : Type 0 where
  pub limits : AreLinkLimits l
  pub credit : c ≤ cap l
  pub soon : free ≤ last + 2048000000
  pub requests : limits_in rs ≡ l.request
  pub regulars : gs.limits ≡ l.regular
  pub places : w.places ≡ l.legacy_ring
  pub most : w.most ≡ l.legacy_bytes
