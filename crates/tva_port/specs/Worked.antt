-- Crate: two worked logs of a link's port, worked out apart from this code: in one regular packets wait in three
-- queues, in the other requests wait in four queues of a link with two levels.
use Rattle.std.specs.Prelude.{ℕ, false, List, [], ◌∷◌, length, sum_by, Option, Some, None}
use Rattle.tva_base.specs.declared.limits.DrrLimits.{DrrLimits}
use Rattle.tva_base.specs.declared.limits.LinkLimits.{LinkLimits}
use Rattle.tva_base.specs.declared.packet.Class.TheVariants.{Request, Regular, Legacy}
use Rattle.tva_shim.specs.declared.kinds.Kind.TheVariants as kinds
use Rattle.tva_shim.specs.declared.kinds.ReturnInfo.TheVariants as backs
use Rattle.tva_shim.specs.declared.packets.Carried.{Carried}
use Rattle.tva_shim.specs.declared.packets.Carried.TheVariants as carried
use Rattle.tva_shim.specs.Packets.{PacketData, made_packet}
use Rattle.tva_port.specs.declared.requests.RequestQueues.{RequestQueues}
use Rattle.tva_port.specs.declared.requests.RequestQueues.TheVariants.{OneLevel, TwoLevels}
use Rattle.tva_port.specs.Log.{Entry, Queued, Started}

-- a class with so many queues
abbrev pub worked_class : ℕ → DrrLimits
worked_class queues =
    record { queues = queues; ring = 64; queue_bytes = 65536; class_bytes = 131072; quantum = 2048; max = 2048 }

-- a link of 1 ns a byte, of which requests have one part in 1,000
abbrev pub worked_link : ℕ → Option ℕ → LinkLimits
worked_link queues inner = record {
  ns_per_byte = 1;
  share = 1000;
  burst = 4096;
  request = worked_class queues;
  regular = worked_class queues;
  legacy_ring = 9;
  legacy_bytes = 20000;
  request_inner = inner;
}

abbrev pub numbered : ℕ → ℕ → Carried → PacketData
numbered ordinal payload carries =
    made_packet (record { node = 1; ordinal = ordinal }) (record { src = record { 0 = 1 }; dst = record { 0 = 2 } }) payload carries

-- ## three queues of regular packets

abbrev pub three_queues : LinkLimits
three_queues = worked_link 3 None

-- a packet of 1,620 bytes, and one of 1,000
abbrev pub long : ℕ → PacketData
long ordinal = numbered ordinal 1600 carried.Nothing

abbrev pub short : ℕ → PacketData
short ordinal = numbered ordinal 980 carried.Nothing

-- while a legacy packet is under way two requests come, two packets under a key, three short ones under another, and
-- one, which is the ninth, under a third
abbrev pub regulars_queued : List Entry
regulars_queued =
    Queued 0 Legacy 0 (long 1)
    ∷ Started 0 Legacy (long 1)
    ∷ Queued 1 Request 7 (long 2)
    ∷ Queued 1 Request 7 (long 3)
    ∷ Queued 1 Regular 1 (long 4)
    ∷ Queued 1 Regular 1 (long 5)
    ∷ Queued 1 Regular 2 (short 6)
    ∷ Queued 1 Regular 2 (short 7)
    ∷ Queued 1 Regular 2 (short 8)
    ∷ Queued 1 Regular 3 (long 9)
    ∷ []

-- the requests go first
abbrev pub burst_started : List Entry
burst_started = Started 1620 Request (long 2) ∷ Started 3240 Request (long 3) ∷ []

-- the three keys take turns
abbrev pub regulars_started : List Entry
regulars_started =
    Started 4860 Regular (long 4)
    ∷ Started 6480 Regular (short 6)
    ∷ Started 7480 Regular (short 7)
    ∷ Started 8480 Regular (long 9)
    ∷ []

-- ## four queues of requests

abbrev pub two_levels : LinkLimits
two_levels = worked_link 2 (Some 2)

-- a request that passed two routers, of 43 bytes and its payload, with the tag that is its key and the tag before
abbrev pub tagged : ℕ → ℕ → ℕ → ℕ → PacketData
tagged key inner payload ordinal = numbered ordinal payload
    (carried.Shim (record {
      version = 1;
      demoted = false;
      protocol = 6;
      kind = kinds.Request (record { tag = inner; precap = 1 } ∷ record { tag = key; precap = 1 } ∷ []);
      back = backs.Nothing;
    }))

-- under each of two keys there are two inner keys; the twelfth request comes last
abbrev pub requests_queued : List Entry
requests_queued =
    Queued 0 Request 2 (tagged 2 1 1600 1)
    ∷ Queued 0 Request 2 (tagged 2 1 1600 2)
    ∷ Queued 0 Request 1 (tagged 1 1 981 3)
    ∷ Started 0 Request (tagged 2 1 1600 1)
    ∷ Queued 1 Request 2 (tagged 2 1 981 4)
    ∷ Queued 1 Request 1 (tagged 1 1 981 5)
    ∷ Queued 1 Request 1 (tagged 1 1 1600 6)
    ∷ Queued 1 Request 1 (tagged 1 2 1600 7)
    ∷ Queued 1 Request 1 (tagged 1 1 777 8)
    ∷ Queued 1 Request 1 (tagged 1 2 1600 9)
    ∷ Queued 1 Request 2 (tagged 2 1 1600 10)
    ∷ Queued 1 Request 2 (tagged 2 2 1600 11)
    ∷ Queued 1 Request 2 (tagged 2 2 1600 12)
    ∷ []

-- the credit is soon spent, and each further request waits for its own
abbrev pub requests_started : List Entry
requests_started =
    Started 1643 Request (tagged 1 1 981 3)
    ∷ Started 2667 Request (tagged 1 1 981 5)
    ∷ Started 1238000 Request (tagged 2 1 1600 2)
    ∷ Started 2881000 Request (tagged 1 2 1600 7)
    ∷ Started 4524000 Request (tagged 2 2 1600 11)
    ∷ Started 5548000 Request (tagged 2 1 981 4)
    ∷ Started 7191000 Request (tagged 1 1 1600 6)
    ∷ Started 8834000 Request (tagged 2 1 1600 10)
    ∷ Started 10477000 Request (tagged 1 2 1600 9)
    ∷ Started 11297000 Request (tagged 1 1 777 8)
    ∷ Started 12940000 Request (tagged 2 2 1600 12)
    ∷ []

-- how many queues of requests there are, at both levels
abbrev pub queues_in : RequestQueues → ℕ
queues_in (OneLevel f) = length f.queues
queues_in (TwoLevels h) = sum_by (λ g. length g.queues.queues) h.groups
