-- Product: the requests that wait for a link: in fair queues by their keys, or on a link with two levels in
-- two-level queues, by their keys and within a key by the tag before it.
use Rattle.std.specs.Prelude.{◌≡◌, ℕ, Bool, List, [], Option, Some, None}
use Rattle.tva_base.specs.declared.limits.DrrLimits.{DrrLimits}
use Rattle.tva_base.specs.declared.limits.LinkLimits.{LinkLimits}
use Rattle.tva_shim.specs.Packets.{PacketData, packet_length}
use Rattle.tva_shim.specs.Shows.{inner_key_of}
use Rattle.tva_drr.specs.declared.offered.Offered.{Offered}
use Rattle.tva_drr.specs.Queues.{Queue, fair, items_of, head}
use Rattle.tva_drr.specs.Offer.{offer_answer, offer_leaves}
use Rattle.tva_drr.specs.Take.{take_leaves}
use Rattle.tva_drr.specs.Service.{is_front}
use Rattle.tva_drr.specs.Groups.{hier, items_under, next}
use Rattle.tva_drr.specs.GroupsOffer.{answer_to_offer, left_by_offer}
use Rattle.tva_drr.specs.GroupsTake.{left_by_take}
use Rattle.tva_drr.specs.GroupsAhead.{are_front}
use Rattle.tva_port.specs.declared.requests.RequestQueues.{RequestQueues}
use Rattle.tva_port.specs.declared.requests.RequestQueues.TheVariants.{OneLevel, TwoLevels}

-- no requests, in two-level queues where there is a number of inner queues
abbrev pub none_under : DrrLimits → Option ℕ → RequestQueues
none_under l None = OneLevel (fair l [])
none_under l (Some inner) = TwoLevels (hier l inner [])

-- the queues of a link without requests
abbrev pub no_requests : LinkLimits → RequestQueues
no_requests l = none_under l.request l.request_inner

-- the limits of a class of requests
abbrev pub limits_in : RequestQueues → DrrLimits
limits_in (OneLevel f) = f.limits
limits_in (TwoLevels h) = h.limits

-- what the next take gives
abbrev pub next_in : RequestQueues → Option PacketData
next_in (OneLevel f) = head f.queues
next_in (TwoLevels h) = next h.groups

-- what an offer of a request under a key answers, and what it leaves
abbrev pub request_answer : RequestQueues → ℕ → PacketData → Offered PacketData
request_answer (OneLevel f) key packet = offer_answer packet_length f key packet
request_answer (TwoLevels h) key packet = answer_to_offer packet_length h key (inner_key_of packet) packet

abbrev pub request_leaves : RequestQueues → ℕ → PacketData → RequestQueues
request_leaves (OneLevel f) key packet = OneLevel (offer_leaves packet_length f key packet)
request_leaves (TwoLevels h) key packet = TwoLevels (left_by_offer packet_length h key (inner_key_of packet) packet)

-- what a take leaves
abbrev pub request_taken : RequestQueues → RequestQueues
request_taken (OneLevel f) = OneLevel (take_leaves packet_length f)
request_taken (TwoLevels h) = TwoLevels (left_by_take packet_length h)

-- the requests that wait in the queue of a request under a key, oldest first
abbrev pub requests_with : RequestQueues → ℕ → PacketData → List PacketData
requests_with (OneLevel f) key packet = items_of key f.queues
requests_with (TwoLevels h) key packet = items_under h key (inner_key_of packet)

-- the next take gives the first of these
abbrev pub are_next : RequestQueues → ℕ → PacketData → Bool
are_next (OneLevel f) key packet = is_front key f.queues
are_next (TwoLevels h) key packet = are_front key (inner_key_of packet) h.groups

-- the queues by keys alone; on a link with two levels there are none
abbrev pub single_queues : RequestQueues → List (Queue PacketData)
single_queues (OneLevel f) = f.queues
single_queues (TwoLevels h) = []

-- no request waits
abbrev pub AreNone : RequestQueues → Type 0
AreNone (OneLevel f) = f.queues ≡ []
AreNone (TwoLevels h) = h.groups ≡ []
