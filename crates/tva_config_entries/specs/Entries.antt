-- Product: the keys of each table, in the order of their faults: a key, its kind, and its default.
use Rattle.std.specs.Prelude.{ℕ, ◌==◌, if◌then◌else◌, List, [], ◌∷◌, Option, Some, None, Ok, codes}
use Rattle.toml.specs.Data.{Members}
use Rattle.tva_base.specs.declared.limits.{DrrLimits.DrrLimits, LinkLimits.LinkLimits}
use Rattle.tva_base.specs.{declared.plan.PolicyPlan.PolicyPlan, Addresses.address_of, Addresses.prefix_of}
use Rattle.tva_base.specs.Versions.{seconds_max, units_max}
use Rattle.tva_base.specs.declared.plan.PolicyKind.TheVariants as policy
use Rattle.tva_config_entries.specs.declared.{place.Place.Place, entries.RouterEntry.RouterEntry}
use Rattle.tva_config_entries.specs.declared.entries.{HostEntry.HostEntry, LinkEntry.LinkEntry, RouteEntry.RouteEntry, RestartEntry.RestartEntry, RerouteEntry.RerouteEntry}
use Rattle.tva_config_entries.specs.Faults.{Read, ◌>>=◌}
use Rattle.tva_config_entries.specs.Keys.{only_listed, required, optional}
use Rattle.tva_config_entries.specs.Values.{number, written, name_of, hex_bytes_of, hex_nonce_of, policy_of, few_items}

-- the keys of `router`
abbrev pub router_keys : List (List ℕ)
router_keys = codes "name" ∷ codes "master" ∷ codes "slots" ∷ codes "clock_offset_ns" ∷ codes "edge_tag" ∷ []

unfoldable pub router_of : Place → Members → Read RouterEntry
router_of p ms = do
  known ← only_listed p router_keys ms
  name ← required p ms (codes "name") (written name_of)
  master ← required p ms (codes "master") (written (hex_bytes_of 32))
  slots ← required p ms (codes "slots") (number 0 1000000)
  clock_offset ← optional p ms (codes "clock_offset_ns") (number 0 1000000000000000) 0
  edge_tag ← optional p ms (codes "edge_tag") (number 0 65535) 0
  Ok (record { name = name; master = master; slots = slots; clock_offset = clock_offset; edge_tag = edge_tag })

-- the keys of `host`
abbrev pub host_keys : List (List ℕ)
host_keys = codes "name" ∷ codes "address" ∷ codes "nonce" ∷ codes "margin_ns" ∷ codes "retry_ns" ∷ codes "policy"
    ∷ codes "n" ∷ codes "t" ∷ codes "grants" ∷ codes "deny" ∷ codes "deny_tags" ∷ []

-- the policy of a host whose shims have that version
unfoldable pub policy_plan_of : ℕ → Place → Members → Read PolicyPlan
policy_plan_of version p ms = do
  kind ← optional p ms (codes "policy") (written policy_of) policy.DenyAll
  n ← optional p ms (codes "n") (number 0 (units_max version)) 32
  t ← optional p ms (codes "t") (number 0 (seconds_max version)) 10
  grants ← optional p ms (codes "grants") (number 0 1000000) 1000
  deny ← optional p ms (codes "deny") (few_items (written address_of)) []
  deny_tags ← optional p ms (codes "deny_tags") (few_items (number 1 65535)) []
  Ok (record {
    kind = kind;
    rights = record { n = n; t = t };
    grants = grants;
    deny = deny;
    deny_tags = deny_tags;
  })

-- a host whose shims have that version
unfoldable pub host_of : ℕ → Place → Members → Read HostEntry
host_of version p ms = do
  known ← only_listed p host_keys ms
  name ← required p ms (codes "name") (written name_of)
  address ← required p ms (codes "address") (written address_of)
  nonce ← optional p ms (codes "nonce") (written hex_nonce_of) 1
  margin ← optional p ms (codes "margin_ns") (number 0 1000000000000) 1000000
  retry ← optional p ms (codes "retry_ns") (number 0 10000000000000) 2000000000
  plan ← policy_plan_of version p ms
  Ok (record {
    name = name;
    address = address;
    nonce = nonce;
    margin = margin;
    retry = retry;
    version = version;
    policy = plan;
  })

-- the keys of `link`
abbrev pub link_keys : List (List ℕ)
link_keys = codes "from" ∷ codes "to" ∷ codes "ns_per_byte" ∷ codes "delay_ns" ∷ codes "tag"
    ∷ codes "share" ∷ codes "burst" ∷ codes "quantum"
    ∷ codes "request_queues" ∷ codes "regular_queues" ∷ codes "request_ring" ∷ codes "regular_ring"
    ∷ codes "request_queue_bytes" ∷ codes "regular_queue_bytes" ∷ codes "request_bytes" ∷ codes "regular_bytes"
    ∷ codes "legacy_ring" ∷ codes "legacy_bytes" ∷ codes "request_levels" ∷ codes "request_inner" ∷ []

-- a row of two keys: one of requests, and one of regular packets
unfoldable pub row : Place → Members → List ℕ → List ℕ → ℕ → ℕ → ℕ → Read (ℕ × ℕ)
row p ms request regular low high default = do
  first ← optional p ms request (number low high) default
  second ← optional p ms regular (number low high) default
  Ok (first, second)

-- the limits of a set of fair queues; `max` is 2,048
abbrev pub class_limits : ℕ → ℕ → ℕ → ℕ → ℕ → DrrLimits
class_limits queues ring queue_bytes class_bytes quantum = record {
  queues = queues;
  ring = ring;
  queue_bytes = queue_bytes;
  class_bytes = class_bytes;
  quantum = quantum;
  max = 2048;
}

-- how many queues stand behind a tag, on a link whose requests have two levels
abbrev pub behind_a_tag : ℕ → ℕ → Option ℕ
behind_a_tag levels inner = if levels == 2 then Some inner else None

-- the keys behind `tag`
unfoldable pub limits_of : Place → ℕ → Members → Read LinkLimits
limits_of p ns_per_byte ms = do
  share ← optional p ms (codes "share") (number 2 1000) 20
  burst ← optional p ms (codes "burst") (number 4096 1000000) 8192
  quantum ← optional p ms (codes "quantum") (number 2048 1000000) 2048
  queues ← row p ms (codes "request_queues") (codes "regular_queues") 1 65536 64
  rings ← row p ms (codes "request_ring") (codes "regular_ring") 1 65536 32
  queue_bytes ← row p ms (codes "request_queue_bytes") (codes "regular_queue_bytes") 2048 1073741824 65536
  class_bytes ← row p ms (codes "request_bytes") (codes "regular_bytes") 2048 1073741824 1048576
  legacy_ring ← optional p ms (codes "legacy_ring") (number 1 65536) 256
  legacy_bytes ← optional p ms (codes "legacy_bytes") (number 2048 1073741824) 262144
  levels ← optional p ms (codes "request_levels") (number 1 2) 1
  inner ← optional p ms (codes "request_inner") (number 1 65536) 4
  Ok (record {
    ns_per_byte = ns_per_byte;
    share = share;
    burst = burst;
    request = class_limits queues.0 rings.0 queue_bytes.0 class_bytes.0 quantum;
    regular = class_limits queues.1 rings.1 queue_bytes.1 class_bytes.1 quantum;
    legacy_ring = legacy_ring;
    legacy_bytes = legacy_bytes;
    request_inner = behind_a_tag levels inner;
  })

unfoldable pub link_of : Place → Members → Read LinkEntry
link_of p ms = do
  known ← only_listed p link_keys ms
  from ← required p ms (codes "from") (written name_of)
  to ← required p ms (codes "to") (written name_of)
  ns_per_byte ← required p ms (codes "ns_per_byte") (number 1 1000000)
  delay ← required p ms (codes "delay_ns") (number 1 1000000000000)
  tag ← optional p ms (codes "tag") (number 0 65535) 0
  limits ← limits_of p ns_per_byte ms
  Ok (record { from = from; to = to; delay = delay; tag = tag; limits = limits })

-- the keys of `route`
abbrev pub route_keys : List (List ℕ)
route_keys = codes "router" ∷ codes "prefix" ∷ codes "via" ∷ []

unfoldable pub route_of : Place → Members → Read RouteEntry
route_of p ms = do
  known ← only_listed p route_keys ms
  router ← required p ms (codes "router") (written name_of)
  prefix ← required p ms (codes "prefix") (written prefix_of)
  via ← required p ms (codes "via") (written name_of)
  Ok (record { router = router; prefix = prefix; via = via })

-- the keys of `restart`
abbrev pub restart_keys : List (List ℕ)
restart_keys = codes "router" ∷ codes "at_ns" ∷ codes "master" ∷ []

unfoldable pub restart_of : Place → Members → Read RestartEntry
restart_of p ms = do
  known ← only_listed p restart_keys ms
  router ← required p ms (codes "router") (written name_of)
  time ← required p ms (codes "at_ns") (number 0 1000000000000000)
  master ← required p ms (codes "master") (written (hex_bytes_of 32))
  Ok (record { router = router; at = time; master = master })

-- the keys of `reroute`
abbrev pub reroute_keys : List (List ℕ)
reroute_keys = codes "router" ∷ codes "at_ns" ∷ codes "prefix" ∷ codes "via" ∷ []

unfoldable pub reroute_of : Place → Members → Read RerouteEntry
reroute_of p ms = do
  known ← only_listed p reroute_keys ms
  router ← required p ms (codes "router") (written name_of)
  time ← required p ms (codes "at_ns") (number 0 1000000000000000)
  prefix ← required p ms (codes "prefix") (written prefix_of)
  via ← required p ms (codes "via") (written name_of)
  Ok (record { at = time; route = record { router = router; prefix = prefix; via = via } })
