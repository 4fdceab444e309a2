-- Product: which plans and limits are valid.
use Rattle.std.specs.Prelude.{◌≡◌, ◌<◌, ◌≤◌, ℕ, ◌+◌, ◌-◌, ◌^◌, ◌%◌, List, [], ◌∷◌, All, Contains, map, Some}
use Rattle.tva_base.specs.declared.{addresses.Prefix.Prefix, limits.DrrLimits.DrrLimits, limits.LinkLimits.LinkLimits}
use Rattle.tva_base.specs.{declared.plan.RouterPlan.RouterPlan, declared.plan.HostPlan.HostPlan, Changes.of_prefix}
use Rattle.tva_base.specs.Versions.{AreRights, IsVersion}

-- limits under which there may be fair queues
pub record AreDrrLimits (l : DrrLimits) : Type 0 where
  pub queues : (1 ≤ l.queues) × (l.queues ≤ 2 ^ 30)
  pub ring : (1 ≤ l.ring) × (l.ring ≤ 2 ^ 30)
  pub queue_bytes : l.queue_bytes ≤ 2 ^ 30
  pub class_bytes : l.class_bytes ≤ 2 ^ 30
  pub max : 1 ≤ l.max
  pub quantum : (l.max ≤ l.quantum) × (l.quantum ≤ 2 ^ 30)

-- limits that a configuration may give one class of a link
pub record AreClassLimits (l : DrrLimits) : Type 0 where
  pub queues : (1 ≤ l.queues) × (l.queues ≤ 65536)
  pub ring : (1 ≤ l.ring) × (l.ring ≤ 65536)
  pub queue_bytes : (2048 ≤ l.queue_bytes) × (l.queue_bytes ≤ 2 ^ 30)
  pub class_bytes : (2048 ≤ l.class_bytes) × (l.class_bytes ≤ 2 ^ 30)
  pub max : l.max ≡ 2048
  pub quantum : (2048 ≤ l.quantum) × (l.quantum ≤ 1000000)

-- limits that a configuration may give a link
pub record AreLinkLimits (l : LinkLimits) : Type 0 where
  pub ns_per_byte : (1 ≤ l.ns_per_byte) × (l.ns_per_byte ≤ 1000000)
  pub share : (2 ≤ l.share) × (l.share ≤ 1000)
  pub burst : (4096 ≤ l.burst) × (l.burst ≤ 1000000)
  pub request : AreClassLimits l.request
  pub regular : AreClassLimits l.regular
  pub legacy_ring : (1 ≤ l.legacy_ring) × (l.legacy_ring ≤ 65536)
  pub legacy_bytes : (2048 ≤ l.legacy_bytes) × (l.legacy_bytes ≤ 2 ^ 30)
  pub request_inner : (inner : ℕ) → l.request_inner ≡ Some inner → (1 ≤ inner) × (inner ≤ 65536)

-- a prefix of at most 32 bits whose address is zero past them
pub record IsPrefix (p : Prefix) : Type 0 where
  pub bits : p.bits ≤ 32
  pub zeros : p.address.0 % 2 ^ (32 - p.bits) ≡ 0

-- no two elements are equal
abbrev pub AreDistinct : {A : Type 0} → List A → Type 0
AreDistinct [] = Unit {0}
AreDistinct (x ∷ xs) = (Contains xs x → ⊥) × AreDistinct xs

-- the links of the pairs, in their order
abbrev pub links_of : {A : Type 0} → List (ℕ × A) → List ℕ
links_of pairs = map (λ p. p.0) pairs

-- the numbers rise
abbrev pub AreRising : List ℕ → Type 0
AreRising [] = Unit {0}
AreRising (n ∷ ns) = All (λ m. n < m) ns × AreRising ns

-- a plan that a router can be built from
pub record IsRouterPlan (p : RouterPlan) : Type 0 where
  pub clock_offset : p.clock_offset ≤ 1000000000000000
  pub slots : p.slots ≤ 1000000
  pub edge_tag : p.edge_tag < 2 ^ 16
  pub tags : All (λ i. i.1 < 2 ^ 16) p.incoming
  pub incoming : AreDistinct (links_of p.incoming)
  pub outgoing : AreDistinct (links_of p.outgoing)
  pub limits : All (λ o. AreLinkLimits o.1) p.outgoing
  pub links : All (λ r. Contains (links_of p.outgoing) r.link) p.routes
  pub prefixes : All (λ r. IsPrefix r.prefix) p.routes
  pub apart : AreDistinct (map (λ r. r.prefix) p.routes)
  pub boots : AreRising (map (λ c. c.0.0) p.restarts)
  pub moved : All (λ c. Contains (map (λ r. r.prefix) p.routes) c.1) p.reroutes
  pub ways : All (λ c. Contains (links_of p.outgoing) c.2) p.reroutes
  pub turns : (prefix : Prefix) → AreRising (map (λ c. c.0.0) (of_prefix prefix p.reroutes))

-- a plan that a host can be built from
pub record IsHostPlan (p : HostPlan) : Type 0 where
  pub nonce : p.nonce < 2 ^ 48
  pub margin : p.margin ≤ 1000000000000
  pub retry : (1000000000 + p.margin ≤ p.retry) × (p.retry ≤ 10000000000000)
  pub version : IsVersion p.version
  pub rights : AreRights p.version p.policy.rights
