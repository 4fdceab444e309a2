-- The worked walk's configuration is valid, and so are its rows.
use Rattle.tva_laws.proofs.Common.{◌≡◌, ◌<◌, ◌≤◌, ◌^◌, ℕ, zero, suc, true, false, List, [], ◌∷◌, length, map, Contains, slice_index_or, refl, ap, arith, AllByRecursion, and_right, All-from_recursion, All-nil, Address, Prefix, LinkLimits, Time, Client, Server, Route, AreClassLimits, AreLinkLimits, IsRouterPlan, IsHostPlan, links_of, Config, NodePlan, Router, Host, is_host_plan, links_from, incoming_of, outgoing_of, IsPolicyPlan, HasPolicy, IsLinkPlan, IsConfig, Row, AreTraceRows, begins, files_at, walk_a, walk_b, walk_class, walk_limits, walk_router, walk_host, walk_host_b, walk_link, walk_config, walk_rows, nat_tests}
use Rattle.tva_base.specs.declared.plan.PolicyKind.{PolicyKind}
use Rattle.tva_base.specs.Plan.{AreRising}

-- ## lists without doubles

absent_at : {X : Type 0} (xs : List X) (x : X) → AllByRecursion (λ y. y ≡ x → ⊥) xs → (k : ℕ) → k < length xs
    → slice_index_or xs k x ≡ x → ⊥
absent_at [] x a k l e = omega (arith, l)
absent_at (y ∷ ys) x a zero l e = a.0 e
absent_at (y ∷ ys) x a (suc k) l e = absent_at ys x a.1 k (omega (arith, l)) e

pub absent : {X : Type 0} (xs : List X) (x : X) → AllByRecursion (λ y. y ≡ x → ⊥) xs → Contains xs x → ⊥
absent xs x a c = absent_at xs x a c.0 c.1 c.2

pub unlike : {X : Type 0} (f : X → ℕ) (x y : X) → (f x ≡ f y → ⊥) → x ≡ y → ⊥
unlike f x y n e = n (ap f e)

abbrev pub first : List ℕ → ℕ
first [] = 0
first (n ∷ ns) = n

abbrev pub left : ℕ × ℕ → ℕ
left p = p.0

abbrev pub right : ℕ × ℕ → ℕ
right p = p.1

-- ## limits

pub class_fine : AreClassLimits walk_class
class_fine = grind (arith, nat_tests)

pub limits_fine : AreLinkLimits walk_limits
limits_fine = grind (arith, nat_tests, class_fine)

-- ## nodes

-- with some restarts
router_fine : (restarts : List (Time × List ℕ)) → AreRising (map (λ (c : Time × List ℕ). c.0.0) restarts)
    → IsRouterPlan (record walk_router { restarts = restarts })
router_fine restarts rising = record {
  clock_offset = omega arith;
  slots = omega arith;
  edge_tag = omega arith;
  tags = All-from_recursion (λ (i : ℕ × ℕ). i.1 < 2 ^ 16) walk_router.incoming (omega arith, (omega arith, tt));
  incoming = (absent (3 ∷ []) 0 (λ e. omega (arith, e), tt), (absent [] 3 tt, tt));
  outgoing = (absent (2 ∷ []) 1 (λ e. omega (arith, e), tt), (absent [] 2 tt, tt));
  limits = All-from_recursion (λ (o : ℕ × LinkLimits). AreLinkLimits o.1) walk_router.outgoing (limits_fine, (limits_fine, tt));
  links = All-from_recursion (λ (r : Route). Contains (links_of walk_router.outgoing) r.link) walk_router.routes
      ((0, omega arith, refl), ((1, omega arith, refl), tt));
  prefixes = grind (arith, nat_tests);
  apart = grind (arith, nat_tests, absent, unlike);
  boots = rising;
  moved = All-nil (λ (c : Time × Prefix × ℕ). Contains (map (λ (r : Route). r.prefix) walk_router.routes) c.1);
  ways = All-nil (λ (c : Time × Prefix × ℕ). Contains (links_of walk_router.outgoing) c.2);
  turns = λ prefix. tt;
}

pub host_fine : (letter : ℕ) (address : Address) (kind : PolicyKind) (uplink : ℕ) → IsHostPlan (walk_host letter address kind uplink)
host_fine letter address kind uplink = grind (arith, nat_tests)

pub policy_fine : (letter : ℕ) (address : Address) (kind : PolicyKind) (uplink : ℕ) → IsPolicyPlan (walk_host letter address kind uplink).policy
policy_fine letter address kind uplink = grind (arith, nat_tests)

-- ## the network

pub link_fine : (from to tag : ℕ) → from < 3 → to < 3 → (from ≡ to → ⊥) → IsLinkPlan 3 (walk_link from to tag)
link_fine from to tag f t a = record { from = f; to = t; apart = a; delay = (omega arith, omega arith); limits = limits_fine }

-- the network, where the router has some restarts, and the policy of A is of a kind
abbrev pub config_with : List (Time × List ℕ) → PolicyKind → Config
config_with restarts kind = record walk_config {
  nodes = Router (record walk_router { restarts = restarts }) ∷ Host (walk_host 65 walk_a kind 0) ∷ Host walk_host_b ∷ [];
}

pub valid_with : (restarts : List (Time × List ℕ)) (kind : PolicyKind) → AreRising (map (λ (c : Time × List ℕ). c.0.0) restarts)
    → length restarts ≤ 65536 → IsConfig (config_with restarts kind)
unfolding links_from incoming_of outgoing_of
valid_with restarts kind rising few = record {
  horizon = omega arith;
  max_events = (omega arith, omega arith);
  few_nodes = omega arith;
  few_links = omega arith;
  few_routes = omega arith;
  few_restarts = omega (arith, few);
  few_reroutes = omega arith;
  few_slots = omega arith;
  few_places = omega arith;
  nodes = grind (arith, nat_tests, router_fine, host_fine);
  policies = All-from_recursion HasPolicy (config_with restarts kind).nodes (tt, (policy_fine 65 walk_a kind 0, (policy_fine 66 walk_b Server 3, tt)));
  routers_first = All-from_recursion (λ (q : NodePlan). is_host_plan q ≡ true) (Host walk_host_b ∷ []) (refl, tt);
  links = All-from_recursion (IsLinkPlan 3) walk_config.links (
    link_fine 1 0 1 (omega arith) (omega arith) (λ e. omega (arith, e)),
    (
      link_fine 0 1 0 (omega arith) (omega arith) (λ e. omega (arith, e)),
      (
        link_fine 0 2 0 (omega arith) (omega arith) (λ e. omega (arith, e)),
        (link_fine 2 0 2 (omega arith) (omega arith) (λ e. omega (arith, e)), tt),
      ),
    ),
  );
  named = grind (arith, nat_tests);
  names = grind (arith, nat_tests, absent, unlike);
  addresses = (absent (walk_b ∷ []) walk_a (unlike (λ (a : Address). a.0) walk_b walk_a (λ k. omega (arith, k)), tt), (absent [] walk_b tt, tt));
  pairs = grind (arith, nat_tests, absent, unlike);
  wired = ((refl, refl), (refl, (refl, tt)));
}

pub valid : IsConfig walk_config
valid = valid_with [] Client tt (omega arith)

-- no row begins a transfer
pub none_begins : (node : ℕ) (rows : List Row) → AllByRecursion (λ (row : Row). begins row.what ≡ false) rows → files_at node rows ≡ 0
none_begins node [] none = refl
none_begins node (row ∷ rows) none = grind (arith, nat_tests, and_right, none_begins node rows none.1)

pub traced : AreTraceRows walk_config walk_rows
traced = grind (arith, nat_tests, none_begins)
