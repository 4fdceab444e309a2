-- A configuration that all steps accept is valid.
use Rattle.tva_config.proofs.Common.{◌≡◌, ◌<◌, ◌≤◌, ◌==◌, ℕ, ◌+◌, ◌^◌, suc, Bool, true, false, cond, nat_lt, List, [], ◌∷◌, ◌++◌, length, map, sum_by, Ok, Option, Some, None, All, refl, ap, sym, ◌∙◌, subst, arith, length-append, cons_option, filter_map, ltb-false, nat_tests, map-append, length-map, All-append, All-map, All-nil, LinkPlan, AreDistinct, RouterEntry, HostEntry, LinkEntry, OwnedRoute, OwnedRestart, OwnedReroute, at, fault_at, node_names, node_of, all_slots, all_places, Owned, router_plan, host_plan, router_plans, slots_of, links_of, uplinks_of, rings_of, if_owned, routes_at, if_restart, restarts_at, if_reroute, reroutes_at, host_plans, config_of, IsRouterEntry, IsHostEntry, IsLinkEntry, IsName, IsNodePlan, HasPolicy, IsLinkPlan, AreWired, AreRoutersFirst, addresses_at, IsConfig, all_cons, unless_gave}
use Rattle.std.proofs.lemmas.List.Sums.{sum_by-cons, sum_by-append}
use Rattle.tva_plan.specs.declared.config.NodePlan as nodes
use Rattle.tva_plan.specs.declared.config.NodePlan.TheVariants as node
use Rattle.tva_config_entries.specs.declared.faults.ConfigTable.TheVariants as table
use Rattle.tva_config_entries.specs.declared.faults.ConfigRule.TheVariants as rule
use Rattle.tva_plan.specs.Names.{name_at, is_host_plan}
use Rattle.tva_plan.specs.Counts.{routes_in, restarts_in, reroutes_in, slots_in}
use Rattle.tva_config.proofs.StepsLinks.{AreLinks, links_keep, AreUplinks, uplinks_keep}
use Rattle.tva_config.proofs.PlanValid.{AreOwned, router_valid, host_valid}

-- ---- the routers' part

routers_valid : (count : ℕ) (links : List LinkPlan) (owned : Owned) (k : ℕ) (rs : List RouterEntry)
    → All IsRouterEntry rs → All (IsLinkPlan count) links → All (λ l. l.tag < 2 ^ 16) links → AreOwned links owned
    → All IsNodePlan (router_plans links owned k rs)
routers_valid count links owned k [] entries known tags all = All-nil IsNodePlan
routers_valid count links owned k (r ∷ rs) entries known tags all =
    all_cons IsNodePlan (node.Router (router_plan links owned k r)) (router_plans links owned (k + 1) rs)
    (router_valid count links owned k r (entries 0 r (omega arith)) known tags all)
    (routers_valid count links owned (k + 1) rs (λ j d within. entries (suc j) d (omega arith)) known tags all)

routers_long : (links : List LinkPlan) (owned : Owned) (k : ℕ) (rs : List RouterEntry) → length (router_plans links owned k rs) ≡ length rs
routers_long links owned k [] = refl
routers_long links owned k (r ∷ rs) = let more = routers_long links owned (k + 1) rs in omega (arith, more)

routers_named : (links : List LinkPlan) (owned : Owned) (k : ℕ) (rs : List RouterEntry) → map name_at (router_plans links owned k rs) ≡ map (λ r. r.name) rs
unfolding router_plan
routers_named links owned k [] = refl
routers_named links owned k (r ∷ rs) = ap (λ names. r.name ∷ names) (routers_named links owned (k + 1) rs)

routers_addressed : (links : List LinkPlan) (owned : Owned) (k : ℕ) (rs : List RouterEntry) (more : List nodes.NodePlan) → addresses_at (router_plans links owned k rs ++ more) ≡ addresses_at more
routers_addressed links owned k [] more = refl
routers_addressed links owned k (r ∷ rs) more = routers_addressed links owned (k + 1) rs more

routers_wired : (links : List LinkPlan) (owned : Owned) (k : ℕ) (rs : List RouterEntry) (more : List nodes.NodePlan)
    → AreWired links (k + length rs) more → AreWired links k (router_plans links owned k rs ++ more)
unfolding router_plan
routers_wired links owned k [] more wired = let same : k + 0 ≡ k = omega arith in rw same at wired
routers_wired links owned k (r ∷ rs) more wired =
    let same : k + length (r ∷ rs) ≡ (k + 1) + length rs = omega arith in
    ((refl, refl), routers_wired links owned (k + 1) rs more (rw same at wired))

routers_slots : (links : List LinkPlan) (owned : Owned) (k : ℕ) (rs : List RouterEntry) → sum_by slots_in (router_plans links owned k rs) ≡ all_slots rs
unfolding router_plan
routers_slots links owned k [] = refl
routers_slots links owned k (r ∷ rs) =
    sum_by-cons slots_in (node.Router (router_plan links owned k r)) (router_plans links owned (k + 1) rs)
    ∙ ap (λ n. r.slots + n) (routers_slots links owned (k + 1) rs)
    ∙ sym (sum_by-cons (λ (x : RouterEntry). x.slots) r rs)

routers_before : (links : List LinkPlan) (owned : Owned) (k : ℕ) (rs : List RouterEntry) (more : List nodes.NodePlan)
    → AreRoutersFirst more → AreRoutersFirst (router_plans links owned k rs ++ more)
routers_before links owned k [] more last = last
routers_before links owned k (r ∷ rs) more last = routers_before links owned (k + 1) rs more last

-- ---- what the routers own is among all that is owned

module _ {A B : Type 0} (owner : A → ℕ) (value : A → B) where
  -- what is of that router
  abbrev if_of : ℕ → A → Option B
  if_of k o = cond (owner o == k) (Some (value o)) None

  -- how many are of routers below that number
  abbrev below : ℕ → List A → ℕ
  below k [] = 0
  below k (o ∷ os) = cond (nat_lt (owner o) k) 1 0 + below k os

  most_at : (b : Bool) (n m : ℕ) → n ≤ m → cond b 1 0 + n ≤ suc m
  most_at b n m more = grind arith

  below_most : (k : ℕ) (os : List A) → below k os ≤ length os
  below_most k [] = omega arith
  below_most k (o ∷ os) = most_at (nat_lt (owner o) k) (below k os) (length os) (below_most k os)

  step_at : (k : ℕ) (o : A) (rest : List B) (m n : ℕ) (is less up : Bool) → (owner o == k) ≡ is → nat_lt (owner o) k ≡ less → nat_lt (owner o) (k + 1) ≡ up → length rest + m ≡ n
      → length (cons_option (cond is (Some (value o)) None) rest) + (cond less 1 0 + m) ≡ cond up 1 0 + n
  step_at k o rest m n is less up is_is less_is up_is more = grind (arith, nat_tests)

  below_step : (k : ℕ) (os : List A) → length (filter_map (if_of k) os) + below k os ≡ below (k + 1) os
  below_step k [] = refl
  below_step k (o ∷ os) = step_at k o (filter_map (if_of k) os) (below k os) (below (k + 1) os) (owner o == k) (nat_lt (owner o) k) (nat_lt (owner o) (k + 1)) refl refl refl (below_step k os)

  owned_few : (links : List LinkPlan) (owned : Owned) (os : List A) (many : nodes.NodePlan → ℕ)
      → ((k : ℕ) (r : RouterEntry) → many (node.Router (router_plan links owned k r)) ≡ length (filter_map (if_of k) os))
      → (k : ℕ) (rs : List RouterEntry) → sum_by many (router_plans links owned k rs) + below k os ≤ length os
  owned_few links owned os many is k [] = let most = below_most k os in omega (arith, most)
  owned_few links owned os many is k (r ∷ rs) =
      let split : sum_by many (router_plans links owned k (r ∷ rs)) ≡ many (node.Router (router_plan links owned k r)) + sum_by many (router_plans links owned (k + 1) rs) =
      sum_by-cons many (node.Router (router_plan links owned k r)) (router_plans links owned (k + 1) rs) in
      let here = is k r in
      let step = below_step k os in
      let more = owned_few links owned os many is (k + 1) rs in
      omega (arith, split, here, step, more)

  -- all plans have at most so many
  all_few : (links : List LinkPlan) (owned : Owned) (os : List A) (many : nodes.NodePlan → ℕ) (most : ℕ)
      → ((k : ℕ) (r : RouterEntry) → many (node.Router (router_plan links owned k r)) ≡ length (filter_map (if_of k) os))
      → (rs : List RouterEntry) (hosted : List nodes.NodePlan) → sum_by many hosted ≡ 0 → length os ≤ most
      → sum_by many (router_plans links owned 0 rs ++ hosted) ≤ most
  all_few links owned os many most is rs hosted none few =
      let both = sum_by-append many (router_plans links owned 0 rs) hosted in
      let made = owned_few links owned os many is 0 rs in
      omega (arith, both, made, none, few)

routes_few : (links : List LinkPlan) (owned : Owned) (k : ℕ) (r : RouterEntry) → routes_in (node.Router (router_plan links owned k r)) ≡ length (filter_map (if_owned k) owned.routes)
unfolding router_plan routes_at
routes_few links owned k r = refl

restarts_few : (links : List LinkPlan) (owned : Owned) (k : ℕ) (r : RouterEntry) → restarts_in (node.Router (router_plan links owned k r)) ≡ length (filter_map (if_restart k) owned.restarts)
unfolding router_plan restarts_at
restarts_few links owned k r = refl

reroutes_few : (links : List LinkPlan) (owned : Owned) (k : ℕ) (r : RouterEntry) → reroutes_in (node.Router (router_plan links owned k r)) ≡ length (filter_map (if_reroute k) owned.reroutes)
unfolding router_plan reroutes_at
reroutes_few links owned k r = refl

-- ---- the hosts' part

hosts_valid : (hs : List HostEntry) (us : List ℕ) → All IsHostEntry hs → All (λ h. 1000000000 + h.margin ≤ h.retry) hs → All IsNodePlan (host_plans hs us)
hosts_valid [] us entries late = All-nil IsNodePlan
hosts_valid (h ∷ hs) [] entries late = All-nil IsNodePlan
hosts_valid (h ∷ hs) (u ∷ us) entries late =
    all_cons IsNodePlan (node.Host (host_plan h u)) (host_plans hs us) (host_valid h u (entries 0 h (omega arith)) (late 0 h (omega arith)))
    (hosts_valid hs us (λ j d within. entries (suc j) d (omega arith)) (λ j d within. late (suc j) d (omega arith)))

hosts_long : (hs : List HostEntry) (us : List ℕ) → length us ≡ length hs → length (host_plans hs us) ≡ length hs
hosts_long [] us same = refl
hosts_long (h ∷ hs) [] same = absurd (omega arith)
hosts_long (h ∷ hs) (u ∷ us) same = let more = hosts_long hs us (omega arith) in omega (arith, more)

hosts_named : (hs : List HostEntry) (us : List ℕ) → length us ≡ length hs → map name_at (host_plans hs us) ≡ map (λ h. h.name) hs
unfolding host_plan
hosts_named [] us same = refl
hosts_named (h ∷ hs) [] same = absurd (omega arith)
hosts_named (h ∷ hs) (u ∷ us) same = ap (λ names. h.name ∷ names) (hosts_named hs us (omega arith))

hosts_addressed : (hs : List HostEntry) (us : List ℕ) → length us ≡ length hs → addresses_at (host_plans hs us) ≡ map (λ h. h.address) hs
unfolding host_plan
hosts_addressed [] us same = refl
hosts_addressed (h ∷ hs) [] same = absurd (omega arith)
hosts_addressed (h ∷ hs) (u ∷ us) same = ap (λ addresses. h.address ∷ addresses) (hosts_addressed hs us (omega arith))

all_hosts : (hs : List HostEntry) (us : List ℕ) → All (λ q. is_host_plan q ≡ true) (host_plans hs us)
all_hosts [] us = All-nil _
all_hosts (h ∷ hs) [] = All-nil _
all_hosts (h ∷ hs) (u ∷ us) =
    all_cons (λ q. is_host_plan q ≡ true) (node.Host (host_plan h u)) (host_plans hs us) refl (all_hosts hs us)

hosts_last : (hs : List HostEntry) (us : List ℕ) → AreRoutersFirst (host_plans hs us)
hosts_last [] us = tt
hosts_last (h ∷ hs) [] = tt
hosts_last (h ∷ hs) (u ∷ us) = all_hosts hs us

hosts_wired : (links : List LinkPlan) (k : ℕ) (hs : List HostEntry) (us : List ℕ) → AreUplinks links k us → AreWired links k (host_plans hs us)
unfolding host_plan
hosts_wired links k [] us known = tt
hosts_wired links k (h ∷ hs) [] known = tt
hosts_wired links k (h ∷ hs) (u ∷ us) known = (known.0, hosts_wired links (k + 1) hs us known.1)

-- what no host has
hosts_none : (many : nodes.NodePlan → ℕ) → ((h : HostEntry) (u : ℕ) → many (node.Host (host_plan h u)) ≡ 0) → (hs : List HostEntry) (us : List ℕ) → sum_by many (host_plans hs us) ≡ 0
hosts_none many none [] us = refl
hosts_none many none (h ∷ hs) [] = refl
hosts_none many none (h ∷ hs) (u ∷ us) =
    let split = sum_by-cons many (node.Host (host_plan h u)) (host_plans hs us) in
    let here = none h u in
    let more = hosts_none many none hs us in
    omega (arith, split, here, more)

hosts_policies : (hs : List HostEntry) (us : List ℕ) → All IsHostEntry hs → All HasPolicy (host_plans hs us)
unfolding host_plan
hosts_policies [] us entries = All-nil HasPolicy
hosts_policies (h ∷ hs) [] entries = All-nil HasPolicy
hosts_policies (h ∷ hs) (u ∷ us) entries =
    all_cons HasPolicy (node.Host (host_plan h u)) (host_plans hs us) (entries 0 h (omega arith)).policy (hosts_policies hs us (λ j d within. entries (suc j) d (omega arith)))

routers_policies : (links : List LinkPlan) (owned : Owned) (k : ℕ) (rs : List RouterEntry) → All HasPolicy (router_plans links owned k rs)
routers_policies links owned k [] = All-nil HasPolicy
routers_policies links owned k (r ∷ rs) = all_cons HasPolicy (node.Router (router_plan links owned k r)) (router_plans links owned (k + 1) rs) tt (routers_policies links owned (k + 1) rs)

-- ---- the whole

few_slots : (rs : List RouterEntry) → slots_of rs ≡ Ok tt → all_slots rs ≤ 1000000
unfolding slots_of
few_slots rs gave = ltb-false 1000000 (all_slots rs) (unless_gave _ (fault_at (at table.Router 0) rule.Slots _) tt gave)

few_places : (links : List LinkPlan) → rings_of links ≡ Ok tt → all_places links ≤ 1000000
unfolding rings_of
few_places links gave = ltb-false 1000000 (all_places links) (unless_gave _ (fault_at (at table.Link 0) rule.Rings _) tt gave)

-- what is known of a configuration's parts when all steps have been passed
pub record Passed (horizon max_events : ℕ) (rs : List RouterEntry) (hs : List HostEntry) (les : List LinkEntry) (links : List LinkPlan) (us : List ℕ) (owned : Owned) : Type 0 where
  pub horizon_most : horizon ≤ 1000000000000000
  pub events_most : (1 ≤ max_events) × (max_events ≤ 4000000)
  pub nodes : length rs + length hs ≤ 1024
  pub few_links : length links ≤ 4096
  pub few_routes : length owned.routes ≤ 65536
  pub few_restarts : length owned.restarts ≤ 65536
  pub few_reroutes : length owned.reroutes ≤ 65536
  pub routers : All IsRouterEntry rs
  pub hosts : All IsHostEntry hs
  pub link_entries : All IsLinkEntry les
  pub names : AreDistinct (node_names rs hs)
  pub addresses : AreDistinct (map (λ h. h.address) hs)
  pub late : All (λ h. 1000000000 + h.margin ≤ h.retry) hs
  pub linked : links_of (node_of (node_names rs hs)) les ≡ Ok links
  pub uplinks : uplinks_of (length rs) links hs ≡ Ok us
  pub as_many : length us ≡ length hs
  pub owns : AreOwned links owned
  pub slots : slots_of rs ≡ Ok tt
  pub rings : rings_of links ≡ Ok tt

pub config_valid : (horizon max_events : ℕ) (rs : List RouterEntry) (hs : List HostEntry) (les : List LinkEntry) (links : List LinkPlan) (us : List ℕ) (owned : Owned)
    → Passed horizon max_events rs hs les links us owned → IsConfig (config_of horizon max_events rs hs links us owned)
unfolding config_of
config_valid horizon max_events rs hs les links us owned passed =
    let name_count : length (node_names rs hs) ≡ length rs + length hs =
    length-append (map (λ (r : RouterEntry). r.name) rs) (map (λ (h : HostEntry). h.name) hs) ∙ rw (length-map rs (λ (r : RouterEntry). r.name), length-map hs (λ (h : HostEntry). h.name)) refl in
    let kept : AreLinks (length (node_names rs hs)) links = links_keep (node_names rs hs) les links passed.link_entries passed.linked in
    let made = router_plans links owned 0 rs in
    let hosted = host_plans hs us in
    let made_count = routers_long links owned 0 rs in
    let hosted_count = hosts_long hs us passed.as_many in
    let both : length (made ++ hosted) ≡ length made + length hosted = length-append made hosted in
    let long : length (made ++ hosted) ≡ length (node_names rs hs) = omega (arith, name_count, made_count, hosted_count, both) in
    let slots : sum_by slots_in (made ++ hosted) ≡ all_slots rs + 0 = sum_by-append slots_in made hosted ∙ rw (routers_slots links owned 0 rs, hosts_none slots_in (λ h u. refl) hs us) refl in
    let most_slots = few_slots rs passed.slots in
    let uplinks = uplinks_keep (length rs) links hs us passed.uplinks in
    let same_start : length rs ≡ 0 + length rs = omega arith in
    let uplinked : AreUplinks links (0 + length rs) us = subst (λ n. AreUplinks links n us) same_start uplinks in
    record {
      horizon = passed.horizon_most;
      max_events = passed.events_most;
      few_nodes = let nodes = passed.nodes in omega (arith, long, name_count, nodes);
      few_links = passed.few_links;
      few_routes = all_few (λ (o : OwnedRoute). o.router) (λ o. o.route) links owned owned.routes routes_in 65536 (routes_few links owned) rs hosted (hosts_none routes_in (λ h u. refl) hs us) passed.few_routes;
      few_restarts = all_few (λ (o : OwnedRestart). o.router) (λ o. (o.time, o.master)) links owned owned.restarts restarts_in 65536 (restarts_few links owned) rs hosted (hosts_none restarts_in (λ h u. refl) hs us) passed.few_restarts;
      few_reroutes = all_few (λ (o : OwnedReroute). o.owned.router) (λ o. (o.time, o.owned.route.prefix, o.owned.route.link)) links owned owned.reroutes reroutes_in 65536 (reroutes_few links owned) rs hosted (hosts_none reroutes_in (λ h u. refl) hs us) passed.few_reroutes;
      few_slots = omega (arith, slots, most_slots);
      few_places = few_places links passed.rings;
      nodes = All-append IsNodePlan made hosted (routers_valid (length (node_names rs hs)) links owned 0 rs passed.routers kept.each kept.tags passed.owns) (hosts_valid hs us passed.hosts passed.late);
      policies = All-append HasPolicy made hosted (routers_policies links owned 0 rs) (hosts_policies hs us passed.hosts);
      routers_first = routers_before links owned 0 rs hosted (hosts_last hs us);
      links = rw long kept.each;
      names = rw (map-append name_at made hosted, routers_named links owned 0 rs, hosts_named hs us passed.as_many) passed.names;
      named = rw (map-append name_at made hosted, routers_named links owned 0 rs, hosts_named hs us passed.as_many) (All-append IsName (map (λ r. r.name) rs) (map (λ h. h.name) hs)
          (All-map IsName (λ (r : RouterEntry). r.name) rs (λ j d within. (passed.routers j d within).name))
          (All-map IsName (λ (h : HostEntry). h.name) hs (λ j d within. (passed.hosts j d within).name)));
      addresses = rw (routers_addressed links owned 0 rs hosted, hosts_addressed hs us passed.as_many) passed.addresses;
      pairs = kept.pairs;
      wired = routers_wired links owned 0 rs hosted (hosts_wired links (0 + length rs) hs us uplinked);
    }
