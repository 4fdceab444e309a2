-- What is read of a text is valid.
use Rattle.tva_config.proofs.Common.{◌≡◌, ℕ, List, [], length, Option, Result, Ok, Err, IfOk, All, ◌∙◌, subst, arith, LinkPlan, AreDistinct, Config, Answers, ConfigEntries, node_names, node_of, link_between, link_step, uplink_step, route_step, restart_step, reroute_step, Owned, plan_of, read_of, names_of, addresses_of, retries_of, slots_of, links_of, uplinks_of, rings_of, routes_of, restarts_of, reroutes_of, config_of, owned_of, Joined, joined_of, linked_of, planned_of, AreEntries, IsRouteEntry, IsConfig, first_gave, when_gave, gave_one, in_turn_long}
use Rattle.tva_config_entries.specs.declared.faults.ConfigError.{ConfigError}
use Rattle.tva_config_entries.specs.Reading.{entries_read}
use Rattle.tva_config_entries.proofs.ReadingValid.{read_entries_valid}
use Rattle.tva_config.proofs.ConfigValid.{Passed, config_valid}
use Rattle.tva_config.proofs.PlanValid.{AreOwned}
use Rattle.tva_config.proofs.Staged.{plan_staged}
use Rattle.tva_config.proofs.StepsRoutes.{routes_keep}
use Rattle.tva_config.proofs.StepsChanges.{restarts_keep, reroutes_keep}
use Rattle.tva_config.proofs.StepsKeep.{names_are, names_distinct, addresses_are, addresses_distinct, retries_late}

abbrev Joins : ConfigEntries → Joined → Type 0
Joins e j = Passed e.horizon e.max_events e.routers e.hosts e.links j.links j.uplinks j.owned

-- each entry gives one
abbrev AreAsMany : ConfigEntries → Owned → Type 0
AreAsMany e owned = (length owned.routes ≡ length e.routes) × (length owned.restarts ≡ length e.restarts) × (length owned.reroutes ≡ length e.reroutes)

as_many : (routers : ℕ) (node : List ℕ → Option ℕ) (links : List LinkPlan) (e : ConfigEntries) (owned : Owned)
    → routes_of routers node (link_between links) e.routes ≡ Ok owned.routes
    → restarts_of routers node e.restarts ≡ Ok owned.restarts
    → reroutes_of routers node (link_between links) owned.routes e.reroutes ≡ Ok owned.reroutes → AreAsMany e owned
unfolding routes_of restarts_of reroutes_of
as_many routers node links e owned k1 k2 k3 =
    let r_long = in_turn_long (route_step routers node (link_between links)) [] e.routes owned.routes k1 in
    let s_long = in_turn_long (restart_step routers node) [] e.restarts owned.restarts k2 in
    let w_long = in_turn_long (reroute_step routers node (link_between links) owned.routes) [] e.reroutes owned.reroutes k3 in
    (omega (arith, r_long), omega (arith, s_long), omega (arith, w_long))

-- what the steps over routes, restarts and changes of routes give
owned_keep : (routers : ℕ) (node : List ℕ → Option ℕ) (links : List LinkPlan) (e : ConfigEntries) (owned : Owned) → All IsRouteEntry e.routes
    → owned_of routers node (link_between links) e ≡ Ok owned → AreOwned links owned × AreAsMany e owned
unfolding owned_of
owned_keep routers node links e owned known gave =
    let (routes, k1, g1) = first_gave (routes_of routers node (link_between links) e.routes) _ owned gave in
    let (restarts, k2, g2) = first_gave (restarts_of routers node e.restarts) _ owned g1 in
    let (reroutes, k3, g3) = first_gave (reroutes_of routers node (link_between links) routes e.reroutes) _ owned g2 in
    let all : Owned = record { routes = routes; restarts = restarts; reroutes = reroutes } in
    let kept : AreOwned links all = record {
      routes = routes_keep routers node links e.routes routes known k1;
      restarts = restarts_keep routers node e.restarts restarts k2;
      reroutes = reroutes_keep routers node links routes e.reroutes reroutes k3;
    } in
    subst (λ o. AreOwned links o × AreAsMany e o) (gave_one all owned g3) (kept, as_many routers node links e all k1 k2 k3)

joined_passed : (e : ConfigEntries) (j : Joined) → AreEntries e → joined_of e ≡ Ok j → Joins e j
unfolding joined_of linked_of addresses_of links_of uplinks_of
joined_passed e j known gave =
    let rs = e.routers in
    let hs = e.hosts in
    when_gave (Joins e) (names_of rs hs) _ j gave (λ names k1 g1.
    when_gave (Joins e) (addresses_of hs) _ j g1 (λ addresses k2 g2.
    when_gave (Joins e) (retries_of hs) _ j g2 (λ retries k3 g3.
    when_gave (Joins e) (links_of (node_of names) e.links) _ j g3 (λ links k4 g4.
    when_gave (Joins e) (uplinks_of (length rs) links hs) _ j g4 (λ us k5 g5.
    when_gave (Joins e) (owned_of (length rs) (node_of names) (link_between links) e) _ j g5 (λ owned k6 g6.
    when_gave (Joins e) (slots_of rs) _ j g6 (λ a k7 g7.
    when_gave (Joins e) (rings_of links) _ j g7 (λ b k8 g8.
    let named : names ≡ node_names rs hs = names_are rs hs names k1 in
    let all : Joined = record { links = links; uplinks = us; owned = owned } in
    let made : all ≡ j = gave_one all j g8 in
    let u_long = in_turn_long (uplink_step (length rs) links) [] hs us k5 in
    let l_long = in_turn_long (link_step (node_of names)) [] e.links links k4 in
    let (kept, own_long) = owned_keep (length rs) (node_of names) links e owned known.routes k6 in
    let few_links = known.few_links in
    let few_routes = known.few_routes in
    let few_restarts = known.few_restarts in
    let few_reroutes = known.few_reroutes in
    let passed : Passed e.horizon e.max_events rs hs e.links links us owned = record {
      horizon_most = known.horizon;
      events_most = known.events;
      nodes = known.nodes;
      few_links = omega (arith, l_long, few_links);
      few_routes = omega (arith, own_long, few_routes);
      few_restarts = omega (arith, own_long, few_restarts);
      few_reroutes = omega (arith, own_long, few_reroutes);
      routers = known.routers;
      hosts = known.hosts;
      link_entries = known.links;
      names = subst (λ ns. AreDistinct ns) named (names_distinct rs hs names k1);
      addresses = subst (λ xs. AreDistinct xs) (addresses_are hs addresses k2) (addresses_distinct hs addresses k2);
      late = retries_late hs retries k3;
      linked = subst (λ ns. links_of (node_of ns) e.links ≡ Ok links) named k4;
      uplinks = k5;
      as_many = omega (arith, u_long);
      owns = kept;
      slots = k7;
      rings = k8;
    } in
    subst (Joins e) made passed))))))))

plan_valid : (e : ConfigEntries) (c : Config) → AreEntries e → plan_of e ≡ Ok c → IsConfig c
unfolding planned_of
plan_valid e c known gave =
    let (j, joined, last) = first_gave (joined_of e) _ c (plan_staged e ∙ gave) in
    let plan = config_of e.horizon e.max_events e.routers e.hosts j.links j.uplinks j.owned in
    subst IsConfig (gave_one plan c last)
    (config_valid e.horizon e.max_events e.routers e.hosts e.links j.links j.uplinks j.owned (joined_passed e j known joined))

-- what a text is read as is valid
pub read_valid : (text : List ℕ) (c : Config) → read_of text ≡ Ok c → IsConfig c
unfolding read_of
read_valid text c gave = when_gave IsConfig (entries_read text) plan_of c gave (λ e k1 g1. plan_valid e c (read_entries_valid text e k1) g1)

pub answer_valid : (text : List ℕ) (answer : Result Config ConfigError) → Answers (read_of text) answer → IfOk answer IsConfig
answer_valid text (Ok c) is = read_valid text c is
answer_valid text (Err e) is = tt
