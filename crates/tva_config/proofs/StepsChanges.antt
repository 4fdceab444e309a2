-- What the steps over restarts and changes of routes show of those that they accept.
use Rattle.tva_config.proofs.Common.{◌≡◌, ◌==◌, ℕ, ◌&&◌, true, false, not, List, [], ◌∷◌, ◌++◌, length, map, filter, Ok, Option, All, Contains, subst, eqb-true, list_any, and_parts, All-nil, Prefix, LinkPlan, AreRising, OwnedRoute, OwnedRestart, OwnedReroute, at, fault_at, unless, found, link_between, outgoing_of, router_named, is_for, resolved, is_late_restart, restart_step, is_late_reroute, reroute_step, is_restart_of, restarts_of, is_reroute_of, reroutes_of, first_gave, unless_gave, in_turn_keeps, all_push}
use Rattle.tva_base.specs.Plan.{links_of}
use Rattle.tva_config_entries.specs.declared.faults.ConfigTable.TheVariants as table
use Rattle.tva_config_entries.specs.declared.faults.ConfigRule.TheVariants as rule
use Rattle.tva_config_entries.specs.declared.entries.RestartEntry.{RestartEntry}
use Rattle.tva_config_entries.specs.declared.entries.RerouteEntry.{RerouteEntry}
use Rattle.tva_config.proofs.Numbered.{untrue}
use Rattle.tva_config.proofs.Rising.{rising_more}
use Rattle.tva_config.proofs.StepsRoutes.{resolved_shows}

-- the times of a router's restarts rise
abbrev pub AreRestarts : List OwnedRestart → Type 0
AreRestarts rs = (router : ℕ) → AreRising (map (λ r. r.time.0) (filter (is_restart_of router) rs))

restart_more : (routers : ℕ) (node : List ℕ → Option ℕ) (done : List OwnedRestart) (x : RestartEntry) (y : OwnedRestart)
    → AreRestarts done → restart_step routers node done x ≡ Ok y → AreRestarts (done ++ y ∷ [])
restart_more routers node done x y rising gave =
    let (router, named, g1) = first_gave (found (router_named routers node x.router) (fault_at (at table.Restart (length done)) rule.Owner _)) _ y gave in
    let (u, after, g2) = first_gave (unless (list_any (is_late_restart router x.at) done) (fault_at (at table.Restart (length done)) rule.Times _)) _ y g1 in
    let made : OwnedRestart = record { router = router; time = record { 0 = x.at }; master = x.master } in
    let is : made ≡ y = cc in
    let new : list_any (is_late_restart router x.at) done ≡ false = unless_gave _ _ u after in
    subst (λ z. AreRestarts (done ++ z ∷ [])) is (λ n. rising_more (is_restart_of n) (λ r. r.time.0) done made (rising n) (λ same.
    let e : router ≡ n = eqb-true router n same in
    rw e at new))

pub restarts_keep : (routers : ℕ) (node : List ℕ → Option ℕ) (entries : List RestartEntry) (rs : List OwnedRestart)
    → restarts_of routers node entries ≡ Ok rs → AreRestarts rs
unfolding restarts_of
restarts_keep routers node entries rs gave = in_turn_keeps AreRestarts (restart_step routers node) (restart_more routers node) [] entries rs (λ n. tt) gave

-- a change takes a link of its router, which has a route of the prefix
pub record IsMoved (links : List LinkPlan) (routes : List OwnedRoute) (r : OwnedReroute) : Type 0 where
  pub link : Contains (links_of (outgoing_of r.owned.router links)) r.owned.route.link
  pub routed : list_any (is_for r.owned.router r.owned.route.prefix) routes ≡ true

-- and the times of a router's changes for a prefix rise
pub record AreReroutes (links : List LinkPlan) (routes : List OwnedRoute) (rs : List OwnedReroute) : Type 0 where
  pub each : All (IsMoved links routes) rs
  pub rising : (router : ℕ) (prefix : Prefix) → AreRising (map (λ r. r.time.0) (filter (is_reroute_of router prefix) rs))

same_changes : (o : OwnedRoute) (n : ℕ) (p : Prefix) (time : ℕ) (done : List OwnedReroute) → is_for n p o ≡ true
    → list_any (is_late_reroute o.router o.route.prefix time) done ≡ false → list_any (is_late_reroute n p time) done ≡ false
same_changes o n p time done same after =
    let (two, right) = and_parts ((o.router == n) && (o.route.prefix.address.0 == p.address.0)) (o.route.prefix.bits == p.bits) same in
    let (one, left) = and_parts (o.router == n) (o.route.prefix.address.0 == p.address.0) two in
    let a : o.router ≡ n = eqb-true o.router n one in
    let b : o.route.prefix.address.0 ≡ p.address.0 = eqb-true o.route.prefix.address.0 p.address.0 left in
    let d : o.route.prefix.bits ≡ p.bits = eqb-true o.route.prefix.bits p.bits right in
    rw (← a, ← b, ← d) after

reroute_more : (routers : ℕ) (node : List ℕ → Option ℕ) (links : List LinkPlan) (routes : List OwnedRoute) (done : List OwnedReroute) (x : RerouteEntry) (y : OwnedReroute)
    → AreReroutes links routes done → reroute_step routers node (link_between links) routes done x ≡ Ok y → AreReroutes links routes (done ++ y ∷ [])
reroute_more routers node links routes done x y known gave =
    let (owned, is_resolved, g1) = first_gave (resolved (at table.Reroute (length done)) routers node (link_between links) x.route) _ y gave in
    let (u, moved, g2) = first_gave (unless (not (list_any (is_for owned.router owned.route.prefix) routes)) (fault_at (at table.Reroute (length done)) rule.Prefix _)) _ y g1 in
    let (v, after, g3) = first_gave (unless (list_any (is_late_reroute owned.router owned.route.prefix x.at) done) (fault_at (at table.Reroute (length done)) rule.Times _)) _ y g2 in
    let made : OwnedReroute = record { time = record { 0 = x.at }; owned = owned } in
    let is : made ≡ y = cc in
    let new : list_any (is_late_reroute owned.router owned.route.prefix x.at) done ≡ false = unless_gave _ _ v after in
    let here : IsMoved links routes made = record {
      link = (resolved_shows (at table.Reroute (length done)) routers node links x.route owned is_resolved).1;
      routed = untrue _ (unless_gave _ _ u moved);
    } in
    let all : AreReroutes links routes (done ++ made ∷ []) = record {
      each = all_push (IsMoved links routes) done made known.each here;
      rising = λ n p. rising_more (is_reroute_of n p) (λ r. r.time.0) done made (known.rising n p) (λ same. same_changes owned n p x.at done same new);
    } in
    subst (λ z. AreReroutes links routes (done ++ z ∷ [])) is all

pub reroutes_keep : (routers : ℕ) (node : List ℕ → Option ℕ) (links : List LinkPlan) (routes : List OwnedRoute) (entries : List RerouteEntry) (rs : List OwnedReroute)
    → reroutes_of routers node (link_between links) routes entries ≡ Ok rs → AreReroutes links routes rs
unfolding reroutes_of
reroutes_keep routers node links routes entries rs gave =
    in_turn_keeps (AreReroutes links routes) (reroute_step routers node (link_between links) routes) (reroute_more routers node links routes) [] entries rs
    (record { each = All-nil (IsMoved links routes); rising = λ n p. tt }) gave
