-- The steps of the plan, cut as the functions of the code take them, give what they give in one.
use Rattle.tva_config.proofs.Common.{◌≡◌, ◌++◌, nat_lt, List, [], ◌∷◌, ℕ, length, map, Ok, Err, codes, refl, ap, zip, LinkPlan, HostEntry, Read, ◌>>=◌, at, fault_at, unless, in_turn, ConfigEntries, Config, OwnedRoute, OwnedRestart, OwnedReroute, all_places, node_names, node_of, name_step, address_step, retry_step, all_slots, link_between, link_step, uplink_step, route_step, restart_step, reroute_step, Owned, router_plans, host_plan, plan_of, names_of, addresses_of, retries_of, slots_of, links_of, uplinks_of, rings_of, routes_of, restarts_of, reroutes_of, host_plans, config_of, owned_of, linked_of, joined_of, planned_of}
use Rattle.tva_config_entries.specs.declared.faults.ConfigTable.TheVariants as table
use Rattle.tva_config_entries.specs.declared.faults.ConfigRule.TheVariants as rule
use Rattle.tva_config_entries.proofs.Staged.{deeper}
use Rattle.tva_plan.specs.declared.config.NodePlan as nodes
use Rattle.tva_plan.specs.declared.config.NodePlan.TheVariants as node

hosts_zipped : (hs : List HostEntry) (us : List ℕ) → host_plans hs us ≡ map (λ h. node.Host (host_plan h.0 h.1)) (zip hs us)
hosts_zipped [] us = refl
hosts_zipped (h ∷ hs) [] = refl
hosts_zipped (h ∷ hs) (u ∷ us) = ap (λ more. node.Host (host_plan h u) ∷ more) (hosts_zipped hs us)

-- three steps and what is made of their values, before two more
last_of : {C D E F : Type 0} (t : Read C) (make : C → D) (f : D → Read E) (g : E → Read F) (h : C → Read F)
    → ((z : C) → (f (make z) >>= g) ≡ h z) → (((t >>= (λ z. Ok (make z))) >>= f) >>= g) ≡ (t >>= h)
last_of (Ok z) make f g h same = same z
last_of (Err fault) make f g h same = refl

three_of : {A B C D E F : Type 0} (r : Read A) (s : Read B) (t : A → Read C) (make : A → B → C → D) (f : D → Read E) (g : E → Read F) (h : A → B → C → Read F)
    → ((x : A) (y : B) (z : C) → (f (make x y z) >>= g) ≡ h x y z)
    → (((r >>= (λ x. s >>= (λ y. t x >>= (λ z. Ok (make x y z))))) >>= f) >>= g) ≡ (r >>= (λ x. s >>= (λ y. t x >>= (λ z. h x y z))))
three_of (Ok x) (Ok y) t make f g h same = last_of (t x) (make x y) f g (h x y) (same x y)
three_of (Ok x) (Err fault) t make f g h same = refl
three_of (Err fault) s t make f g h same = refl

pub plan_staged : (e : ConfigEntries) → planned_of e ≡ plan_of e
unfolding plan_of planned_of joined_of linked_of owned_of config_of names_of addresses_of retries_of links_of uplinks_of routes_of restarts_of reroutes_of slots_of rings_of
plan_staged e =
    let rs = e.routers in
    let hs = e.hosts in
    let owned : List OwnedRoute → List OwnedRestart → List OwnedReroute → Owned = λ routes restarts reroutes. record { routes = routes; restarts = restarts; reroutes = reroutes } in
    let plan : List LinkPlan → Owned → List nodes.NodePlan → Config = λ links all hosts. record {
      horizon = record { 0 = e.horizon };
      max_events = e.max_events;
      nodes = router_plans links all 0 rs ++ hosts;
      links = links;
    } in
    deeper (in_turn (name_step (length rs)) [] (node_names rs hs)) _ _ _ (λ names.
    deeper (in_turn address_step [] hs) _ _ _ (λ addresses.
    deeper (in_turn retry_step [] hs) _ _ _ (λ retries.
    deeper (in_turn (link_step (node_of names)) [] e.links) _ _ _ (λ links.
    deeper (in_turn (uplink_step (length rs) links) [] hs) _ _ _ (λ uplinks.
    three_of (in_turn (route_step (length rs) (node_of names) (link_between links)) [] e.routes) (in_turn (restart_step (length rs) (node_of names)) [] e.restarts)
    (λ routes. in_turn (reroute_step (length rs) (node_of names) (link_between links) routes) [] e.reroutes) owned _ _ _ (λ routes restarts reroutes.
    deeper (unless (nat_lt 1000000 (all_slots rs)) (fault_at (at table.Router 0) rule.Slots (codes "slots"))) _ _ _ (λ few_slots.
    deeper (unless (nat_lt 1000000 (all_places links)) (fault_at (at table.Link 0) rule.Rings (codes "-"))) _ _ _ (λ few_places.
    ap (λ hosts. Ok (plan links (owned routes restarts reroutes) hosts)) (hosts_zipped hs uplinks)))))))))
