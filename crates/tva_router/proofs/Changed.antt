-- What is left of a router where its plan in force gets another master, or a route another link.
use Rattle.tva_router.proofs.Common.{◌≡◌, ℕ, ◌+◌, ◌<◌, ◌≤◌, Bool, true, false, cond, List, [], ◌∷◌, length, get_or, set, map, Some, None, refl, sym, ap, ◌∙◌, subst, zero, suc, arith, Contains, All, AllByRecursion, position, position_from, All-nil, All-map, All-weaker, position-Some, position_from-zero, IsRouterPlan, IsPrefix, AreDistinct, links_of, same_prefix, changed_plan, Prefix, Route, RouterPlan, Charge, IsWithinSeconds, route_with, rerouted, PortLogs, router_data, StandsFor, IsGuard, IsSound, has_prefix, IsTableOf, AreWays, Ways, Guard, RouteTable, rules, nat_tests, common_steps}
use Rattle.tva_flow.specs.Stands as flows
use Rattle.tva_port.specs.Stands as port
use Rattle.tva_router.proofs.Answers.{guard-later}
use Rattle.tva_router.proofs.Handled.{by-plan}
use Rattle.tva_router.proofs.Ports.{same_link, ports-later}
use Rattle.tva_router.proofs.Ways.{here, there, both, not_true}

-- ## the plan in force

-- a plan under its own master and routes
pub force_same : (plan built : RouterPlan) → plan ≡ built → plan ≡ changed_plan plan.master plan.routes built
force_same plan built e = subst (λ (z : RouterPlan). plan ≡ changed_plan plan.master plan.routes z) e refl

-- after another change it still differs from the one built by master and routes alone
pub force_changed : (plan built : RouterPlan) (master : List ℕ) (routes : List Route) → plan ≡ changed_plan plan.master plan.routes built → changed_plan master routes plan ≡ changed_plan master routes built
force_changed plan built master routes e = ap (changed_plan master routes) e

-- a plan stays valid where its routes keep their prefixes, and their links are the plan's
pub changed_valid : (plan : RouterPlan) (master : List ℕ) (routes : List Route) → IsRouterPlan plan → map (λ (r : Route). r.prefix) routes ≡ map (λ (r : Route). r.prefix) plan.routes
    → All (λ (r : Route). Contains (links_of plan.outgoing) r.link) routes → All (λ (r : Route). IsPrefix r.prefix) routes → IsRouterPlan (changed_plan master routes plan)
changed_valid plan master routes k same links prefixes = record {
  clock_offset = k.clock_offset;
  slots = k.slots;
  edge_tag = k.edge_tag;
  tags = k.tags;
  incoming = k.incoming;
  outgoing = k.outgoing;
  limits = k.limits;
  links = links;
  prefixes = prefixes;
  apart = subst (λ (ps : List Prefix). AreDistinct ps) (sym same) k.apart;
  boots = k.boots;
  moved = subst (λ (ps : List Prefix). All (λ c. Contains ps c.1) plan.reroutes) (sym same) k.moved;
  ways = k.ways;
  turns = k.turns;
}

pub restarted_valid : (plan : RouterPlan) (master : List ℕ) → IsRouterPlan plan → IsRouterPlan (changed_plan master plan.routes plan)
restarted_valid plan master k = changed_valid plan master plan.routes k refl k.links k.prefixes

-- what judges packets by a plan looks at no routes
pub guard_kept : (plan : RouterPlan) (last : ℕ) (g : Guard) (routes : List Route) → IsGuard plan last g → IsGuard (changed_plan plan.master routes plan) last g
guard_kept plan last g routes k = grind arith

-- the ways are found as before under another master
pub ways_kept : (plan : RouterPlan) (master : List ℕ) (w : Ways) → AreWays plan w → AreWays (changed_plan master plan.routes plan) w
ways_kept plan master w k = record { routes = k.routes; places = k.places }

-- ## a route with another link

moved_keeps : (P : Route → Type 0) (prefix : Prefix) (link : ℕ) (r : Route) → P (record r { link = link }) → P r → P (route_with prefix link r)
moved_keeps P prefix link r a b = elim (same_prefix r.prefix prefix) as (λ t. P (cond t (record r { link = link }) r)) [ true ↦ a | false ↦ b ]

pub rerouted_all : (P : Route → Type 0) (prefix : Prefix) (link : ℕ) (routes : List Route) → ((r : Route) → P r → P (record r { link = link })) → All P routes → All P (rerouted prefix link routes)
rerouted_all P prefix link routes moves a =
    All-map P (route_with prefix link) routes (All-weaker P (λ (r : Route). P (route_with prefix link r)) (λ r k. moved_keeps P prefix link r (moves r k) k) routes a)

pub rerouted_prefixes : (prefix : Prefix) (link : ℕ) (routes : List Route) → map (λ (r : Route). r.prefix) (rerouted prefix link routes) ≡ map (λ (r : Route). r.prefix) routes
rerouted_prefixes prefix link [] = refl
rerouted_prefixes prefix link (r ∷ rs) = grind (arith, moved_keeps, rerouted_prefixes prefix link rs)

place_kept : (bits address : ℕ) (prefix : Prefix) (link n : ℕ) (routes : List Route) → position_from (has_prefix bits address) n (rerouted prefix link routes) ≡ position_from (has_prefix bits address) n routes
place_kept bits address prefix link n [] = refl
place_kept bits address prefix link n (r ∷ rs) = grind (arith, position_from, moved_keeps, place_kept bits address prefix link (n + 1) rs)

-- the table stays
pub table_kept : (prefix : Prefix) (link : ℕ) (routes : List Route) (table : RouteTable) → IsTableOf routes table → IsTableOf (rerouted prefix link routes) table
table_kept prefix link routes table t = record {
  short = rerouted_all (λ (r : Route). r.prefix.bits ≤ 32) prefix link routes (λ r k. k) t.short;
  marked = rerouted_all (λ (r : Route). get_or table.lengths r.prefix.bits false ≡ true) prefix link routes (λ r k. k) t.marked;
  places = λ bits address. t.places bits address ∙ sym (place_kept bits address prefix link 0 routes);
}

pub ways_rerouted : (plan : RouterPlan) (prefix : Prefix) (link : ℕ) (w : Ways) → AreWays plan w → AreWays (changed_plan plan.master (rerouted prefix link plan.routes) plan) w
ways_rerouted plan prefix link w k = record { routes = table_kept prefix link plan.routes w.routes k.routes; places = k.places }

pub rerouted_valid : (plan : RouterPlan) (prefix : Prefix) (link : ℕ) → Contains (links_of plan.outgoing) link → IsRouterPlan plan → IsRouterPlan (changed_plan plan.master (rerouted prefix link plan.routes) plan)
rerouted_valid plan prefix link there k =
    changed_valid plan plan.master (rerouted prefix link plan.routes) k (rerouted_prefixes prefix link plan.routes)
    (rerouted_all (λ (r : Route). Contains (links_of plan.outgoing) r.link) prefix link plan.routes (λ r a. there) k.links)
    (rerouted_all (λ (r : Route). IsPrefix r.prefix) prefix link plan.routes (λ r a. a) k.prefixes)

-- ## one write

prefix_is : (a b : Prefix) → same_prefix a b ≡ true → a ≡ b
prefix_is a b h = grind (arith, same_link)

-- no route of another prefix is changed
untouched : (prefix : Prefix) (link : ℕ) (routes : List Route) → AllByRecursion (λ (r : Route). same_prefix r.prefix prefix ≡ false) routes → rerouted prefix link routes ≡ routes
untouched prefix link [] a = refl
untouched prefix link (r ∷ rs) a =
    ap (λ (b : Bool). cond b (record r { link = link }) r ∷ rerouted prefix link rs) a.0 ∙ ap (λ (z : List Route). r ∷ z) (untouched prefix link rs a.1)

others : (prefix p : Prefix) (routes : List Route) → same_prefix p prefix ≡ true → (Contains (map (λ (r : Route). r.prefix) routes) p → ⊥) → AllByRecursion (λ (r : Route). same_prefix r.prefix prefix ≡ false) routes
others prefix p [] is away = tt
others prefix p (r ∷ rs) is away = (
  not_true (same_prefix r.prefix prefix) (λ h.
      away (subst (λ (z : Prefix). Contains (r.prefix ∷ map (λ (x : Route). x.prefix) rs) z) (prefix_is r.prefix prefix h ∙ sym (prefix_is p prefix is)) (here r.prefix (map (λ (x : Route). x.prefix) rs)))),
  others prefix p rs is (λ k. away (there p r.prefix (map (λ (x : Route). x.prefix) rs) k)),
)

set_at : (prefix : Prefix) (link : ℕ) (routes : List Route) (i : ℕ) (d : Route) → AreDistinct (map (λ (r : Route). r.prefix) routes) → i < length routes → same_prefix (get_or routes i d).prefix prefix ≡ true
    → ((k : ℕ) → k < i → same_prefix (get_or routes k d).prefix prefix ≡ false) → set routes i (record (get_or routes i d) { link = link }) ≡ rerouted prefix link routes
set_at prefix link [] i d apart within hit before = absurd (omega (arith, within))
set_at prefix link (r ∷ rs) zero d apart within hit before =
    ap (λ (z : List Route). record r { link = link } ∷ z) (sym (untouched prefix link rs (others prefix r.prefix rs hit apart.0)))
    ∙ ap (λ (b : Bool). cond b (record r { link = link }) r ∷ rerouted prefix link rs) (sym hit)
set_at prefix link (r ∷ rs) (suc i) d apart within hit before =
    ap (λ (z : List Route). r ∷ z) (set_at prefix link rs i d apart.1 (omega (arith, within)) hit (λ k below. before (suc k) (omega (arith, below))))
    ∙ ap (λ (b : Bool). cond b (record r { link = link }) r ∷ rerouted prefix link rs) (sym (before 0 (omega arith)))

-- the route in the place of the prefix is the one that changes
pub rerouted_set : (prefix : Prefix) (link : ℕ) (routes : List Route) (i : ℕ) (d : Route) → AreDistinct (map (λ (r : Route). r.prefix) routes) → Some i ≡ position (λ r. same_prefix r.prefix prefix) routes
    → set routes i (record (get_or routes i d) { link = link }) ≡ rerouted prefix link routes
rerouted_set prefix link routes i d apart found = grind (arith, position-Some, set_at)

none_from : (prefix : Prefix) (n : ℕ) (routes : List Route) → position_from (λ (r : Route). same_prefix r.prefix prefix) n routes ≡ None → AllByRecursion (λ (r : Route). same_prefix r.prefix prefix ≡ false) routes
none_from prefix n [] e = tt
none_from prefix n (r ∷ rs) e =
    (elim (same_prefix r.prefix prefix) as (λ b. same_prefix r.prefix prefix ≡ b → cond b (Some n) (position_from (λ (z : Route). same_prefix z.prefix prefix) (n + 1) rs) ≡ None → AllByRecursion (λ (z : Route). same_prefix z.prefix prefix ≡ false) (r ∷ rs)) [
      | true ↦ λ h g. absurd (cc)
      | false ↦ λ h g. (h, none_from prefix (n + 1) rs g)
    ]) refl e

-- and where no route has the prefix, none changes
pub rerouted_none : (prefix : Prefix) (link : ℕ) (routes : List Route) → None ≡ position (λ r. same_prefix r.prefix prefix) routes → routes ≡ rerouted prefix link routes
rerouted_none prefix link routes none =
    sym (untouched prefix link routes (none_from prefix 0 routes (sym (position_from-zero (λ (r : Route). same_prefix r.prefix prefix) routes) ∙ sym none)))

-- ## the router

pub restarted_sound : (built plan : RouterPlan) (last now : ℕ) (g f : Guard) (w : Ways) (ps : List port.PortData) (master : List ℕ) → last ≤ now → IsSound built plan last g w ps → IsGuard (changed_plan master plan.routes plan) last f
    → IsSound built (changed_plan master plan.routes plan) now f w ps
restarted_sound built plan last now g f w ps master le s k = grind (arith, restarted_valid, force_changed, guard-later, ways_kept, ports-later)

pub restarted_stands : (built plan : RouterPlan) (last now : ℕ) (g f : Guard) (w : Ways) (ps : List port.PortData) (master : List ℕ) (h : List Charge) (logs : PortLogs)
    → StandsFor (router_data built plan last g.minter g.cache ps) h logs → IsSound built (changed_plan master plan.routes plan) now f w ps → flows.StandsFor f.cache []
    → StandsFor (router_data built (changed_plan master plan.routes plan) now f.minter f.cache ps) [] logs
restarted_stands built plan last now g f w ps master h logs s k none = record {
  plan = by-plan built (changed_plan master plan.routes plan) now f w ps k;
  charges = none;
  timely = All-nil (λ (x : Charge). IsWithinSeconds plan.clock_offset x.time x.grant);
  links = s.links;
}

pub rerouted_sound : (built plan : RouterPlan) (last now : ℕ) (g : Guard) (w : Ways) (ps : List port.PortData) (prefix : Prefix) (link : ℕ) → last ≤ now → Contains (links_of plan.outgoing) link → IsSound built plan last g w ps
    → IsSound built (changed_plan plan.master (rerouted prefix link plan.routes) plan) now g w ps
rerouted_sound built plan last now g w ps prefix link le there s =
    let after : RouterPlan = changed_plan plan.master (rerouted prefix link plan.routes) plan in
    record {
      valid = rerouted_valid plan prefix link there s.valid;
      in_force = force_changed plan built plan.master (rerouted prefix link plan.routes) s.in_force;
      guard = guard-later after last now g le (guard_kept plan last g (rerouted prefix link plan.routes) s.guard);
      ways = ways_rerouted plan prefix link w s.ways;
      ports = ports-later plan.outgoing last now ps le s.ports;
    }

pub rerouted_stands : (built plan : RouterPlan) (last now : ℕ) (g : Guard) (w : Ways) (ps : List port.PortData) (routes : List Route) (h : List Charge) (logs : PortLogs)
    → StandsFor (router_data built plan last g.minter g.cache ps) h logs → IsSound built (changed_plan plan.master routes plan) now g w ps
    → StandsFor (router_data built (changed_plan plan.master routes plan) now g.minter g.cache ps) h logs
rerouted_stands built plan last now g w ps routes h logs s k = record {
  plan = by-plan built (changed_plan plan.master routes plan) now g w ps k;
  charges = s.charges;
  timely = s.timely;
  links = s.links;
}
