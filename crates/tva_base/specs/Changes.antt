-- Product: the restarts of a router and the changes of its routes: what is in force at a time.
use Rattle.std.specs.Prelude.{ℕ, ◌==◌, ◌&&◌, nat_le, Bool, List, [], ◌∷◌, map, filter, count_by}
use Rattle.tva_base.specs.declared.{addresses.Prefix.Prefix, packet.Time.Time, plan.Route.Route}
use Rattle.tva_base.specs.declared.plan.RouterPlan.{RouterPlan}

-- the last of these, and where there is none, that one
abbrev pub last_of : {X : Type 0} → X → List X → X
last_of x [] = x
last_of x (y ∷ ys) = last_of y ys

-- a change of the one time has come at the other
abbrev pub has_come : ℕ → Time → Bool
has_come now time = nat_le time.0 now

-- the boot of a router: how many restarts have come
abbrev pub boot_at : RouterPlan → ℕ → ℕ
boot_at plan now = count_by (λ change. has_come now change.0) plan.restarts

-- the master of the last restart that has come, else the router's own
abbrev pub master_at : RouterPlan → ℕ → List ℕ
master_at plan now =
    last_of plan.master (map (λ change. change.1) (filter (λ change. has_come now change.0) plan.restarts))

abbrev pub same_prefix : Prefix → Prefix → Bool
same_prefix a b = (a.bits == b.bits) && (a.address.0 == b.address.0)

-- the changes of a prefix
abbrev pub of_prefix : Prefix → List (Time × Prefix × ℕ) → List (Time × Prefix × ℕ)
of_prefix prefix changes = filter (λ change. same_prefix change.1 prefix) changes

-- the route by the last change of its prefix that has come
abbrev pub route_at : RouterPlan → ℕ → Route → Route
route_at plan now route = record route {
  link = last_of route.link
      (map (λ change. change.2) (filter (λ change. has_come now change.0) (of_prefix route.prefix plan.reroutes)));
}

-- a plan with another master and other routes
abbrev pub changed_plan : List ℕ → List Route → RouterPlan → RouterPlan
changed_plan master routes plan = record plan { master = master; routes = routes }

-- the plan that is in force at a time
unfoldable pub in_force : RouterPlan → ℕ → RouterPlan
in_force plan now = changed_plan (master_at plan now) (map (route_at plan now) plan.routes) plan
