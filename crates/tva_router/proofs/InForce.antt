-- What the plan in force at a time keeps of the plan.
use Rattle.tva_router.proofs.Common.{◌≡◌, ℕ, List, [], ◌∷◌, map, refl, ap, Contains, All, All-head, All-tail, All-map, All-weaker, All-filter, IsRouterPlan, IsPrefix, links_of, last_of, has_come, master_at, same_prefix, of_prefix, route_at, in_force, Prefix, Time, Route, RouterPlan, arith, rules, nat_tests, common_steps}
use Rattle.std.specs.List.{filter}
use Rattle.tva_router.proofs.Changed.{changed_valid}

pub last_all : {X : Type 0} (P : X → Type 0) (x : X) (xs : List X) → P x → All P xs → P (last_of x xs)
last_all P x [] here a = here
last_all P x (y ∷ ys) here a = last_all P y ys (All-head P y ys a) (All-tail P y ys a)

prefixes_at : (plan : RouterPlan) (now : ℕ) (routes : List Route) → map (λ (r : Route). r.prefix) (map (route_at plan now) routes) ≡ map (λ (r : Route). r.prefix) routes
prefixes_at plan now [] = refl
prefixes_at plan now (r ∷ rs) = ap (λ (ps : List Prefix). r.prefix ∷ ps) (prefixes_at plan now rs)

links_at : (plan : RouterPlan) (now : ℕ) (r : Route) → IsRouterPlan plan → Contains (links_of plan.outgoing) r.link → Contains (links_of plan.outgoing) (route_at plan now r).link
links_at plan now r k there =
    let link : Time × Prefix × ℕ → ℕ = λ c. c.2 in
    let P : ℕ → Type 0 = Contains (links_of plan.outgoing) in
    let of : List (Time × Prefix × ℕ) = of_prefix r.prefix plan.reroutes in
    last_all P r.link (map link (filter (λ c. has_come now c.0) of)) there
    (All-map P link (filter (λ c. has_come now c.0) of)
    (All-filter (λ c. has_come now c.0) (λ (c : Time × Prefix × ℕ). P (link c)) of
    (All-filter (λ c. same_prefix c.1 r.prefix) (λ (c : Time × Prefix × ℕ). P (link c)) plan.reroutes k.ways)))

-- it is valid where the plan is
pub force_valid : (plan : RouterPlan) (now : ℕ) → IsRouterPlan plan → IsRouterPlan (in_force plan now)
unfolding in_force
force_valid plan now k =
    changed_valid plan (master_at plan now) (map (route_at plan now) plan.routes) k (prefixes_at plan now plan.routes)
    (All-map (λ (r : Route). Contains (links_of plan.outgoing) r.link) (route_at plan now) plan.routes
    (All-weaker (λ (r : Route). Contains (links_of plan.outgoing) r.link) (λ (r : Route). Contains (links_of plan.outgoing) (route_at plan now r).link) (λ r there. links_at plan now r k there) plan.routes k.links))
    (All-map (λ (r : Route). IsPrefix r.prefix) (route_at plan now) plan.routes k.prefixes)

-- and has all else of it but the master and the links of its routes
pub force_clock : (plan : RouterPlan) (now : ℕ) → (in_force plan now).clock_offset ≡ plan.clock_offset
unfolding in_force
force_clock plan now = refl

pub force_slots : (plan : RouterPlan) (now : ℕ) → (in_force plan now).slots ≡ plan.slots
unfolding in_force
force_slots plan now = refl
