-- What the steps over routes show of the routes that they accept.
use Rattle.tva_config.proofs.Common.{◌≡◌, ◌==◌, ℕ, ◌+◌, suc, Bool, true, false, ◌&&◌, cond, List, [], ◌∷◌, ◌++◌, length, map, Ok, Option, Some, None, option_and_then, All, Contains, refl, sym, ◌∙◌, subst, arith, list_any, position_from, cons_option, eq-eqb, and_parts, map-append, All-nil, Prefix, LinkLimits, LinkPlan, AreDistinct, IsPrefix, OwnedRoute, at, fault_at, unless, found, joins, link_between, picked, limited_from, outgoing_of, router_named, is_for, resolved, route_step, link_to, routes_of, IsRouteEntry, first_gave, unless_gave, found_gave, in_turn_keeps_of, distinct_push, all_push}
use Rattle.tva_base.specs.Plan.{links_of}
use Rattle.tva_config_entries.specs.declared.faults.ConfigTable.TheVariants as table
use Rattle.tva_config_entries.specs.declared.faults.ConfigRule.TheVariants as rule
use Rattle.tva_config_entries.specs.declared.place.Place.{Place}
use Rattle.tva_config_entries.specs.declared.entries.RouteEntry.{RouteEntry}
use Rattle.tva_config.proofs.StepsKeep.{not_in, any_of_map}

pub contains_cons : {A : Type 0} (x y : A) (xs : List A) → Contains xs x → Contains (y ∷ xs) x
contains_cons x y xs (k, within, is) = (suc k, omega arith, is)

-- the pairs of a choice that has one pair more, or not
more_there : (B : Type 0) (o : Option (ℕ × B)) (rest : List (ℕ × B)) (x : ℕ) → Contains (links_of rest) x → Contains (links_of (cons_option o rest)) x
more_there B None rest x there = there
more_there B (Some p) rest x there = contains_cons x p.0 (links_of rest) there

out_first : (router k : ℕ) (l : LinkPlan) (rest : List (ℕ × LinkLimits)) (b : Bool) → (l.from == router) ≡ b → b ≡ true → Contains (links_of (cons_option (limited_from router k l) rest)) k
out_first router k l rest false is holds = absurd (cc)
out_first router k l rest true is holds = rw is (0, omega arith, refl)

out_at : (router to k : ℕ) (l : LinkPlan) (ls : List LinkPlan) (out : ℕ) (b : Bool) → joins router to l ≡ b
    → (position_from (joins router to) (k + 1) ls ≡ Some out → Contains (links_of (picked (limited_from router) (k + 1) ls)) out)
    → cond b (Some k) (position_from (joins router to) (k + 1) ls) ≡ Some out → Contains (links_of (picked (limited_from router) k (l ∷ ls))) out
out_at router to k l ls out true is more found_it =
    let here : k ≡ out = cc in
    let (begins, ends) = and_parts (l.from == router) (l.to == to) is in
    subst (λ n. Contains (links_of (picked (limited_from router) k (l ∷ ls))) n) here (out_first router k l _ _ begins refl)
out_at router to k l ls out false is more found_it = more_there LinkLimits (limited_from router k l) (picked (limited_from router) (k + 1) ls) out (more found_it)

out_from : (router to k : ℕ) (links : List LinkPlan) (out : ℕ) → position_from (joins router to) k links ≡ Some out → Contains (links_of (picked (limited_from router) k links)) out
out_from router to k [] out is = absurd (cc)
out_from router to k (l ∷ ls) out is = out_at router to k l ls out (joins router to l) refl (out_from router to (k + 1) ls out) is

-- a link that was found is one out of the router
pub out_is_there : (router to : ℕ) (links : List LinkPlan) (out : ℕ) → link_between links router to ≡ Some out → Contains (links_of (outgoing_of router links)) out
unfolding outgoing_of
out_is_there router to links out is = out_from router to 0 links out is

then_gave : {A B : Type 0} (f : A → Option B) (o : Option A) (y : B) → option_and_then f o ≡ Some y → (x : A) × (f x ≡ Some y)
then_gave f None y is = absurd (cc)
then_gave f (Some x) y is = (x, is)

pub record IsOwned (links : List LinkPlan) (o : OwnedRoute) : Type 0 where
  pub prefix : IsPrefix o.route.prefix
  pub link : Contains (links_of (outgoing_of o.router links)) o.route.link

abbrev pub key_of : OwnedRoute → ℕ × Prefix
key_of o = (o.router, o.route.prefix)

-- the routes so far take links of their routers, and no two of a router are for one prefix
pub record AreRoutes (links : List LinkPlan) (routes : List OwnedRoute) : Type 0 where
  pub each : All (IsOwned links) routes
  pub apart : AreDistinct (map key_of routes)

abbrev is_key : ℕ → Prefix → ℕ × Prefix → Bool
is_key router p e = (e.0 == router) && (e.1.address.0 == p.address.0) && (e.1.bits == p.bits)

is_key_itself : (router : ℕ) (p : Prefix) → is_key router p (router, p) ≡ true
is_key_itself router p =
    let a : (router == router) ≡ true = eq-eqb router router refl in
    let b : (p.address.0 == p.address.0) ≡ true = eq-eqb p.address.0 p.address.0 refl in
    let c : (p.bits == p.bits) ≡ true = eq-eqb p.bits p.bits refl in
    rw (a, b, c)

-- a route with its numbers is for the prefix of its entry, by a link of its router
pub resolved_shows : (place : Place) (routers : ℕ) (node : List ℕ → Option ℕ) (links : List LinkPlan) (x : RouteEntry) (owned : OwnedRoute)
    → resolved place routers node (link_between links) x ≡ Ok owned → (owned.route.prefix ≡ x.prefix) × Contains (links_of (outgoing_of owned.router links)) owned.route.link
resolved_shows place routers node links x owned made =
    let (router, named, made1) = first_gave (found (router_named routers node x.router) (fault_at place rule.Owner _)) _ owned made in
    let (out, linked, made2) = first_gave (found (link_to node (link_between links) router x.via) (fault_at place rule.Via _)) _ owned made1 in
    let plan : OwnedRoute = record { router = router; route = record { prefix = x.prefix; link = out } } in
    let is : plan ≡ owned = cc in
    let (to, between) = then_gave (link_between links router) (node x.via) out (found_gave _ _ out linked) in
    subst (λ (o : OwnedRoute). (o.route.prefix ≡ x.prefix) × Contains (links_of (outgoing_of o.router links)) o.route.link) is
    (refl, out_is_there router to links out between)

route_more : (routers : ℕ) (node : List ℕ → Option ℕ) (links : List LinkPlan) (done : List OwnedRoute) (x : RouteEntry) (y : OwnedRoute)
    → IsRouteEntry x → AreRoutes links done → route_step routers node (link_between links) done x ≡ Ok y → AreRoutes links (done ++ y ∷ [])
route_more routers node links done x y entry routes made =
    let (owned, is_resolved, made1) = first_gave (resolved (at table.Route (length done)) routers node (link_between links) x) _ y made in
    let (u, apart, made2) = first_gave (unless (list_any (is_for owned.router owned.route.prefix) done) (fault_at (at table.Route (length done)) rule.Prefix _)) _ y made1 in
    let same : owned ≡ y = cc in
    let new : list_any (is_for owned.router owned.route.prefix) done ≡ false = unless_gave _ _ u apart in
    let (prefixed, linked) = resolved_shows (at table.Route (length done)) routers node links x owned is_resolved in
    let valid : IsOwned links owned = record { prefix = subst IsPrefix (sym prefixed) entry; link = linked } in
    let absent : list_any (is_key owned.router owned.route.prefix) (map key_of done) ≡ false = any_of_map key_of (is_key owned.router owned.route.prefix) done ∙ new in
    let distinct : AreDistinct (map key_of done ++ (owned.router, owned.route.prefix) ∷ []) =
    distinct_push (map key_of done) (owned.router, owned.route.prefix) routes.apart (not_in (is_key owned.router owned.route.prefix) (owned.router, owned.route.prefix) (map key_of done) absent (is_key_itself owned.router owned.route.prefix)) in
    let all : AreRoutes links (done ++ owned ∷ []) = record {
      each = all_push (IsOwned links) done owned routes.each valid;
      apart = rw (map-append key_of done (owned ∷ [])) distinct;
    } in
    subst (λ z. AreRoutes links (done ++ z ∷ [])) same all

pub routes_keep : (routers : ℕ) (node : List ℕ → Option ℕ) (links : List LinkPlan) (entries : List RouteEntry) (routes : List OwnedRoute)
    → All IsRouteEntry entries → routes_of routers node (link_between links) entries ≡ Ok routes → AreRoutes links routes
unfolding routes_of
routes_keep routers node links entries routes known gave =
    in_turn_keeps_of IsRouteEntry (AreRoutes links) (route_step routers node (link_between links)) (route_more routers node links) [] entries routes known (record { each = All-nil (IsOwned links); apart = tt }) gave
