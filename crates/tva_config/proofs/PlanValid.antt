-- Plans that were made of valid entries, links and routes are valid.
use Rattle.tva_config.proofs.Common.{nat_tests, ◌≡◌, ◌<◌, ◌≤◌, ◌==◌, ℕ, ◌+◌, ◌^◌, ◌&&◌, ◌||◌, zero, suc, Bool, true, false, cond, List, [], ◌∷◌, map, filter, Option, Some, None, All, Contains, refl, ap, sym, ◌∙◌, subst, arith, cons_option, filter_map, list_any, and_parts, All-nil, Prefix, LinkLimits, LinkPlan, AreLinkLimits, AreDistinct, AreRising, IsPrefix, IsRouterPlan, IsHostPlan, RouterEntry, HostEntry, OwnedRoute, OwnedRestart, OwnedReroute, picked, tagged_to, incoming_of, limited_from, outgoing_of, Owned, router_plan, host_plan, is_for, if_owned, routes_at, if_restart, restarts_at, if_reroute, reroutes_at, is_restart_of, is_reroute_of, IsRouterEntry, IsHostEntry, IsLinkPlan, all_cons}
use Rattle.std.proofs.lemmas.Bool.{eqb-true}
use Rattle.tva_base.specs.declared.packet.Time.{Time}
use Rattle.tva_base.specs.declared.plan.Route.{Route}
use Rattle.tva_base.specs.Plan.{links_of}
use Rattle.tva_base.specs.Changes.{of_prefix}
use Rattle.tva_config.proofs.StepsChanges.{AreRestarts, IsMoved, AreReroutes}
use Rattle.tva_config.proofs.StepsRoutes.{contains_cons, IsOwned, key_of, AreRoutes}

-- a choice that keeps the number of what it takes
abbrev KeepsNumber : {B : Type 0} → (ℕ → LinkPlan → Option (ℕ × B)) → Type 0
KeepsNumber {B} choice = (k : ℕ) (l : LinkPlan) (p : ℕ × B) → choice k l ≡ Some p → p.0 ≡ k

later_at : {B : Type 0} (k x : ℕ) (o : Option (ℕ × B)) (rest : List (ℕ × B)) → ((p : ℕ × B) → o ≡ Some p → p.0 ≡ k) → (Contains (links_of rest) x → k + 1 ≤ x)
    → Contains (links_of (cons_option o rest)) x → k ≤ x
later_at k x None rest own later there = let far : k + 1 ≤ x = later there in omega arith
later_at k x (Some p) rest own later (zero, within, is) = let here : p.0 ≡ k = own p refl in omega arith
later_at k x (Some p) rest own later (suc j, within, is) = let far : k + 1 ≤ x = later (j, omega arith, is) in omega arith

later : {B : Type 0} (choice : ℕ → LinkPlan → Option (ℕ × B)) → KeepsNumber choice → (k x : ℕ) (links : List LinkPlan) → Contains (links_of (picked choice k links)) x → k ≤ x
later choice own k x [] (j, within, is) = absurd (omega arith)
later choice own k x (l ∷ ls) there = later_at k x (choice k l) (picked choice (k + 1) ls) (own k l) (later choice own (k + 1) x ls) there

distinct_at : {B : Type 0} (k : ℕ) (o : Option (ℕ × B)) (rest : List (ℕ × B)) → ((p : ℕ × B) → o ≡ Some p → p.0 ≡ k) → ((x : ℕ) → Contains (links_of rest) x → k + 1 ≤ x)
    → AreDistinct (links_of rest) → AreDistinct (links_of (cons_option o rest))
distinct_at k None rest own far more = more
distinct_at k (Some p) rest own far more = (λ there. let here : p.0 ≡ k = own p refl in let up : k + 1 ≤ p.0 = far p.0 there in omega arith, more)

-- numbers that are taken in order are distinct
picked_distinct : {B : Type 0} (choice : ℕ → LinkPlan → Option (ℕ × B)) → KeepsNumber choice → (k : ℕ) (links : List LinkPlan) → AreDistinct (links_of (picked choice k links))
picked_distinct choice own k [] = tt
picked_distinct choice own k (l ∷ ls) = distinct_at k (choice k l) (picked choice (k + 1) ls) (own k l) (λ x there. later choice own (k + 1) x ls there) (picked_distinct choice own (k + 1) ls)

tagged_at : (k : ℕ) (l : LinkPlan) (b : Bool) (p : ℕ × ℕ) → cond b (Some (k, l.tag)) None ≡ Some p → p.0 ≡ k
tagged_at k l b p is = grind (arith, nat_tests)

limited_at : (k : ℕ) (l : LinkPlan) (b : Bool) (p : ℕ × LinkLimits) → cond b (Some (k, l.limits)) None ≡ Some p → (k, l.limits) ≡ p
limited_at k l b p is = grind (arith, nat_tests)

incoming_distinct : (n : ℕ) (links : List LinkPlan) → AreDistinct (links_of (incoming_of n links))
unfolding incoming_of
incoming_distinct n links = picked_distinct (tagged_to n) (λ k l p is. tagged_at k l (l.to == n) p is) 0 links

outgoing_distinct : (n : ℕ) (links : List LinkPlan) → AreDistinct (links_of (outgoing_of n links))
unfolding outgoing_of
outgoing_distinct n links = picked_distinct (limited_from n) (λ k l p is. ap (λ q. q.0) (sym (limited_at k l (l.from == n) p is))) 0 links

limits_at : (n k : ℕ) (l : LinkPlan) (b : Bool) (rest : List (ℕ × LinkLimits)) → AreLinkLimits l.limits → All (λ o. AreLinkLimits o.1) rest → All (λ o. AreLinkLimits o.1) (cons_option (cond b (Some (k, l.limits)) None) rest)
limits_at n k l true rest here more = all_cons (λ (o : ℕ × LinkLimits). AreLinkLimits o.1) (k, l.limits) rest here more
limits_at n k l false rest here more = more

limits_from : (n count k : ℕ) (links : List LinkPlan) → All (IsLinkPlan count) links → All (λ o. AreLinkLimits o.1) (picked (limited_from n) k links)
limits_from n count k [] known = All-nil _
limits_from n count k (l ∷ ls) known =
    let first : IsLinkPlan count l = known 0 l (omega arith) in
    limits_at n k l (l.from == n) (picked (limited_from n) (k + 1) ls) first.limits (limits_from n count (k + 1) ls (λ j d within. known (suc j) d (omega arith)))

outgoing_limits : (n count : ℕ) (links : List LinkPlan) → All (IsLinkPlan count) links → All (λ o. AreLinkLimits o.1) (outgoing_of n links)
unfolding outgoing_of
outgoing_limits n count links known = limits_from n count 0 links known

tags_at : (k : ℕ) (l : LinkPlan) (b : Bool) (rest : List (ℕ × ℕ)) → l.tag < 2 ^ 16 → All (λ i. i.1 < 2 ^ 16) rest → All (λ i. i.1 < 2 ^ 16) (cons_option (cond b (Some (k, l.tag)) None) rest)
tags_at k l true rest here more = all_cons (λ (i : ℕ × ℕ). i.1 < 2 ^ 16) (k, l.tag) rest here more
tags_at k l false rest here more = more

tags_from : (n k : ℕ) (links : List LinkPlan) → All (λ l. l.tag < 2 ^ 16) links → All (λ i. i.1 < 2 ^ 16) (picked (tagged_to n) k links)
tags_from n k [] known = All-nil _
tags_from n k (l ∷ ls) known =
    tags_at k l (l.to == n) (picked (tagged_to n) (k + 1) ls) (known 0 l (omega arith)) (tags_from n (k + 1) ls (λ j d within. known (suc j) d (omega arith)))

incoming_tags : (n : ℕ) (links : List LinkPlan) → All (λ l. l.tag < 2 ^ 16) links → All (λ i. i.1 < 2 ^ 16) (incoming_of n links)
unfolding incoming_of
incoming_tags n links known = tags_from n 0 links known

owned_at : (P : Route → Type 0) (n : ℕ) (o : OwnedRoute) (b : Bool) (rest : List Route) → (b ≡ true → P o.route) → All P rest → All P (cons_option (cond b (Some o.route) None) rest)
owned_at P n o true rest here more = all_cons P o.route rest (here refl) more
owned_at P n o false rest here more = more

owned_all : (P : Route → Type 0) (Q : OwnedRoute → Type 0) (n : ℕ) → ((o : OwnedRoute) → o.router ≡ n → Q o → P o.route) → (routes : List OwnedRoute) → All Q routes → All P (filter_map (if_owned n) routes)
owned_all P Q n from [] known = All-nil P
owned_all P Q n from (o ∷ os) known =
    owned_at P n o (o.router == n) (filter_map (if_owned n) os) (λ same. from o (eqb-true o.router n same) (known 0 o (omega arith)))
    (owned_all P Q n from os (λ j d within. known (suc j) d (omega arith)))

routes_at_all : (P : Route → Type 0) (Q : OwnedRoute → Type 0) (n : ℕ) → ((o : OwnedRoute) → o.router ≡ n → Q o → P o.route) → (routes : List OwnedRoute) → All Q routes → All P (routes_at n routes)
unfolding routes_at
routes_at_all P Q n from routes known = owned_all P Q n from routes known

among_at : (n : ℕ) (o : OwnedRoute) (os : List OwnedRoute) (p : Prefix) (b : Bool) (rest : List Route) → (b ≡ true → o.router ≡ n)
    → (Contains (map (λ r. r.prefix) rest) p → Contains (map key_of os) (n, p))
    → Contains (map (λ r. r.prefix) (cons_option (cond b (Some o.route) None) rest)) p → Contains (map key_of (o ∷ os)) (n, p)
among_at n o os p true rest own more (zero, within, is) =
    let router_is : o.router ≡ n = own refl in
    let prefix_is : o.route.prefix ≡ p = is in
    (0, omega arith, rw (router_is, prefix_is) refl)
among_at n o os p true rest own more (suc j, within, is) = contains_cons (n, p) (key_of o) (map key_of os) (more (j, omega arith, is))
among_at n o os p false rest own more there = contains_cons (n, p) (key_of o) (map key_of os) (more there)

among : (n : ℕ) (routes : List OwnedRoute) (p : Prefix) → Contains (map (λ r. r.prefix) (filter_map (if_owned n) routes)) p → Contains (map key_of routes) (n, p)
among n [] p (j, within, is) = absurd (omega arith)
among n (o ∷ os) p there = among_at n o os p (o.router == n) (filter_map (if_owned n) os) (λ same. eqb-true o.router n same) (among n os p) there

apart_at : (n : ℕ) (o : OwnedRoute) (os : List OwnedRoute) (b : Bool) (rest : List Route) → (b ≡ true → o.router ≡ n)
    → (Contains (map (λ r. r.prefix) rest) o.route.prefix → Contains (map key_of os) (n, o.route.prefix))
    → (Contains (map key_of os) (key_of o) → ⊥) → AreDistinct (map (λ r. r.prefix) rest) → AreDistinct (map (λ r. r.prefix) (cons_option (cond b (Some o.route) None) rest))
apart_at n o os true rest own more new distinct = (
  λ there.
      let router_is : o.router ≡ n = own refl in
      new (subst (λ m. Contains (map key_of os) (m, o.route.prefix)) (sym router_is) (more there)),
  distinct,
)
apart_at n o os false rest own more new distinct = distinct

apart_from : (n : ℕ) (routes : List OwnedRoute) → AreDistinct (map key_of routes) → AreDistinct (map (λ r. r.prefix) (filter_map (if_owned n) routes))
apart_from n [] distinct = tt
apart_from n (o ∷ os) distinct =
    apart_at n o os (o.router == n) (filter_map (if_owned n) os) (λ same. eqb-true o.router n same) (among n os o.route.prefix) distinct.0 (apart_from n os distinct.1)

routes_apart : (n : ℕ) (routes : List OwnedRoute) → AreDistinct (map key_of routes) → AreDistinct (map (λ r. r.prefix) (routes_at n routes))
unfolding routes_at
routes_apart n routes distinct = apart_from n routes distinct

-- what holds of all that a choice may take, all that it takes have
chosen_at : {B : Type 0} (P : B → Type 0) (o : Option B) (rest : List B) → ((y : B) → o ≡ Some y → P y) → All P rest → All P (cons_option o rest)
chosen_at P None rest here more = more
chosen_at P (Some y) rest here more = all_cons P y rest (here y refl) more

chosen_all : {A B : Type 0} (P : B → Type 0) (Q : A → Type 0) (f : A → Option B) → ((x : A) (y : B) → Q x → f x ≡ Some y → P y) → (xs : List A) → All Q xs → All P (filter_map f xs)
chosen_all P Q f from [] known = All-nil P
chosen_all P Q f from (x ∷ xs) known =
    chosen_at P (f x) (filter_map f xs) (λ y is. from x y (known 0 x (omega arith)) is) (chosen_all P Q f from xs (λ j d within. known (suc j) d (omega arith)))

-- the times of what a choice takes, which are those of what passes a test
boots_at : (r : OwnedRestart) (b : Bool) (rest : List OwnedRestart) (more : List (Time × List ℕ)) → map (λ c. c.0.0) more ≡ map (λ x. x.time.0) rest
    → map (λ c. c.0.0) (cons_option (cond b (Some (r.time, r.master)) None) more) ≡ map (λ x. x.time.0) (cond b (r ∷ rest) rest)
boots_at r true rest more same = ap (λ l. r.time.0 ∷ l) same
boots_at r false rest more same = same

boots_from : (n : ℕ) (rs : List OwnedRestart) → map (λ c. c.0.0) (filter_map (if_restart n) rs) ≡ map (λ x. x.time.0) (filter (is_restart_of n) rs)
boots_from n [] = refl
boots_from n (r ∷ rs) = boots_at r (r.router == n) (filter (is_restart_of n) rs) (filter_map (if_restart n) rs) (boots_from n rs)

restarts_rise : (n : ℕ) (rs : List OwnedRestart) → AreRestarts rs → AreRising (map (λ c. c.0.0) (restarts_at n rs))
unfolding restarts_at
restarts_rise n rs rising = subst AreRising (sym (boots_from n rs)) (rising n)

turns_at : (r : OwnedReroute) (p : Prefix) (own address bits : Bool) (rest : List OwnedReroute) (more : List (Time × Prefix × ℕ))
    → (r.owned.route.prefix.address.0 == p.address.0) ≡ address → (r.owned.route.prefix.bits == p.bits) ≡ bits
    → map (λ c. c.0.0) (of_prefix p more) ≡ map (λ x. x.time.0) rest
    → map (λ c. c.0.0) (of_prefix p (cons_option (cond own (Some (r.time, r.owned.route.prefix, r.owned.route.link)) None) more))
    ≡ map (λ x. x.time.0) (cond (own && address && bits) (r ∷ rest) rest)
turns_at r p own address bits rest more a b same = grind (arith, nat_tests)

turns_from : (n : ℕ) (p : Prefix) (rs : List OwnedReroute) → map (λ c. c.0.0) (of_prefix p (filter_map (if_reroute n) rs)) ≡ map (λ x. x.time.0) (filter (is_reroute_of n p) rs)
turns_from n p [] = refl
turns_from n p (r ∷ rs) =
    turns_at r p (r.owned.router == n) (r.owned.route.prefix.address.0 == p.address.0) (r.owned.route.prefix.bits == p.bits)
    (filter (is_reroute_of n p) rs) (filter_map (if_reroute n) rs) refl refl (turns_from n p rs)

reroutes_rise : (links : List LinkPlan) (routes : List OwnedRoute) (n : ℕ) (p : Prefix) (rs : List OwnedReroute) → AreReroutes links routes rs
    → AreRising (map (λ c. c.0.0) (of_prefix p (reroutes_at n rs)))
unfolding reroutes_at
reroutes_rise links routes n p rs known = subst AreRising (sym (turns_from n p rs)) (known.rising n p)

-- a route that is there has its prefix among those of its router
same_fields : (a b : Prefix) → a.address.0 ≡ b.address.0 → a.bits ≡ b.bits → a ≡ b
same_fields a b address bits = ap (λ (n : ℕ). record { address = record { 0 = n }; bits = a.bits }) address ∙ ap (λ (n : ℕ). record { address = b.address; bits = n }) bits

routed_first : (n : ℕ) (p : Prefix) (o : OwnedRoute) (rest : List Route) (b : Bool) → b ≡ true → o.route.prefix ≡ p
    → Contains (map (λ r. r.prefix) (cons_option (cond b (Some o.route) None) rest)) p
routed_first n p o rest false is same = absurd (cc)
routed_first n p o rest true is same = (0, omega arith, same)

routed_later : (p : Prefix) (o : OwnedRoute) (rest : List Route) (b : Bool) → Contains (map (λ r. r.prefix) rest) p
    → Contains (map (λ r. r.prefix) (cons_option (cond b (Some o.route) None) rest)) p
routed_later p o rest false there = there
routed_later p o rest true there = contains_cons p o.route.prefix (map (λ r. r.prefix) rest) there

routed_at : (n : ℕ) (p : Prefix) (o : OwnedRoute) (rest : List Route) (b more : Bool) → is_for n p o ≡ b → (b || more) ≡ true
    → (more ≡ true → Contains (map (λ r. r.prefix) rest) p) → Contains (map (λ r. r.prefix) (cons_option (if_owned n o) rest)) p
routed_at n p o rest true more is any from =
    let (two, right) = and_parts ((o.router == n) && (o.route.prefix.address.0 == p.address.0)) (o.route.prefix.bits == p.bits) is in
    let (one, left) = and_parts (o.router == n) (o.route.prefix.address.0 == p.address.0) two in
    routed_first n p o rest (o.router == n) one (same_fields o.route.prefix p (eqb-true o.route.prefix.address.0 p.address.0 left) (eqb-true o.route.prefix.bits p.bits right))
routed_at n p o rest false more is any from = routed_later p o rest (o.router == n) (from any)

routed_from : (n : ℕ) (p : Prefix) (os : List OwnedRoute) → list_any (is_for n p) os ≡ true → Contains (map (λ r. r.prefix) (filter_map (if_owned n) os)) p
routed_from n p [] any = absurd (cc)
routed_from n p (o ∷ os) any = routed_at n p o (filter_map (if_owned n) os) (is_for n p o) (list_any (is_for n p) os) refl any (routed_from n p os)

prefix_is_there : (n : ℕ) (p : Prefix) (os : List OwnedRoute) → list_any (is_for n p) os ≡ true → Contains (map (λ r. r.prefix) (routes_at n os)) p
unfolding routes_at
prefix_is_there n p os any = routed_from n p os any

moved_at : (links : List LinkPlan) (routes : List OwnedRoute) (n : ℕ) (r : OwnedReroute) (y : Time × Prefix × ℕ) (b : Bool) → (r.owned.router == n) ≡ b → IsMoved links routes r
    → cond b (Some (r.time, r.owned.route.prefix, r.owned.route.link)) None ≡ Some y
    → Contains (map (λ x. x.prefix) (routes_at n routes)) y.1 × Contains (links_of (outgoing_of n links)) y.2
moved_at links routes n r y false is known gave = absurd (cc)
moved_at links routes n r y true is known gave =
    let same : (r.time, r.owned.route.prefix, r.owned.route.link) ≡ y = cc in
    let own : r.owned.router ≡ n = eqb-true r.owned.router n is in
    subst (λ (z : Time × Prefix × ℕ). Contains (map (λ x. x.prefix) (routes_at n routes)) z.1 × Contains (links_of (outgoing_of n links)) z.2) same (
      prefix_is_there n r.owned.route.prefix routes (subst (λ m. list_any (is_for m r.owned.route.prefix) routes ≡ true) own known.routed),
      subst (λ m. Contains (links_of (outgoing_of m links)) r.owned.route.link) own known.link,
    )

moved_all : (links : List LinkPlan) (routes : List OwnedRoute) (n : ℕ) (rs : List OwnedReroute) → AreReroutes links routes rs
    → All (λ c. Contains (map (λ x. x.prefix) (routes_at n routes)) c.1 × Contains (links_of (outgoing_of n links)) c.2) (reroutes_at n rs)
unfolding reroutes_at
moved_all links routes n rs known =
    chosen_all (λ c. Contains (map (λ x. x.prefix) (routes_at n routes)) c.1 × Contains (links_of (outgoing_of n links)) c.2) (IsMoved links routes) (if_reroute n)
    (λ r y here gave. moved_at links routes n r y (r.owned.router == n) refl here gave) rs known.each

-- what routers own, by what each of its lists keeps
pub record AreOwned (links : List LinkPlan) (owned : Owned) : Type 0 where
  pub routes : AreRoutes links owned.routes
  pub restarts : AreRestarts owned.restarts
  pub reroutes : AreReroutes links owned.routes owned.reroutes

-- the plan of a router is valid
pub router_valid : (count : ℕ) (links : List LinkPlan) (all : Owned) (n : ℕ) (r : RouterEntry)
    → IsRouterEntry r → All (IsLinkPlan count) links → All (λ l. l.tag < 2 ^ 16) links → AreOwned links all → IsRouterPlan (router_plan links all n r)
unfolding router_plan routes_at restarts_at reroutes_at
router_valid count links all n r entry known tags owned =
    let moved = moved_all links all.routes n all.reroutes owned.reroutes in
    record {
      clock_offset = entry.clock_offset;
      slots = entry.slots;
      edge_tag = entry.edge_tag;
      tags = incoming_tags n links tags;
      incoming = incoming_distinct n links;
      outgoing = outgoing_distinct n links;
      limits = outgoing_limits n count links known;
      links = routes_at_all (λ x. Contains (links_of (outgoing_of n links)) x.link) (IsOwned links) n
          (λ o same is. subst (λ m. Contains (links_of (outgoing_of m links)) o.route.link) same is.link) all.routes owned.routes.each;
      prefixes = routes_at_all (λ x. IsPrefix x.prefix) (IsOwned links) n (λ o same is. is.prefix) all.routes owned.routes.each;
      apart = routes_apart n all.routes owned.routes.apart;
      boots = restarts_rise n all.restarts owned.restarts;
      moved = λ k d within. (moved k d within).0;
      ways = λ k d within. (moved k d within).1;
      turns = λ p. reroutes_rise links all.routes n p all.reroutes owned.reroutes;
    }

-- the plan of a host is valid
pub host_valid : (h : HostEntry) (uplink : ℕ) → IsHostEntry h → 1000000000 + h.margin ≤ h.retry → IsHostPlan (host_plan h uplink)
unfolding host_plan
host_valid h uplink entry late = record { nonce = entry.nonce; margin = entry.margin; retry = (late, entry.retry); version = entry.version; rights = entry.rights }
