-- What is in force at a router that makes its changes in their turn.
use Rattle.tva_node.proofs.Common.{◌≡◌, ℕ, zero, suc, ◌+◌, ◌≤◌, ◌<◌, Bool, true, false, cond, List, [], ◌∷◌, ◌++◌, filter, map, take, drop, length, get_or, Option, Some, None, All, refl, sym, subst, ap, ap₂, ◌∙◌, arith, append-nil, ◌==◌, nat_le, Contains, AllByRecursion, IsNonDecreasingBy, IsPermutation, IsStableByKey, nat_cmp, le-leb, nat_tests, map_push, take-append-drop, take_more, length-take-le, filter-append, All-get_or, Contains-get_or, All-permutation, length-filter, Prefix, Time, RouterPlan, IsRouterPlan, links_of, boot_at, changed_plan, has_come, in_force, last_of, master_at, of_prefix, route_at, same_prefix, Charge, charges_of_boot, PortLogs, outgoing_link, rerouted, RouterData, NeverFalls, each-append, each-weaker, filter-all, filter-none, filter-true, filter-false, filter_swap, in_order-filter, join_unique, charges, port_logs, charges_none, Changes, Routed, AreByTime, AreMade, move_time, plan_after, restart_time, route_after, IsRoutedBy, IsNextLater, IsRestarted, IsUpTo, StandsOn}
use Rattle.tva_base.specs.declared.plan.Route.{Route}
use Rattle.tva_base.specs.Plan.{AreRising}
use Rattle.tva_router.specs.Stands as router
use Rattle.tva_node.proofs.Sorting.{falls_from, order_of, rising_falls, ties_from}

-- ## changes of routes by time

-- some change at a time
abbrev pub some_move : ℕ → Time × Prefix × ℕ
some_move t = (record { 0 = t }, record { address = record { 0 = 0 }; bits = 0 }, 0)

pub by_time : (file moves : List (Time × Prefix × ℕ)) → ((prefix : Prefix) → AreRising (map move_time (of_prefix prefix file)))
    → IsPermutation file moves → IsNonDecreasingBy move_time moves → IsStableByKey move_time nat_cmp file moves → AreByTime file moves
by_time file moves rise permuted sorted stable =
    let falls = falls_from move_time moves sorted in
    record {
      times = falls;
      same = λ prefix.
          let own : Time × Prefix × ℕ → Bool = λ c. same_prefix c.1 prefix in
          join_unique move_time move_time (of_prefix prefix moves) (of_prefix prefix file)
          (in_order-filter move_time move_time own moves (order_of move_time moves falls))
          (order_of move_time (of_prefix prefix file) (rising_falls move_time (of_prefix prefix file) (rise prefix)))
          (λ t.
          filter_swap (λ c. move_time c == t) own moves
          ∙ (ap (filter own) (ties_from move_time some_move (λ k. refl) file moves stable t)
          ∙ sym (filter_swap (λ c. move_time c == t) own file)));
      there = All-permutation (Contains file) file moves permuted (λ k d l. Contains-get_or file k d l);
    }

-- what holds of all changes of a plan holds of them by time
each_there : (P : Time × Prefix × ℕ → Type 0) (file : List (Time × Prefix × ℕ)) (x : Time × Prefix × ℕ) → All P file → Contains file x → P x
each_there P file x a (k, l, e) = subst P e (All-get_or P file k x l a)

-- ## what has come

-- where the next one is later, so are all behind it
later_from : {X : Type 0} (time : X → ℕ) (now count : ℕ) (xs : List X) → NeverFalls time xs → IsNextLater time xs count now → AllByRecursion (λ x. now < time x) (drop count xs)
later_from time now zero [] f n = tt
later_from time now zero (x ∷ xs) f n =
    let k : now < time x = n x (omega arith) in
    (k, each-weaker (λ y. time x ≤ time y) (λ y. now < time y) (λ y l. omega arith) xs f.0)
later_from time now (suc c) [] f n = tt
later_from time now (suc c) (x ∷ xs) f n = later_from time now c xs f.1 (λ d l. n d (omega arith))

-- the first so many have come, and no other
come_are : {X : Type 0} (time : X → ℕ) (now count : ℕ) (xs : List X) → NeverFalls time xs → AreMade time xs count now → IsNextLater time xs count now → filter (λ x. nat_le (time x) now) xs ≡ take count xs
come_are {X = X} time now count xs f m n =
    let come : X → Bool = λ x. nat_le (time x) now in
    let early : AllByRecursion (λ x. come x ≡ true) (take count xs) = each-weaker (λ x. time x ≤ now) (λ x. come x ≡ true) (λ x l. le-leb (time x) now l) (take count xs) m.come in
    let late : AllByRecursion (λ x. come x ≡ false) (drop count xs) = each-weaker (λ x. now < time x) (λ x. come x ≡ false) (λ x l. not_come (time x) l) (drop count xs) (later_from time now count xs f n) in
    ap (filter come) (sym (take-append-drop count xs))
    ∙ (filter-append come (take count xs) (drop count xs)
    ∙ (ap₂ (λ (a b : List X). a ++ b) (filter-all come (take count xs) early) (filter-none come (drop count xs) late)
    ∙ append-nil (take count xs)))
  where
    not_come : (t : ℕ) → now < t → nat_le t now ≡ false
    not_come t l = grind (arith, nat_tests)

same_routes : (f g : Route → Route) → ((r : Route) → f r ≡ g r) → (routes : List Route) → map f routes ≡ map g routes
same_routes f g e [] = refl
same_routes f g e (r ∷ rs) = ap₂ ◌∷◌ (e r) (same_routes f g e rs)

-- where all that have come are made, they are in force
pub up_to : (now : ℕ) (r : Routed) → IsRoutedBy now r → IsNextLater restart_time r.router.built.restarts r.changes.boot now → IsNextLater move_time r.changes.moves.items r.changes.moved now → IsUpTo now r
unfolding in_force
up_to now r b next_boot next_move =
    let plan = r.router.built in
    let boot = r.changes.boot in
    let moves = r.changes.moves.items in
    let made = take r.changes.moved moves in
    let restarts : filter (λ c. has_come now c.0) plan.restarts ≡ take boot plan.restarts = come_are restart_time now boot plan.restarts (rising_falls restart_time plan.restarts b.valid.boots) b.restarted next_boot in
    let moved : filter (λ c. has_come now c.0) moves ≡ made = come_are move_time now r.changes.moved moves b.moves.times b.moved next_move in
    let of_route : (p : Prefix) → of_prefix p made ≡ filter (λ c. has_come now c.0) (of_prefix p plan.reroutes) =
    (λ p. ap (of_prefix p) (sym moved) ∙ (filter_swap (λ c. same_prefix c.1 p) (λ c. has_come now c.0) moves ∙ ap (filter (λ c. has_come now c.0)) (b.moves.same p))) in
    let each : (route : Route) → route_after made route ≡ route_at plan now route =
    (λ route. ap (λ (cs : List (Time × Prefix × ℕ)). let k : Route = record route { link = last_of route.link (map (λ c. c.2) cs) } in k) (of_route route.prefix)) in
    let master : last_of plan.master (map (λ c. c.1) (take boot plan.restarts)) ≡ master_at plan now = ap (λ (cs : List (Time × List ℕ)). last_of plan.master (map (λ c. c.1) cs)) (sym restarts) in
    record {
      boot = sym (sym (length-filter (λ (c : Time × List ℕ). has_come now c.0) plan.restarts) ∙ (ap length restarts ∙ length-take-le boot plan.restarts b.restarted.few));
      plan = b.plan ∙ ap₂ (λ (m : List ℕ) (rs : List Route). changed_plan m rs plan) master (same_routes (route_after made) (route_at plan now) each plan.routes);
    }

-- ## one step

last_push : {X : Type 0} (d : X) (xs : List X) (x : X) → last_of d (xs ++ x ∷ []) ≡ x
last_push d [] x = refl
last_push d (y ∷ ys) x = last_push y ys x

-- one more restart has come
pub restart_more : (restarts : List (Time × List ℕ)) (now from at : ℕ) (m : Option (List ℕ)) (d : Time × List ℕ) → IsRestarted restarts now from at m → at < length restarts → (get_or restarts at d).0.0 ≤ now
    → IsRestarted restarts now from (at + 1) (Some (get_or restarts at d).1)
restart_more restarts now from at m d is within come =
    let more : take (at + 1) restarts ≡ take at restarts ++ get_or restarts at d ∷ [] = take_more restarts at d within in
    let on = is.on.0 in
    record {
      on = (omega (arith, on), omega (arith, within));
      come = λ h. subst (AllByRecursion (λ c. restart_time c ≤ now)) (sym more) (each-append (λ c. restart_time c ≤ now) (take at restarts) (get_or restarts at d ∷ []) (is.come h) (come, tt));
      last = (
        omega (arith, on),
        λ e.
            ap (λ (cs : List (Time × List ℕ)). last_of e (map (λ c. c.1) cs)) more
            ∙ (ap (last_of e) (map_push (λ (c : Time × List ℕ). c.1) (take at restarts) (get_or restarts at d))
            ∙ last_push e (map (λ c. c.1) (take at restarts)) (get_or restarts at d).1),
      );
    }

pub restarts_none : (restarts : List (Time × List ℕ)) (now boot : ℕ) → boot ≤ length restarts → IsRestarted restarts now boot boot None
restarts_none restarts now boot l = record { on = (omega arith, l); come = λ h. h; last = refl }

-- a router with the same links out
pub same_links : (now : ℕ) (r : Routed) → IsRoutedBy now r → (link : ℕ) → outgoing_link r.router.plan link ≡ outgoing_link r.router.built link
same_links now r b link = ap (λ (p : RouterPlan). outgoing_link p link) b.plan

-- the next change of a route is one of a prefix with a route, to a link out
module _ (now : ℕ) (r : Routed) (b : IsRoutedBy now r) (d : Time × Prefix × ℕ) (within : r.changes.moved < length r.changes.moves.items) where
  abbrev next : Time × Prefix × ℕ
  next = get_or r.changes.moves.items r.changes.moved d

  prefixes_after : (moves : List (Time × Prefix × ℕ)) (routes : List Route) → map (λ (x : Route). x.prefix) (map (route_after moves) routes) ≡ map (λ (x : Route). x.prefix) routes
  prefixes_after moves [] = refl
  prefixes_after moves (x ∷ xs) = ap (λ (ps : List Prefix). x.prefix ∷ ps) (prefixes_after moves xs)

  pub has_prefix : Contains (map (λ (x : Route). x.prefix) r.router.plan.routes) next.1
  has_prefix =
      let plan = r.router.built in
      let P : Time × Prefix × ℕ → Type 0 = λ c. Contains (map (λ (x : Route). x.prefix) plan.routes) c.1 in
      let there : P next = each_there P plan.reroutes next b.valid.moved (All-get_or (Contains plan.reroutes) r.changes.moves.items r.changes.moved d within b.moves.there) in
      let same : map (λ (x : Route). x.prefix) plan.routes ≡ map (λ (x : Route). x.prefix) r.router.plan.routes =
      sym (ap (λ (p : RouterPlan). map (λ (x : Route). x.prefix) p.routes) b.plan ∙ prefixes_after (take r.changes.moved r.changes.moves.items) plan.routes) in
      subst (λ (ps : List Prefix). Contains ps next.1) same there

  pub has_way : Contains (links_of r.router.plan.outgoing) next.2
  has_way =
      let plan = r.router.built in
      let P : Time × Prefix × ℕ → Type 0 = λ c. Contains (links_of plan.outgoing) c.2 in
      let there : P next = each_there P plan.reroutes next b.valid.ways (All-get_or (Contains plan.reroutes) r.changes.moves.items r.changes.moved d within b.moves.there) in
      subst (λ (p : RouterPlan). Contains (links_of p.outgoing) next.2) (sym b.plan) there

-- nothing has come
pub stays : (now : ℕ) (r : Routed) → IsRoutedBy now r → StandsOn now r r
stays now r b = record { by = b; stands = λ log h. h; same = (refl, refl, refl) }

pub goes_on : (now : ℕ) (r s t : Routed) → StandsOn now r s → StandsOn now s t → StandsOn now r t
goes_on now r s t a b = grind (arith, nat_tests)

abbrev with_boot : Routed → RouterData → ℕ → Routed
with_boot r v boot = record { router = v; next = r.next; changes = record { boot = boot; moves = r.changes.moves; moved = r.changes.moved } }

-- restarts have come
pub restarts_on : (now : ℕ) (r : Routed) (v : RouterData) (boot : ℕ) (master : List ℕ) → IsRoutedBy now r
    → IsRestarted r.router.built.restarts now r.changes.boot boot (Some master) → v.last ≡ now → v.built ≡ r.router.built
    → v.plan ≡ changed_plan master r.router.plan.routes r.router.plan
    → ((h : List Charge) (logs : PortLogs) → router.StandsFor r.router h logs → router.StandsFor v [] logs)
    → StandsOn now r (with_boot r v boot)
restarts_on now r v boot master b is last built plan stands =
    let file = r.router.built in
    let moves = r.changes.moves.items in
    let made = take r.changes.moved moves in
    let later = is.last.0 in
    let plan' : v.plan ≡ plan_after file boot made =
    plan ∙ (ap (λ (p : RouterPlan). changed_plan master p.routes p) b.plan
    ∙ ap (λ (m : List ℕ). changed_plan m (map (route_after made) file.routes) file) (sym (is.last.1 file.master))) in
    record {
      by = record {
        last = omega (arith, last);
        valid = subst IsRouterPlan (sym built) b.valid;
        moves = subst (λ (p : RouterPlan). AreByTime p.reroutes moves) (sym built) b.moves;
        restarted = subst (λ (p : RouterPlan). AreMade restart_time p.restarts boot now) (sym built) (record { few = is.on.1; come = is.come b.restarted.come });
        moved = b.moved;
        plan = subst (λ (p : RouterPlan). v.plan ≡ plan_after p boot made) (sym built) plan';
      };
      stands = λ log h.
          let none : charges_of_boot v.built boot (charges log) ≡ [] =
          ap (λ (p : RouterPlan). charges_of_boot p boot (charges log)) built
          ∙ charges_none file boot (charges log) (each-weaker (λ (c : Charge). boot_at file c.time ≤ r.changes.boot) (λ (c : Charge). boot_at file c.time < boot) (λ c l. omega (arith, l, later)) (charges log) h.boots) in
          record {
            router = subst (λ (cs : List Charge). router.StandsFor v cs (port_logs log)) (sym none) (stands (charges_of_boot file r.changes.boot (charges log)) (port_logs log) h.router);
            boots = subst (λ (p : RouterPlan). AllByRecursion (λ (c : Charge). boot_at p c.time ≤ boot) (charges log)) (sym built)
                (each-weaker (λ (c : Charge). boot_at file c.time ≤ r.changes.boot) (λ (c : Charge). boot_at file c.time ≤ boot) (λ c l. omega (arith, l, later)) (charges log) h.boots);
            next = h.next;
          };
      same = (built, refl, refl);
    }

one_more : (moves : List (Time × Prefix × ℕ)) (x : Time × Prefix × ℕ) (route : Route)
    → cond (same_prefix route.prefix x.1) (record route { link = x.2 }) (route_after moves route) ≡ route_after (moves ++ x ∷ []) route
one_more moves x route = grind (arith, nat_tests, filter-append, filter-true, map_push, last_of, last_push, filter-false, append-nil)

routes_more : (moves : List (Time × Prefix × ℕ)) (x : Time × Prefix × ℕ) (routes : List Route) → rerouted x.1 x.2 (map (route_after moves) routes) ≡ map (route_after (moves ++ x ∷ [])) routes
routes_more moves x [] = refl
routes_more moves x (r ∷ rs) = ap₂ ◌∷◌ (one_more moves x r) (routes_more moves x rs)

abbrev with_move : Routed → RouterData → Routed
with_move r v = record { router = v; next = r.next; changes = record { boot = r.changes.boot; moves = r.changes.moves; moved = r.changes.moved + 1 } }

-- the next change of a route has come
pub moves_on : (now : ℕ) (r : Routed) (v : RouterData) (d : Time × Prefix × ℕ) → IsRoutedBy now r → r.changes.moved < length r.changes.moves.items
    → (get_or r.changes.moves.items r.changes.moved d).0.0 ≤ now → v.last ≡ now → v.built ≡ r.router.built
    → v.plan ≡ changed_plan r.router.plan.master (rerouted (get_or r.changes.moves.items r.changes.moved d).1 (get_or r.changes.moves.items r.changes.moved d).2 r.router.plan.routes) r.router.plan
    → ((h : List Charge) (logs : PortLogs) → router.StandsFor r.router h logs → router.StandsFor v h logs)
    → StandsOn now r (with_move r v)
moves_on now r v d b within come last built plan stands =
    let file = r.router.built in
    let moves = r.changes.moves.items in
    let moved = r.changes.moved in
    let boot = r.changes.boot in
    let x = get_or moves moved d in
    let more : take (moved + 1) moves ≡ take moved moves ++ x ∷ [] = take_more moves moved d within in
    let plan' : v.plan ≡ plan_after file boot (take (moved + 1) moves) =
    plan ∙ (ap (λ (p : RouterPlan). changed_plan p.master (rerouted x.1 x.2 p.routes) p) b.plan
    ∙ ap (λ (rs : List Route). changed_plan (last_of file.master (map (λ c. c.1) (take boot file.restarts))) rs file)
    (routes_more (take moved moves) x file.routes ∙ ap (λ (cs : List (Time × Prefix × ℕ)). map (route_after cs) file.routes) (sym more))) in
    record {
      by = record {
        last = omega (arith, last);
        valid = subst IsRouterPlan (sym built) b.valid;
        moves = subst (λ (p : RouterPlan). AreByTime p.reroutes moves) (sym built) b.moves;
        restarted = subst (λ (p : RouterPlan). AreMade restart_time p.restarts boot now) (sym built) b.restarted;
        moved = record {
          few = omega (arith, within);
          come = subst (AllByRecursion (λ c. move_time c ≤ now)) (sym more) (each-append (λ c. move_time c ≤ now) (take moved moves) (x ∷ []) b.moved.come (come, tt));
        };
        plan = subst (λ (p : RouterPlan). v.plan ≡ plan_after p boot (take (moved + 1) moves)) (sym built) plan';
      };
      stands = λ log h. record {
        router = subst (λ (p : RouterPlan). router.StandsFor v (charges_of_boot p boot (charges log)) (port_logs log)) (sym built) (stands (charges_of_boot file boot (charges log)) (port_logs log) h.router);
        boots = subst (λ (p : RouterPlan). AllByRecursion (λ (c : Charge). boot_at p c.time ≤ boot) (charges log)) (sym built) h.boots;
        next = h.next;
      };
      same = (built, refl, refl);
    }

-- ## what a router stays

-- it was called at a later time, and changed nothing
pub made_later : {X : Type 0} (time : X → ℕ) (xs : List X) (count now later : ℕ) → now ≤ later → AreMade time xs count now → AreMade time xs count later
made_later time xs count now later l m = record { few = m.few; come = each-weaker (λ x. time x ≤ now) (λ x. time x ≤ later) (λ x k. omega (arith, l, k)) (take count xs) m.come }

pub routed_later : (now later : ℕ) (r : Routed) → now ≤ later → IsRoutedBy now r → IsRoutedBy later r
routed_later now later r l b = record {
  last = (let k = b.last in omega (arith, l, k));
  valid = b.valid;
  moves = b.moves;
  restarted = made_later restart_time r.router.built.restarts r.changes.boot now later l b.restarted;
  moved = made_later move_time r.changes.moves.items r.changes.moved now later l b.moved;
  plan = b.plan;
}

pub routed_same : (now : ℕ) (r : Routed) (v : RouterData) (next : ℕ) → IsRoutedBy now r → v.last ≤ now → v.built ≡ r.router.built → v.plan ≡ r.router.plan → IsRoutedBy now (record { router = v; next = next; changes = r.changes })
routed_same now r v next b last built plan = grind (arith, nat_tests)

-- a router to which nothing happened, and none of whose changes is made
none_after : (routes : List Route) → map (route_after []) routes ≡ routes
none_after [] = refl
none_after (r ∷ rs) = ap (λ (xs : List Route). r ∷ xs) (none_after rs)

pub routed_first : (v : RouterData) (plan : RouterPlan) (moves : Changes) → IsRouterPlan plan → v.built ≡ plan → v.plan ≡ plan → v.last ≡ 0 → moves.boot ≡ 0 → moves.moved ≡ 0 → AreByTime plan.reroutes moves.moves.items
    → IsRoutedBy 0 (record { router = v; next = 1; changes = moves })
routed_first v plan moves valid built same last boot moved by = grind (arith, nat_tests, none_after)
