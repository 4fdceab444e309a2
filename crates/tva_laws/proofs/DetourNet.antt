-- The network of the walk by a changed route is valid, and so are its rows.
use Rattle.tva_laws.proofs.Common.{◌≡◌, ◌<◌, ◌≤◌, ◌+◌, ◌*◌, ◌^◌, ℕ, Bool, true, not, ◌&&◌, cond, eqb, List, [], ◌∷◌, map, Contains, refl, ap, arith, AllByRecursion, eq-eqb, All-from_recursion, Address, Prefix, LinkLimits, Time, DenyAll, Server, Route, same_prefix, AreDistinct, AreLinkLimits, IsRouterPlan, links_of, and_true, NodePlan, Host, is_host_plan, links_from, incoming_of, outgoing_of, IsNodePlan, IsLinkPlan, IsConfig, IsRow, AreTraceRows, walk_a, walk_b, walk_route, walk_host_b, walk_link, first_router, second_router, detour_config, detour_row, detour_rows, nat_tests}
use Rattle.tva_base.specs.Plan.{AreRising}
use Rattle.tva_laws.proofs.Walkable.{absent, limits_fine, host_fine, policy_fine, none_begins}
use Rattle.tva_laws.proofs.WorkedRuns.{pair}

-- ## lists without doubles, by a number of each

module _ {X : Type 0} (number : X → ℕ) where
  abbrev none_is : X → List X → Bool
  none_is x [] = true
  none_is x (y ∷ ys) = not (eqb (number y) (number x)) && none_is x ys

  abbrev differ : List X → Bool
  differ [] = true
  differ (x ∷ xs) = none_is x xs && differ xs

  never : (b : Bool) → not b ≡ true → b ≡ true → ⊥
  never b e k = grind (arith, nat_tests)

  each_other : (x : X) (ys : List X) → none_is x ys ≡ true → AllByRecursion (λ (y : X). y ≡ x → ⊥) ys
  each_other x [] e = tt
  each_other x (y ∷ ys) e =
      let k = and_true (not (eqb (number y) (number x))) (none_is x ys) e in
      (λ same. never (eqb (number y) (number x)) k.0 (eq-eqb (number y) (number x) (ap number same)), each_other x ys k.1)

  distinct : (xs : List X) → differ xs ≡ true → AreDistinct xs
  distinct [] e = tt
  distinct (x ∷ xs) e =
      let k = and_true (none_is x xs) (differ xs) e in (absent xs x (each_other x xs k.0), distinct xs k.1)

abbrev same : ℕ → ℕ
same n = n

abbrev total : List ℕ → ℕ
total [] = 0
total (n ∷ ns) = n + total ns

abbrev code : ℕ × ℕ → ℕ
code p = p.0 * 8 + p.1

abbrev of_address : Address → ℕ
of_address a = a.0

abbrev of_prefix_address : Prefix → ℕ
of_prefix_address p = p.address.0

-- ## the nodes

-- the one change of a route rises by itself
one_rises : (c : Time × Prefix × ℕ) (b : Bool) → AreRising (map (λ (c : Time × Prefix × ℕ). c.0.0) (cond b (c ∷ []) []))
one_rises c b = grind (arith, nat_tests)

first_fine : IsRouterPlan first_router
first_fine = record {
  clock_offset = omega arith;
  slots = omega arith;
  edge_tag = omega arith;
  tags = All-from_recursion (λ (i : ℕ × ℕ). i.1 < 2 ^ 16) first_router.incoming (omega arith, (omega arith, tt));
  incoming = distinct same (0 ∷ 3 ∷ []) refl;
  outgoing = distinct same (1 ∷ 2 ∷ 4 ∷ []) refl;
  limits = All-from_recursion (λ (o : ℕ × LinkLimits). AreLinkLimits o.1) first_router.outgoing (limits_fine, (limits_fine, (limits_fine, tt)));
  links = All-from_recursion (λ (r : Route). Contains (links_of first_router.outgoing) r.link) first_router.routes
      ((0, omega arith, refl), ((1, omega arith, refl), tt));
  prefixes = grind (arith, nat_tests);
  apart = distinct of_prefix_address ((walk_route 167772160 1).prefix ∷ (walk_route 167772416 2).prefix ∷ []) refl;
  boots = tt;
  moved = grind (arith, nat_tests);
  ways = grind (arith, nat_tests);
  turns = λ prefix. one_rises (record { 0 = 8000000 }, (walk_route 167772416 2).prefix, 4) (same_prefix (walk_route 167772416 2).prefix prefix);
}

second_fine : IsRouterPlan second_router
second_fine = grind (arith, nat_tests, distinct, limits_fine)

link_fine : (from to tag : ℕ) → from < 4 → to < 4 → (from ≡ to → ⊥) → IsLinkPlan 4 (walk_link from to tag)
link_fine from to tag f t a = record { from = f; to = t; apart = a; delay = (omega arith, omega arith); limits = limits_fine }

pub valid : IsConfig detour_config
unfolding links_from incoming_of outgoing_of
valid = record {
  horizon = omega arith;
  max_events = (omega arith, omega arith);
  few_nodes = omega arith;
  few_links = omega arith;
  few_routes = omega arith;
  few_restarts = omega arith;
  few_reroutes = omega arith;
  few_slots = omega arith;
  few_places = omega arith;
  nodes = All-from_recursion IsNodePlan detour_config.nodes
      (first_fine, (second_fine, (host_fine 65 walk_a DenyAll 0, (host_fine 66 walk_b Server 3, tt))));
  policies = grind (arith, nat_tests, policy_fine);
  routers_first = All-from_recursion (λ (q : NodePlan). is_host_plan q ≡ true) (Host walk_host_b ∷ []) (refl, tt);
  links = All-from_recursion (IsLinkPlan 4) detour_config.links (
    link_fine 2 0 1 (omega arith) (omega arith) (λ e. omega (arith, e)),
    (
      link_fine 0 2 0 (omega arith) (omega arith) (λ e. omega (arith, e)),
      (
        link_fine 0 3 0 (omega arith) (omega arith) (λ e. omega (arith, e)),
        (
          link_fine 3 0 2 (omega arith) (omega arith) (λ e. omega (arith, e)),
          (
            link_fine 0 1 0 (omega arith) (omega arith) (λ e. omega (arith, e)),
            (link_fine 1 3 0 (omega arith) (omega arith) (λ e. omega (arith, e)), tt),
          ),
        ),
      ),
    ),
  );
  named = grind (arith, nat_tests);
  names = distinct total ((82 ∷ 49 ∷ []) ∷ (82 ∷ 50 ∷ []) ∷ (65 ∷ []) ∷ (66 ∷ []) ∷ []) refl;
  addresses = distinct of_address (walk_a ∷ walk_b ∷ []) refl;
  pairs = distinct code ((2, 0) ∷ (0, 2) ∷ (0, 3) ∷ (3, 0) ∷ (0, 1) ∷ (1, 3) ∷ []) refl;
  wired = ((refl, refl), ((refl, refl), (refl, (refl, tt))));
}

sent : (time payload : ℕ) → time ≤ 10000000000 → payload ≤ 1600 → IsRow detour_config (detour_row time payload)
sent time payload t p = record { time = t; node = omega arith; what = (refl, p) }

pub traced : AreTraceRows detour_config detour_rows
traced = grind (arith, nat_tests, pair, sent, none_begins)
