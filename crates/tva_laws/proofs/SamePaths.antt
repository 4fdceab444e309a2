-- Behind a notice the path is steady up to the list that is shown again, and up to a nonce alone behind it; and it is so under
-- the grant of a renewal.
use Rattle.tva_laws.proofs.Common.{◌<◌, false, List, [], ◌∷◌, ◌++◌, Some, None, refl, arith, All-nil, All-from_recursion, Regular, in_force, credit_of, layout, two_bytes, six_bytes, eight_bytes, number_bytes, Entry, Started, Deal, Prepared, Granted, Noticed, Coming, deals, ComesInTime, walk_b, walk_router, walk_rights, IsSteadyIn, restart_walk, denying_a, a_request, a_list, a_nonce, b_grant, first_cap, asking, charged_to, passes, same_logs, same_log_a, again, renewal, renewed, renewed_cap, renewed_grant, renewed_list, before_again, before_nonce, before_list}
use Rattle.tva_laws.specs.Restarts.{grant_of}
use Rattle.tva_laws.proofs.WorkedRuns.{came_so, under_so, steady_so}

-- ## what A did

abbrev asked : Deal
asked = Prepared 0 (a_request 1 0 [])

abbrev listed : Deal
listed = Prepared 5000000 (a_list 2 2 0 0 first_cap)

abbrev refused : Deal
refused = Prepared 10000000 (a_nonce 3 0 false)

abbrev shown : Deal
shown = Prepared 20000000 (again 0 0)

abbrev named : Deal
named = Prepared 30000000 (a_nonce 5 0 false)

abbrev renews : Deal
renews = Prepared 6000000000 renewal

abbrev last_listed : Deal
last_listed = Prepared 6010000000 (renewed_list 0 0)

-- until the notice, and since the list was shown again
abbrev noticed : List Deal
noticed = listed ∷ refused ∷ Noticed ∷ []

abbrev behind : List Deal
behind = named ∷ renews ∷ Granted walk_rights (renewed_cap ∷ []) ∷ last_listed ∷ []

abbrev own : List Deal
own = deals walk_b same_log_a

abbrev request_coming : Coming
request_coming = record { time = 1001000; packet = a_request 1 0 []; charge = None }

abbrev request_in_time : ComesInTime denying_a 1000520 own request_coming
request_in_time = came_so [] 0 (a_request 1 0 []) (Granted walk_rights (first_cap ∷ []) ∷ noticed ++ shown ∷ behind) refl refl (omega arith) (omega arith)

abbrev again_coming : Coming
again_coming = record { time = 21010400; packet = again 0 0; charge = Some (grant_of 0) }

abbrev again_under : (ds : List Deal) → ComesInTime denying_a 1000520 (noticed ++ shown ∷ ds) again_coming
again_under ds = came_so noticed 20000000 (again 0 0) ds refl refl (omega arith) (omega arith)

-- ## the paths

-- what passes the router behind the list that is shown again
abbrev later : List Entry
later =
    passes 6001010400 0 renewal (charged_to 0 2) 2 renewed
    ++ passes 6003021150 3 (b_grant 3 0 [] renewed_cap) (asking 1) 1 renewed_grant
    ++ passes 6011010400 0 (renewed_list 0 0) (charged_to 6 2) 2 (renewed_list 1 1)

pub steady_again : IsSteadyIn same_logs (restart_walk walk_router.master) before_again 21010400 0 (again 0 0) (charged_to 0 2) (again 1 1)
unfolding in_force
steady_again = steady_so (Started 21010400 2 Regular (again 1 1) ∷ passes 31010280 0 (a_nonce 5 0 false) (charged_to 0 2) 2 (a_nonce 5 1 false) ++ later) refl refl refl refl (omega arith) refl (record {
  first = asked ∷ [];
  rights = walk_rights;
  caps = first_cap ∷ [];
  rest = noticed ++ shown ∷ behind;
  place = refl;
  ask = request_coming;
  came = refl;
  in_time = request_in_time;
  last = under_so (again_under behind) (omega arith) refl;
  no_other = (tt, (tt, (tt, tt)));
  each = tt;
  order = (All-nil (λ n. 4 < n), tt);
  known = λ e. absurd (cc);
  room = λ e. omega arith;
})

pub steady_nonce : IsSteadyIn same_logs (restart_walk walk_router.master) before_nonce 31010280 0 (a_nonce 5 0 false) (charged_to 0 2) (a_nonce 5 1 false)
unfolding in_force layout two_bytes six_bytes eight_bytes number_bytes credit_of
steady_nonce = steady_so (Started 31010280 2 Regular (a_nonce 5 1 false) ∷ later) refl refl refl refl (omega arith) refl (record {
  first = asked ∷ [];
  rights = walk_rights;
  caps = first_cap ∷ [];
  rest = noticed ++ shown ∷ behind;
  place = refl;
  ask = request_coming;
  came = refl;
  in_time = request_in_time;
  last = under_so (came_so (noticed ++ shown ∷ []) 30000000 (a_nonce 5 0 false) (renews ∷ Granted walk_rights (renewed_cap ∷ []) ∷ last_listed ∷ []) refl refl (omega arith) (omega arith)) (omega arith) tt;
  no_other = (tt, (tt, (tt, (tt, tt))));
  each = (under_so (again_under []) (omega arith) refl, tt);
  order = (All-from_recursion (λ n. 4 < n) (5 ∷ []) (omega arith, tt), (All-nil (λ n. 5 < n), tt));
  known = λ e. record { paid = (λ e. refl, tt); last = omega arith };
  room = λ e. absurd (cc);
})

pub steady_renewed : IsSteadyIn same_logs (restart_walk walk_router.master) before_list 6011010400 0 (renewed_list 0 0) (charged_to 6 2) (renewed_list 1 1)
unfolding in_force layout two_bytes six_bytes eight_bytes number_bytes credit_of
steady_renewed = steady_so (Started 6011010400 2 Regular (renewed_list 1 1) ∷ []) refl refl refl refl (omega arith) refl (record {
  first = asked ∷ Granted walk_rights (first_cap ∷ []) ∷ noticed ++ shown ∷ named ∷ renews ∷ [];
  rights = walk_rights;
  caps = renewed_cap ∷ [];
  rest = last_listed ∷ [];
  place = refl;
  ask = record { time = 6001010400; packet = renewal; charge = Some (grant_of 0) };
  came = refl;
  in_time = came_so (asked ∷ Granted walk_rights (first_cap ∷ []) ∷ noticed ++ shown ∷ named ∷ []) 6000000000 renewal (Granted walk_rights (renewed_cap ∷ []) ∷ last_listed ∷ []) refl refl (omega arith) (omega arith);
  last = under_so (came_so [] 6010000000 (renewed_list 0 0) [] refl refl (omega arith) (omega arith)) (omega arith) refl;
  no_other = tt;
  each = tt;
  order = (All-nil (λ n. 7 < n), tt);
  known = λ e. absurd (cc);
  room = λ e. omega arith;
})
