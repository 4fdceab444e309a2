-- The paths of the worked walk are steady: up to its list, its nonce alone and its renewal.
use Rattle.tva_laws.proofs.Common.{◌≡◌, ◌<◌, ℕ, List, [], ◌∷◌, ◌++◌, Some, None, refl, arith, AllByRecursion, All-nil, All-from_recursion, Regular, Legacy, Rights, in_force, credit_of, layout, two_bytes, six_bytes, eight_bytes, number_bytes, PacketData, FromTrace, Arrived, Took, Started, at_place, Deal, Prepared, Granted, Coming, coming, deals, IsNoGrant, ComesInTime, ComesUnder, IsBegun, walk_b, walk_flow, walk_rights, walk_router, walk_host_a, walk_cap, walk_precap, walk_grant, walk_fate, walk_request, walk_list, walk_bare, walk_spoofed, walk_nonce, walk_renewal, walk_passes, walk_before_list, walk_before_nonce, walk_before_renewal, walk_log_a, walk_list_comes, walk_nonce_comes, walk_renewal_comes, IsSteadyBehind, IsListWhole, nat_tests}
use Rattle.tva_laws.proofs.WorkedRuns.{came_so}

abbrev own : List Deal
own = deals walk_b walk_log_a

abbrev InTime : Coming → Type 0
InTime x = ComesInTime walk_host_a 1000520 own x

abbrev list_coming : Coming
list_coming = coming walk_list_comes (walk_list 0 0) (walk_fate Regular (Some walk_grant) 2)

abbrev nonce_coming : Coming
nonce_coming = coming walk_nonce_comes (walk_nonce 0) (walk_fate Regular (Some walk_grant) 2)

abbrev renewal_coming : Coming
renewal_coming = coming walk_renewal_comes (walk_renewal 0 0 (walk_cap walk_flow)) (walk_fate Regular (Some walk_grant) 2)

-- ## the places at which they were prepared

abbrev asked : Deal
asked = Prepared 0 (walk_request 0 [])

abbrev granted : Deal
granted = Granted walk_rights (walk_cap walk_flow ∷ [])

abbrev listed : Deal
listed = Prepared 4002900 (walk_list 0 0)

abbrev named : Deal
named = Prepared 10000000 (walk_nonce 0)

abbrev renewed : Deal
renewed = Prepared 6000000000 (walk_renewal 0 0 (walk_cap walk_flow))

abbrev request_in_time : InTime (record { time = 1001000; packet = walk_request 0 []; charge = None })
request_in_time = came_so [] 0 (walk_request 0 []) (granted ∷ listed ∷ named ∷ renewed ∷ []) refl refl (omega arith) (omega arith)

-- ## the grant under which they were prepared

abbrev request_coming : Coming
request_coming = record { time = 1001000; packet = walk_request 0 []; charge = None }

-- the list, the nonce alone and the renewal, among the deals since the grant
abbrev dealt : List Deal
dealt = listed ∷ named ∷ renewed ∷ []

abbrev list_under : (ds : List Deal) → ComesInTime walk_host_a 1000520 (listed ∷ ds) list_coming
list_under ds = came_so [] 4002900 (walk_list 0 0) ds refl refl (omega arith) (omega arith)

abbrev nonce_under : (ds : List Deal) → ComesInTime walk_host_a 1000520 (listed ∷ named ∷ ds) nonce_coming
nonce_under ds = came_so (listed ∷ []) 10000000 (walk_nonce 0) ds refl refl (omega arith) (omega arith)

abbrev renewal_under : ComesInTime walk_host_a 1000520 dealt renewal_coming
renewal_under = came_so (listed ∷ named ∷ []) 6000000000 (walk_renewal 0 0 (walk_cap walk_flow)) [] refl refl (omega arith) (omega arith)

-- ## the paths

abbrev Under : Coming → Type 0
Under x = ComesUnder walk_host_a walk_router 1000520 dealt 1001000 x

list_comes : Under list_coming
unfolding in_force
list_comes = record { in_time = list_under (named ∷ renewed ∷ []); behind = omega arith; minted = refl }

pub steady_list : IsSteadyBehind walk_before_list walk_list_comes (walk_list 0 0) (walk_list 1 1)
unfolding list_comes
steady_list = record {
  rest = Started 5003420 2 Regular (walk_list 1 1)
      ∷ Took (FromTrace walk_spoofed) (Arrived None (walk_bare 0) (walk_fate Legacy None 2) (walk_bare 1))
      ∷ Started 9000000 2 Legacy (walk_bare 1)
      ∷ walk_passes 11010280 0 (walk_nonce 0) Regular (Some walk_grant) 2 (walk_nonce 1)
      ++ walk_passes 6001010400 0 (walk_renewal 0 0 (walk_cap walk_flow)) Regular (Some walk_grant) 2
      (walk_renewal 1 1 (walk_precap walk_flow 6));
  here = refl;
  steady = record {
    first = asked ∷ [];
    rights = walk_rights;
    caps = walk_cap walk_flow ∷ [];
    rest = dealt;
    place = refl;
    ask = request_coming;
    came = refl;
    in_time = request_in_time;
    last = list_comes;
    no_other = tt;
    each = tt;
    order = (All-nil (λ n. 2 < n), tt);
    known = λ e. absurd (cc);
    room = λ e. omega arith;
  };
}

-- a grant behind a packet is the only one where none is behind it
only_grant : (t : ℕ) (p : PacketData) (r : Rights) (cs : List ℕ) (ds : List Deal) → AllByRecursion IsNoGrant ds → (first : List Deal)
    (rights : Rights) (caps : List ℕ) (rest : List Deal) → Prepared t p ∷ Granted r cs ∷ ds ≡ first ++ Granted rights caps ∷ rest
    → (Prepared t p ∷ [] ≡ first) × (ds ≡ rest)
only_grant t p r cs ds none [] rights caps rest e = absurd (cc)
only_grant t p r cs ds none (d ∷ []) rights caps rest e = (cc, cc)
only_grant t p r cs ds none (d ∷ f ∷ fs) rights caps rest e = grind (arith, nat_tests, at_place)

list_begun : IsBegun walk_host_a walk_router 1000520 dealt (request_coming ∷ list_coming ∷ []) 5003420 request_coming
unfolding in_force
list_begun = grind (arith, nat_tests)

pub whole_list : IsListWhole
whole_list = record {
  each = (request_in_time, tt);
  last = came_so (asked ∷ granted ∷ []) 4002900 (walk_list 0 0) (named ∷ renewed ∷ []) refl refl (omega arith) (omega arith);
  order = (All-nil (λ n. 2 < n), tt);
  begun = grind (arith, nat_tests, only_grant, list_begun);
  paid = tt;
  room = λ e. omega arith;
}

nonce_comes : Under nonce_coming
nonce_comes = record { in_time = nonce_under (renewed ∷ []); behind = omega arith; minted = tt }

pub steady_nonce : IsSteadyBehind walk_before_nonce walk_nonce_comes (walk_nonce 0) (walk_nonce 1)
unfolding nonce_comes in_force layout two_bytes six_bytes eight_bytes number_bytes credit_of
steady_nonce = record {
  rest = Started 11010280 2 Regular (walk_nonce 1)
      ∷ walk_passes 6001010400 0 (walk_renewal 0 0 (walk_cap walk_flow)) Regular (Some walk_grant) 2
      (walk_renewal 1 1 (walk_precap walk_flow 6));
  here = refl;
  steady = record {
    first = asked ∷ [];
    rights = walk_rights;
    caps = walk_cap walk_flow ∷ [];
    rest = dealt;
    place = refl;
    ask = request_coming;
    came = refl;
    in_time = request_in_time;
    last = nonce_comes;
    no_other = (tt, tt);
    each = (record { in_time = list_under []; behind = omega arith; minted = refl }, tt);
    order = (All-from_recursion (λ n. 2 < n) (3 ∷ []) (omega arith, tt), (All-nil (λ n. 3 < n), tt));
    known = λ e. record { paid = (λ e. refl, tt); last = omega arith };
    room = λ e. absurd (cc);
  };
}

renewal_comes : Under renewal_coming
unfolding in_force
renewal_comes = record { in_time = renewal_under; behind = omega arith; minted = refl }

pub steady_renewal : IsSteadyBehind walk_before_renewal walk_renewal_comes (walk_renewal 0 0 (walk_cap walk_flow))
    (walk_renewal 1 1 (walk_precap walk_flow 6))
unfolding renewal_comes in_force layout two_bytes six_bytes eight_bytes number_bytes credit_of
steady_renewal = record {
  rest = Started 6001010400 2 Regular (walk_renewal 1 1 (walk_precap walk_flow 6)) ∷ [];
  here = refl;
  steady = record {
    first = asked ∷ [];
    rights = walk_rights;
    caps = walk_cap walk_flow ∷ [];
    rest = dealt;
    place = refl;
    ask = request_coming;
    came = refl;
    in_time = request_in_time;
    last = renewal_comes;
    no_other = (tt, (tt, tt));
    each = (
      record { in_time = list_under (named ∷ []); behind = omega arith; minted = refl },
      (record { in_time = nonce_under []; behind = omega arith; minted = tt }, tt),
    );
    order = (
      All-from_recursion (λ n. 2 < n) (3 ∷ 4 ∷ []) (omega arith, (omega arith, tt)),
      (All-from_recursion (λ n. 3 < n) (4 ∷ []) (omega arith, tt), (All-nil (λ n. 4 < n), tt)),
    );
    known = λ e. absurd (cc);
    room = λ e. omega arith;
  };
}
