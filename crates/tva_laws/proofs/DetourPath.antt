-- Behind a changed route the path is steady up to the list of the next grant, at the router before and at that which it brings in.
use Rattle.tva_laws.proofs.Common.{◌<◌, false, List, [], ◌∷◌, ◌++◌, None, refl, arith, All-nil, Regular, in_force, credit_of, layout, two_bytes, six_bytes, eight_bytes, number_bytes, Started, Deal, Prepared, Granted, Noticed, walk_rights, IsSteadyIn, charged_to, to_first, to_second, detour_logs, first_before_list, second_before_list, asked, narrow_caps, wide_caps, narrow_list, narrow_nonce, wide_list, by_first}
use Rattle.tva_laws.proofs.WorkedRuns.{came_so, under_so, steady_so}

-- what A had before it asked anew
abbrev earlier : List Deal
earlier =
    Prepared 0 (asked 1 0 [])
    ∷ Granted walk_rights narrow_caps
    ∷ Prepared 5000000 (narrow_list 2 0 0 false)
    ∷ Prepared 10000000 (narrow_nonce 0 false)
    ∷ Noticed
    ∷ Prepared 20000000 (narrow_list 4 0 0 false)
    ∷ Noticed
    ∷ []

abbrev asks : Deal
asks = Prepared 2100000000 (asked 5 0 [])

abbrev listed : Deal
listed = Prepared 2110000000 (wide_list 0 0)

pub steady_first : IsSteadyIn detour_logs to_first first_before_list 2111010480 0 (wide_list 0 0) (charged_to 2 4) (wide_list 1 1)
unfolding in_force layout two_bytes six_bytes eight_bytes number_bytes credit_of
steady_first = steady_so (Started 2111010480 4 Regular (wide_list 1 1) ∷ []) refl refl refl refl (omega arith) refl (record {
  first = earlier ++ asks ∷ [];
  rights = walk_rights;
  caps = wide_caps;
  rest = listed ∷ [];
  place = refl;
  ask = record { time = 2101001000; packet = asked 5 0 []; charge = None };
  came = refl;
  in_time = came_so earlier 2100000000 (asked 5 0 []) (Granted walk_rights wide_caps ∷ listed ∷ []) refl refl (omega arith) (omega arith);
  last = under_so (came_so [] 2110000000 (wide_list 0 0) [] refl refl (omega arith) (omega arith)) (omega arith) refl;
  no_other = tt;
  each = tt;
  order = (All-nil (λ n. 6 < n), tt);
  known = λ e. absurd (cc);
  room = λ e. omega arith;
})

pub steady_second : IsSteadyIn detour_logs to_second second_before_list 2112020960 4 (wide_list 1 1) (charged_to 2 5) (wide_list 2 2)
unfolding in_force layout two_bytes six_bytes eight_bytes number_bytes credit_of
steady_second = steady_so (Started 2112020960 5 Regular (wide_list 2 2) ∷ []) refl refl refl refl (omega arith) refl (record {
  first = earlier ++ asks ∷ [];
  rights = walk_rights;
  caps = wide_caps;
  rest = listed ∷ [];
  place = refl;
  ask = record { time = 2102002100; packet = asked 5 1 (by_first 2); charge = None };
  came = refl;
  in_time = came_so earlier 2100000000 (asked 5 0 []) (Granted walk_rights wide_caps ∷ listed ∷ []) refl refl (omega arith) (omega arith);
  last = under_so (came_so [] 2110000000 (wide_list 0 0) [] refl refl (omega arith) (omega arith)) (omega arith) refl;
  no_other = tt;
  each = tt;
  order = (All-nil (λ n. 6 < n), tt);
  known = λ e. absurd (cc);
  room = λ e. omega arith;
})
