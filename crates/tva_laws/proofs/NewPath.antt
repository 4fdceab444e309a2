-- Behind a restart with another master the path is steady up to the list of the next grant.
use Rattle.tva_laws.proofs.Common.{◌<◌, false, List, [], ◌∷◌, ◌++◌, None, refl, arith, All-nil, in_force, credit_of, layout, two_bytes, six_bytes, eight_bytes, number_bytes, Started, Regular, Deal, Prepared, Granted, Noticed, walk_rights, IsSteadyIn, restart_walk, a_request, a_list, a_nonce, first_cap, charged_to, new_master, new_logs, new_before_list, new_list, second_cap}
use Rattle.tva_laws.proofs.WorkedRuns.{came_so, under_so, steady_so}

-- what A had before it asked anew
abbrev pub earlier : List Deal
earlier =
    Prepared 0 (a_request 1 0 [])
    ∷ Granted walk_rights (first_cap ∷ [])
    ∷ Prepared 5000000 (a_list 2 2 0 0 first_cap)
    ∷ Prepared 10000000 (a_nonce 3 0 false)
    ∷ Prepared 10100000 (a_nonce 4 0 false)
    ∷ Noticed
    ∷ Noticed
    ∷ []

abbrev asked : Deal
asked = Prepared 2100000000 (a_request 5 0 [])

abbrev listed : Deal
listed = Prepared 2110000000 (new_list 0 0)

pub steady : IsSteadyIn new_logs (restart_walk new_master) new_before_list 2111010400 0 (new_list 0 0) (charged_to 2 2) (new_list 1 1)
unfolding in_force layout two_bytes six_bytes eight_bytes number_bytes credit_of
steady = steady_so (Started 2111010400 2 Regular (new_list 1 1) ∷ []) refl refl refl refl (omega arith) refl (record {
  first = earlier ++ asked ∷ [];
  rights = walk_rights;
  caps = second_cap ∷ [];
  rest = listed ∷ [];
  place = refl;
  ask = record { time = 2101001000; packet = a_request 5 0 []; charge = None };
  came = refl;
  in_time = came_so earlier 2100000000 (a_request 5 0 []) (Granted walk_rights (second_cap ∷ []) ∷ listed ∷ []) refl refl (omega arith) (omega arith);
  last = under_so (came_so [] 2110000000 (new_list 0 0) [] refl refl (omega arith) (omega arith)) (omega arith) refl;
  no_other = tt;
  each = tt;
  order = (All-nil (λ n. 6 < n), tt);
  known = λ e. absurd (cc);
  room = λ e. omega arith;
})
