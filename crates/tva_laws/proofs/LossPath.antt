-- The path is steady up to a renewal where a nonce alone before it was lost.
use Rattle.tva_laws.proofs.Common.{◌<◌, false, [], ◌∷◌, None, refl, arith, All-nil, All-from_recursion, Regular, in_force, credit_of, layout, two_bytes, six_bytes, eight_bytes, number_bytes, Started, Deal, Prepared, Granted, walk_rights, IsSteadyIn, a_request, a_list, a_nonce, first_cap, charged_to, loss_walk, loss_logs, loss_before_renewal, late_renewal, late_renewed}
use Rattle.tva_laws.proofs.WorkedRuns.{came_so, under_so, steady_so}

abbrev asked : Deal
asked = Prepared 0 (a_request 1 0 [])

abbrev listed : Deal
listed = Prepared 5000000 (a_list 2 2 0 0 first_cap)

abbrev named : Deal
named = Prepared 10000000 (a_nonce 3 0 false)

abbrev waited : Deal
waited = Prepared 10001000 (a_nonce 4 0 false)

abbrev lost : Deal
lost = Prepared 10002000 (a_nonce 5 0 false)

abbrev renews : Deal
renews = Prepared 6000000000 late_renewal

pub steady : IsSteadyIn loss_logs loss_walk loss_before_renewal 6001010400 0 late_renewal (charged_to 0 2) late_renewed
unfolding in_force layout two_bytes six_bytes eight_bytes number_bytes credit_of
steady = steady_so (Started 6001010400 2 Regular late_renewed ∷ []) refl refl refl refl (omega arith) refl (record {
  first = asked ∷ [];
  rights = walk_rights;
  caps = first_cap ∷ [];
  rest = listed ∷ named ∷ waited ∷ lost ∷ renews ∷ [];
  place = refl;
  ask = record { time = 1001000; packet = a_request 1 0 []; charge = None };
  came = refl;
  in_time = came_so [] 0 (a_request 1 0 []) (Granted walk_rights (first_cap ∷ []) ∷ listed ∷ named ∷ waited ∷ lost ∷ renews ∷ []) refl refl (omega arith) (omega arith);
  last = under_so (came_so (listed ∷ named ∷ waited ∷ lost ∷ []) 6000000000 late_renewal [] refl refl (omega arith) (omega arith)) (omega arith) refl;
  no_other = (tt, (tt, (tt, (tt, tt))));
  each = (
    under_so (came_so [] 5000000 (a_list 2 2 0 0 first_cap) (named ∷ waited ∷ lost ∷ []) refl refl (omega arith) (omega arith)) (omega arith) refl,
    (
      under_so (came_so (listed ∷ []) 10000000 (a_nonce 3 0 false) (waited ∷ lost ∷ []) refl refl (omega arith) (omega arith)) (omega arith) tt,
      (
        under_so (came_so (listed ∷ named ∷ []) 10001000 (a_nonce 4 0 false) (lost ∷ []) refl refl (omega arith) (omega arith)) (omega arith) tt,
        tt,
      ),
    ),
  );
  order = (
    All-from_recursion (λ n. 2 < n) (3 ∷ 4 ∷ 6 ∷ []) (omega arith, (omega arith, (omega arith, tt))),
    (
      All-from_recursion (λ n. 3 < n) (4 ∷ 6 ∷ []) (omega arith, (omega arith, tt)),
      (All-from_recursion (λ n. 4 < n) (6 ∷ []) (omega arith, tt), (All-nil (λ n. 6 < n), tt)),
    ),
  );
  known = λ e. absurd (cc);
  room = λ e. omega arith;
})
