-- Up to the first nonce alone behind a restart no path is steady.
use Rattle.tva_laws.proofs.Common.{◌≡◌, ℕ, false, cond, eqb, List, [], ◌∷◌, ◌++◌, refl, ap, sym, subst, ◌∙◌, append-nil, append_assoc, eq-eqb, AllByRecursion, PacketId, Rights, router_second, PacketData, charges_at, Arrival, charges, at_time, Deal, Prepared, Granted, Noticed, coming, comings, deals, since_noticed, comings_at, charged_since, WasCharged, IsSteadyPath, walk_b, walk_flow, walk_rights, restarting_router, denying_a, a_request, a_list, a_nonce, first_cap, early_router, demoted, new_master, new_log_a, arith, nat_tests}

none_there : (ds : List Deal) (x : Deal) (xs : List Deal) → [] ≡ ds ++ x ∷ xs → ⊥
none_there [] x xs e = cc
none_there (d ∷ ds) x xs e = cc

-- ## what was dealt before a packet of a number

abbrev number_of : Deal → ℕ
number_of (Prepared time packet) = packet.id.ordinal
number_of (Granted rights caps) = 0
number_of Noticed = 0

-- the fronts of a list behind some deals, each up to a packet of that number
abbrev fronts : ℕ → List Deal → List Deal → List (List Deal)
fronts n before [] = []
fronts n before (d ∷ ds) = cond (eqb (number_of d) n) (before ∷ fronts n (before ++ d ∷ []) ds) (fronts n (before ++ d ∷ []) ds)

module _ (P : List Deal → Type 0) (sent : ℕ) (packet : PacketData) (after : List Deal) where
  abbrev NoneIs : ℕ → List Deal → List Deal → Type 0
  NoneIs n before own = AllByRecursion (λ (f : List Deal). P f → ⊥) (fronts n before own)

  further : (n : ℕ) (before : List Deal) (d : Deal) (ds : List Deal) → NoneIs n before (d ∷ ds) → NoneIs n (before ++ d ∷ []) ds
  further n before d ds none = grind (arith, nat_tests)

  -- where none of them is such, no front up to the packet is
  no_front : (before earlier own : List Deal) → own ≡ earlier ++ Prepared sent packet ∷ after
      → NoneIs packet.id.ordinal before own → P (before ++ earlier) → ⊥
  no_front before [] own e none p = grind (arith, nat_tests, eq-eqb, append-nil)
  no_front before (d ∷ ds) own e none p =
      let here = subst (λ (ds : List Deal). NoneIs packet.id.ordinal before ds) e none in
      no_front (before ++ d ∷ []) ds (ds ++ Prepared sent packet ∷ after) refl
      (further packet.id.ordinal before d (ds ++ Prepared sent packet ∷ after) here)
      (subst P (sym (append_assoc before (d ∷ []) ds)) p)

-- ## what was charged

abbrev AreCharged : ℕ → List Deal → Type 0
AreCharged second under =
    AllByRecursion (WasCharged (charged_since second (comings_at (restarting_router new_master) 11010280 (comings walk_flow early_router))))
    (since_noticed under)

-- what was shown under the last grant was charged behind the restart, from a second on
record Paid (second : ℕ) (before : List Deal) : Type 0 where
  first : List Deal
  rights : Rights
  caps : List ℕ
  under : List Deal
  place : before ≡ first ++ Granted rights caps ∷ under
  paid : AreCharged second under

abbrev shown : List Deal
shown = Prepared 5000000 (a_list 2 2 0 0 first_cap) ∷ []

abbrev until_nonce : List Deal
until_nonce = Prepared 0 (a_request 1 0 []) ∷ Granted walk_rights (first_cap ∷ []) ∷ shown

-- nothing was
not_paid : (second : ℕ) → Paid second until_nonce → ⊥
not_paid second p = by p.first p.place
  where
    at : (under : List Deal) → shown ≡ under → AreCharged second under → ⊥
    at under e k = grind (arith, nat_tests)

    by : (first : List Deal) → until_nonce ≡ first ++ Granted p.rights p.caps ∷ p.under → ⊥
    by [] e = absurd (cc)
    by (a ∷ []) e = at p.under (cc) p.paid
    by (a ∷ b ∷ []) e = absurd (cc)
    by (a ∷ b ∷ c ∷ ds) e = (let rest : [] ≡ ds ++ Granted p.rights p.caps ∷ p.under = cc in none_there ds (Granted p.rights p.caps) p.under rest)

pub no_path : (delay : ℕ) → IsSteadyPath denying_a (restarting_router new_master) delay (deals walk_b new_log_a)
    (comings walk_flow early_router) (charges_at (restarting_router new_master) 11010280 (charges early_router))
    (coming (Arrival (at_time 11010280) 0 (a_nonce 3 0 false)) (a_nonce 3 0 false) (demoted 2)) → ⊥
no_path delay s =
    let second : ℕ = router_second 0 s.ask.time in
    let earlier : List Deal = s.first ++ Granted s.rights s.caps ∷ s.last.in_time.before in
    let from_it : List Deal = Prepared s.last.in_time.sent s.last.in_time.packet ∷ s.last.in_time.after in
    let place : deals walk_b new_log_a ≡ earlier ++ from_it =
    s.place ∙ (ap (λ (ds : List Deal). s.first ++ Granted s.rights s.caps ∷ ds) s.last.in_time.place
    ∙ sym (append_assoc s.first (Granted s.rights s.caps ∷ s.last.in_time.before) from_it)) in
    let was : Paid second earlier = record {
      first = s.first;
      rights = s.rights;
      caps = s.caps;
      under = s.last.in_time.before;
      place = refl;
      paid = (s.known refl).paid;
    } in
    let third : s.last.in_time.packet.id.ordinal ≡ 3 = ap (λ (i : PacketId). i.ordinal) s.last.in_time.same in
    no_front (Paid second) s.last.in_time.sent s.last.in_time.packet s.last.in_time.after [] earlier (deals walk_b new_log_a) place
    (subst (λ (n : ℕ). AllByRecursion (λ (f : List Deal). Paid second f → ⊥) (fronts n [] (deals walk_b new_log_a))) (sym third)
    (not_paid second, tt))
    was
