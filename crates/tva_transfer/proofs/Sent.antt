-- What a host sends belongs to its transfers, and what it takes as acknowledged came in.
use Rattle.tva_transfer.proofs.Common.{◌≡◌, ℕ, ◌+◌, ◌-◌, ◌≤◌, ◌&&◌, ◌⊎◌, true, false, cond, eqb, ltb, List, [], ◌∷◌, ◌++◌, Option, Some, None, length, set, refl, sym, ap, subst, inl, inr, ◌∙◌, ⊎_elim, append_assoc, arith, position, slice_get, option_and_then, option_map, option_map_or, and_parts, cases_Bool, eqb-true, eq-eqb, ne_eqb, ltb-true, append-nil, get_or_from_slice_get, slice_get_within, some_pair_parts, Address, Flow, Upper, Nothing, Data, Ack, DataLine, Transfer, Files, Act, Filed, Ticked, Came, acknowledged, after_act, after_upper, answer_to, begun, files_of, first_segment, heard, is_due, is_more, next_of, number_of, segment_behind, segment_due, segment_of, with_acked, with_range, sent_by, to_from}
use Rattle.std.proofs.lemmas.List.Quantifiers.{position-Some}
use Rattle.tva_transfer.proofs.Acts.{by_last}
use Rattle.tva_transfer.proofs.History.{HasCome, come_before, come_now}
use Rattle.tva_transfer.proofs.Knowing.{acknowledged-more}
use Rattle.tva_transfer.proofs.Places.{slice_get-push, slice_get-set}
use Rattle.tva_transfer.proofs.Standing.{files_of-push}

pub address_is : (a b : Address) → a.0 ≡ b.0 → a ≡ b
address_is a b e = ap (λ (n : ℕ). let x : Address = record { 0 = n } in x) e

-- ## a transfer stays in its place

-- at a place is the same transfer, of which more may be acknowledged
pub record IsKept (ts : List Transfer) (place : ℕ) (t : Transfer) : Type 0 where
  pub now : Transfer
  pub at : slice_get ts place ≡ Some now
  pub dst : now.dst ≡ t.dst
  pub size : now.size ≡ t.size

kept_same : (ts : List Transfer) (place : ℕ) (t : Transfer) → slice_get ts place ≡ Some t → IsKept ts place t
kept_same ts place t at = record { now = t; at = at; dst = refl; size = refl }

ranges_only : (files : Files) (at : Address) (o : Option DataLine) → (with_range at o files).transfers ≡ files.transfers
ranges_only files at o = grind arith

acked_dst : (source : Address) (next : ℕ) (u : Transfer) → (with_acked source next u).dst ≡ u.dst
acked_dst source next u = elim (is_more source next u) as (λ b. (cond b (record u { acked = next }) u).dst ≡ u.dst) [ true ↦ refl | false ↦ refl ]

acked_size : (source : Address) (next : ℕ) (u : Transfer) → (with_acked source next u).size ≡ u.size
acked_size source next u = elim (is_more source next u) as (λ b. (cond b (record u { acked = next }) u).size ≡ u.size) [ true ↦ refl | false ↦ refl ]

kept_acked : (source : Address) (number next : ℕ) (ts : List Transfer) (place : ℕ) (t : Transfer) → slice_get ts place ≡ Some t → IsKept (acknowledged source number next ts) place t
kept_acked source number next ts place t at = go (slice_get ts number) refl where
  go : (o : Option Transfer) → slice_get ts number ≡ o → IsKept (option_map_or (λ u. set ts number (with_acked source next u)) o ts) place t
  go None e = kept_same ts place t at
  go (Some u) e = ⊎_elim
      (λ yes. let here = eqb-true place number yes in
      let is : Some u ≡ Some t = sym e ∙ (ap (slice_get ts) (sym here) ∙ at) in
      let same : u ≡ t = cc in
      record {
        now = with_acked source next u;
        at = slice_get-set ts number (with_acked source next u) place ∙ rw (yes, at) refl;
        dst = acked_dst source next u ∙ ap (λ (x : Transfer). x.dst) same;
        size = acked_size source next u ∙ ap (λ (x : Transfer). x.size) same;
      })
      (λ no. kept_same (set ts number (with_acked source next u)) place t (slice_get-set ts number (with_acked source next u) place ∙ rw no at))
      (cases_Bool (eqb place number))

kept_upper : (files : Files) (source : Address) (above : Upper) (place : ℕ) (t : Transfer) → slice_get files.transfers place ≡ Some t → IsKept (after_upper files source above).transfers place t
unfolding after_upper
kept_upper files source above place t at = grind (arith, kept_same, ranges_only, kept_acked)

kept_act : (home : Address) (files : Files) (a : Act) (place : ℕ) (t : Transfer) → slice_get files.transfers place ≡ Some t → IsKept (after_act home files a).transfers place t
kept_act home files a place t at = grind (arith, ne_eqb, slice_get_within, kept_same, slice_get-push, kept_upper)

pub stays : (home : Address) (acts more : List Act) (place : ℕ) (t : Transfer) → slice_get (files_of home acts).transfers place ≡ Some t → IsKept (files_of home (acts ++ more)).transfers place t
stays home acts more place t at = by_last (λ xs. IsKept (files_of home (acts ++ xs)).transfers place t)
    (rw (append-nil acts) (kept_same (files_of home acts).transfers place t at))
    (λ xs a k. let next = kept_act home (files_of home (acts ++ xs)) a place k.now k.at in
    rw (← append_assoc acts xs (a ∷ []), files_of-push home (acts ++ xs) a)
    (record { now = next.now; at = next.at; dst = next.dst ∙ k.dst; size = next.size ∙ k.size })) more

-- ## what is acknowledged came in

acked_ack : (source : Address) (number next : ℕ) (ts : List Transfer) (place : ℕ) (t : Transfer) → slice_get (acknowledged source number next ts) place ≡ Some t → (slice_get ts place ≡ Some t) ⊎ ((source.0 ≡ t.dst.0) × (Ack number next ≡ Ack place t.acked))
acked_ack source number next ts place t at = go (slice_get ts number) refl at where
  go : (o : Option Transfer) → slice_get ts number ≡ o → slice_get (option_map_or (λ u. set ts number (with_acked source next u)) o ts) place ≡ Some t → (slice_get ts place ≡ Some t) ⊎ ((source.0 ≡ t.dst.0) × (Ack number next ≡ Ack place t.acked))
  go None e h = inl h
  go (Some u) e h = let step = slice_get-set ts number (with_acked source next u) place in ⊎_elim
      (λ yes. let here = eqb-true place number yes in
      let was : slice_get ts place ≡ Some u = ap (slice_get ts) here ∙ e in
      let is : Some (with_acked source next u) ≡ Some t = sym (step ∙ rw (yes, was) refl) ∙ h in
      let same : with_acked source next u ≡ t = cc in
      ⊎_elim
      (λ more. let more_is : record u { acked = next } ≡ t = sym (rw more refl) ∙ same in
      let to = eqb-true u.dst.0 source.0 (and_parts (eqb u.dst.0 source.0) (ltb u.acked next) more).0 in
      inr (sym to ∙ ap (λ (x : Transfer). x.dst.0) more_is, ap (λ n. Ack n next) (sym here) ∙ ap (λ (x : Transfer). Ack place x.acked) more_is))
      (λ less. let less_is : u ≡ t = sym (rw less refl) ∙ same in inl (was ∙ ap Some less_is))
      (cases_Bool (is_more source next u)))
      (λ no. inl (sym (rw no at step) ∙ h))
      (cases_Bool (eqb place number))

acked_upper : (files : Files) (source : Address) (above : Upper) (place : ℕ) (t : Transfer) → slice_get (after_upper files source above).transfers place ≡ Some t → (slice_get files.transfers place ≡ Some t) ⊎ ((source.0 ≡ t.dst.0) × (above ≡ Ack place t.acked))
unfolding after_upper
acked_upper files source above place t at = grind (arith, ranges_only, acked_ack)

acked_more : (home : Address) (xs : List Act) (a : Act) (place : ℕ) (t : Transfer) → (t.acked ≡ 0) ⊎ HasCome home xs t.dst (Ack place t.acked) → (t.acked ≡ 0) ⊎ HasCome home (xs ++ a ∷ []) t.dst (Ack place t.acked)
acked_more home xs a place t before = ⊎_elim (λ none. inl none) (λ come. inr (come_before home xs a t.dst (Ack place t.acked) come)) before

acked_act : (home : Address) (xs : List Act) (a : Act) (place : ℕ) → ((t : Transfer) → slice_get (files_of home xs).transfers place ≡ Some t → (t.acked ≡ 0) ⊎ HasCome home xs t.dst (Ack place t.acked)) → (t : Transfer) → slice_get (after_act home (files_of home xs) a).transfers place ≡ Some t → (t.acked ≡ 0) ⊎ HasCome home (xs ++ a ∷ []) t.dst (Ack place t.acked)
acked_act home xs a place before t at = grind (arith, slice_get-push, acked_more, cases_Bool, come_now, acked_upper)

-- of each transfer nothing is acknowledged, or what its destination acknowledged
pub acked_came : (home : Address) (acts : List Act) (place : ℕ) (t : Transfer) → slice_get (files_of home acts).transfers place ≡ Some t → (t.acked ≡ 0) ⊎ HasCome home acts t.dst (Ack place t.acked)
acked_came home acts place = by_last (λ xs. (t : Transfer) → slice_get (files_of home xs).transfers place ≡ Some t → (t.acked ≡ 0) ⊎ HasCome home xs t.dst (Ack place t.acked))
    (λ t at. absurd (cc at))
    (λ xs a before t at. acked_act home xs a place before t (rw (files_of-push home xs a) at at)) acts

-- ## what is sent

-- the range is one of a transfer to the destination, under its number
pub record IsOf (ts : List Transfer) (dst : Address) (number first bytes : ℕ) : Type 0 where
  pub place : ℕ
  pub transfer : Transfer
  pub at : slice_get ts place ≡ Some transfer
  pub to : transfer.dst ≡ dst
  pub numbered : number_of place ≡ number
  pub fits : first + bytes ≤ transfer.size

of_segment : (ts : List Transfer) (place : ℕ) (t now : Transfer) (dst : Address) (number first bytes : ℕ) → slice_get ts place ≡ Some now → now.dst ≡ dst → now.size ≡ t.size → t.acked ≤ t.size → segment_of place t ≡ Data number first bytes → IsOf ts dst number first bytes
of_segment ts place t now dst number first bytes at to size le e = grind arith

-- a segment that is due is that of a transfer which is due
pub record IsDueFrom (ts : List Transfer) (dst : Address) (above : Upper) : Type 0 where
  pub place : ℕ
  pub transfer : Transfer
  pub at : slice_get ts place ≡ Some transfer
  pub due : is_due dst transfer ≡ true
  pub segment : segment_of place transfer ≡ above

due_from : (files : Files) (dst : Address) (above : Upper) → segment_due files dst ≡ Some above → IsDueFrom files.transfers dst above
unfolding segment_due
due_from files dst above h = go (position (is_due dst) files.transfers) refl h where
  at_place : (place : ℕ) → position (is_due dst) files.transfers ≡ Some place → (o : Option Transfer) → slice_get files.transfers place ≡ o → option_map (segment_of place) o ≡ Some above → IsDueFrom files.transfers dst above
  at_place place e None g h = absurd (cc)
  at_place place e (Some t) g h =
      let passes = (position-Some (is_due dst) files.transfers place t e).1 in
      let is : segment_of place t ≡ above = cc in
      record { place = place; transfer = t; at = g; due = subst (λ u. is_due dst u ≡ true) (get_or_from_slice_get files.transfers place t t g) passes; segment = is }

  go : (o : Option ℕ) → position (is_due dst) files.transfers ≡ o → option_and_then (λ place. option_map (segment_of place) (slice_get files.transfers place)) o ≡ Some above → IsDueFrom files.transfers dst above
  go None e h = absurd (cc)
  go (Some place) e h = at_place place e (slice_get files.transfers place) refl h

-- what answers an acknowledgement is the next segment of its transfer
answer_data : (files : Files) (source : Address) (above : Upper) (number first bytes : ℕ) → answer_to files source above ≡ Data number first bytes → IsOf (after_upper files source above).transfers source number first bytes
unfolding answer_to after_upper
answer_data files source (Ack n next) number first bytes h = go (slice_get files.transfers n) refl h where
  go : (o : Option Transfer) → slice_get files.transfers n ≡ o → option_map_or (segment_behind source n next) o Nothing ≡ Data number first bytes → IsOf (acknowledged source n next files.transfers) source number first bytes
  go None e h = absurd (cc)
  go (Some u) e h = ⊎_elim
      (λ yes. let parts = and_parts (is_more source next u) (ltb next u.size) yes in
      let less = ltb-true next u.size parts.1 in
      let now : Transfer = record u { acked = next } in
      let at : slice_get (set files.transfers n now) n ≡ Some now = (slice_get-set files.transfers n now n) ∙ rw (eq-eqb n n refl, e) refl in
      of_segment (acknowledged source n next files.transfers) n now now source number first bytes
      (subst (λ ts. slice_get ts n ≡ Some now) (acknowledged-more source n next files.transfers u e parts.0) at)
      (address_is u.dst source (eqb-true u.dst.0 source.0 (and_parts (eqb u.dst.0 source.0) (ltb u.acked next) parts.0).0)) refl (omega (arith, less)) (rw yes at h))
      (λ no. absurd (cc (rw no at h)))
      (cases_Bool (is_more source next u && ltb next u.size))
answer_data files source _ number first bytes h = absurd (cc)

pub sent_data : (home : Address) (files : Files) (act : Act) (flow : Flow) (number first bytes : ℕ) → sent_by home files act ≡ Some (flow, Data number first bytes) → IsOf (after_act home files act).transfers flow.dst number first bytes
sent_data home files (Filed dst size segment) flow number first bytes h =
    let ts = files.transfers in
    let parts = some_pair_parts (to_from dst home) flow (first_segment files dst size segment) (Data number first bytes) h in
    of_segment (ts ++ begun dst size segment ∷ []) (length ts) (begun dst size segment) (begun dst size segment) flow.dst number first bytes
    (slice_get-push ts (begun dst size segment) (length ts) ∙ rw (eq-eqb (length ts) (length ts) refl) refl)
    (ap (λ (f : Flow). f.dst) parts.0) refl (omega arith) parts.1
sent_data home files (Ticked dst) flow number first bytes h = go (segment_due files dst) refl h where
  go : (o : Option Upper) → segment_due files dst ≡ o → option_map {U = Flow × Upper} (λ above. (to_from dst home, above)) o ≡ Some (flow, Data number first bytes) → IsOf files.transfers flow.dst number first bytes
  go None e h = absurd (cc)
  go (Some above) e h =
      let parts = some_pair_parts (to_from dst home) flow above (Data number first bytes) h in
      let d = due_from files dst above e in
      let tests = and_parts (eqb d.transfer.dst.0 dst.0) (ltb d.transfer.acked d.transfer.size) d.due in
      let less = ltb-true d.transfer.acked d.transfer.size tests.1 in
      of_segment files.transfers d.place d.transfer d.transfer flow.dst number first bytes d.at
      (address_is d.transfer.dst dst (eqb-true d.transfer.dst.0 dst.0 tests.0) ∙ ap (λ (f : Flow). f.dst) parts.0) refl (omega (arith, less)) (d.segment ∙ parts.1)
sent_data home files (Came p) flow number first bytes h = grind (arith, some_pair_parts, answer_data)

-- what acknowledges a range says how much was delivered
answer_ack : (files : Files) (source : Address) (above : Upper) (number next : ℕ) → answer_to files source above ≡ Ack number next → next ≡ next_of (after_upper files source above) source number
unfolding answer_to
answer_ack files source Nothing number next h = absurd (cc)
answer_ack files source (Data n f b) number next h = grind arith
answer_ack files source (Ack n m) number next h = go (slice_get files.transfers n) h where
  go : (o : Option Transfer) → option_map_or (segment_behind source n m) o Nothing ≡ Ack number next → next ≡ next_of (after_upper files source (Ack n m)) source number
  go None h = absurd (cc)
  go (Some u) h = ⊎_elim (λ yes. absurd (cc (rw yes at h))) (λ no. absurd (cc (rw no at h))) (cases_Bool (is_more source m u && ltb m u.size))

pub sent_ack : (home : Address) (files : Files) (act : Act) (flow : Flow) (number next : ℕ) → sent_by home files act ≡ Some (flow, Ack number next) → next ≡ next_of (after_act home files act) flow.dst number
sent_ack home files (Filed dst size segment) flow number next h =
    let parts = some_pair_parts (to_from dst home) flow (first_segment files dst size segment) (Ack number next) h in absurd (cc (parts.1))
sent_ack home files (Ticked dst) flow number next h = go (segment_due files dst) refl h where
  go : (o : Option Upper) → segment_due files dst ≡ o → option_map {U = Flow × Upper} (λ above. (to_from dst home, above)) o ≡ Some (flow, Ack number next) → next ≡ next_of files flow.dst number
  go None e h = absurd (cc)
  go (Some above) e h =
      absurd (cc ((due_from files dst above e).segment, (some_pair_parts (to_from dst home) flow above (Ack number next) h).1))
sent_ack home files (Came p) flow number next h =
    let parts = some_pair_parts (to_from p.flow.src home) flow (answer_to files p.flow.src (heard home p)) (Ack number next) h in
    answer_ack files p.flow.src (heard home p) number next parts.1 ∙ ap (λ (f : Flow). next_of (after_upper files p.flow.src (heard home p)) f.dst number) parts.0
