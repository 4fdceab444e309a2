-- The miles of a path: the deals of a host, each packet with its charge at the router.
use Rattle.tva_laws.proofs.Common.{◌≡◌, inl, inr, ℕ, ◌+◌, true, Bool, cond, List, [], ◌∷◌, ◌++◌, map, is_some, Option, Some, None, refl, ap, ap₂, sym, subst, ◌∙◌, arith, append_assoc, append-nil, IsSomeAnd, IfSome, AllByRecursion, filter_map, cons_option, filter_map-append, PacketId, Rights, Time, AreSomeRights, PacketData, Charge, Contact, asked_at, each-append, each-weaker, Entry, Mile, Went, Got, Told, contact_in, contacts, paid_in, charges_in, last_came, since_got, Way, ComesIn, IsPaid, IsMile, AreMiles, Deal, Prepared, Granted, Noticed, Coming, IsNoGrant, same_id, come_as, ask_came, grant_came, since_granted, nat_tests}
use Rattle.tva_laws.proofs.Pushes.{contacts-push, charges-push, came-got, came-same, since-got, since-went, since-told}
use Rattle.tva_laws.proofs.RisingLists.{Rises, rises_front}
use Rattle.tva_laws.proofs.Dealt.{shape_in, counted, contact_of}
use Rattle.tva_laws.proofs.Hosts.{deal_key, IsTrue}
use Rattle.tva_laws.proofs.Matching.{IsOf, In, AreIn, keys, Matches, in_left, in_last, in_behind, in_front, rises_behind, join_in}
use Rattle.tva_laws.proofs.Asks.{id_is, come_is, came-granted, came-other}
use Rattle.tva_laws.proofs.Comings.{paid_of, charge_parts}
use Rattle.tva_laws.proofs.Beside.{IsCharged, IsBeside, AreBeside, beside-push, since_other, since_grant}

miles-push : (w : Way) (before ms : List Mile) (m : Mile) → AreMiles w before ms → IsMile w (before ++ ms) m
    → AreMiles w before (ms ++ m ∷ [])
miles-push w before [] m k l = (subst (λ (b : List Mile). IsMile w b m) (append-nil before) l, tt)
miles-push w before (n ∷ ns) m k l =
    (k.0, miles-push w (before ++ n ∷ []) ns m k.1 (subst (λ (b : List Mile). IsMile w b m) (sym (append_assoc before (n ∷ []) ns)) l))

map-push : (ds : List Deal) (d : Deal) → map contact_of (ds ++ d ∷ []) ≡ map contact_of ds ++ contact_of d ∷ []
map-push [] d = refl
map-push (e ∷ es) d = ap (λ (cs : List Contact). contact_of e ∷ cs) (map-push es d)

found_past : (y : Coming) (id : PacketId) (o : Option Coming) (x : Coming) (b : Bool) → same_id y.packet.id id ≡ b → (y.packet.id ≡ id → ⊥)
    → o ≡ Some x → cond b (Some y) o ≡ Some x
found_past y id o x b is other e = grind (arith, nat_tests, id_is)

found_behind : (front : List Coming) (x : Coming) (back : List Coming) (id : PacketId) → AllByRecursion (λ y. y.packet.id ≡ id → ⊥) front
    → id ≡ x.packet.id → come_as (front ++ x ∷ back) id ≡ Some x
found_behind [] x back id a e = grind (arith, nat_tests)
found_behind (y ∷ ys) x back id a e = grind (arith, nat_tests, found_past, found_behind ys x back id a.1 e)

-- ## before the last grant

-- the miles of deals without a charge
pub record Bare (w : Way) (ds : List Deal) : Type 0 where
  pub miles : List Mile
  pub contacts_are : contacts miles ≡ map contact_of ds
  pub charges_are : charges_in miles ≡ []
  pub are : AreMiles w [] miles

-- an ask may come in time
chosen : (w : Way) (o : Option Time) → (came : ℕ) × IfSome o (λ t. ComesIn w t.0 came)
chosen w None = (0, tt)
chosen w (Some t) = (t.0 + w.delay, record { from = omega arith; until = omega arith })

bare_more : (w : Way) (ds : List Deal) (d : Deal) (m : Mile) (r : Bare w ds) → contact_in m ≡ contact_of d → paid_in m ≡ [] → IsMile w r.miles m
    → Bare w (ds ++ d ∷ [])
bare_more w ds d m r same none is = grind (arith, nat_tests, contacts-push r.miles m, map-push ds d, charges-push r.miles m, miles-push w [] r.miles m r.are is)

bare_step : (w : Way) (log : List Entry) (ds : List Deal) (d : Deal) → IsTrue log d → Bare w ds → Bare w (ds ++ d ∷ [])
bare_step w log ds (Prepared t p) k r = bare_more w ds (Prepared t p) (Went t (shape_in p.carried) (counted p) None) r refl refl tt
bare_step w log ds (Granted rights caps) k r =
    let c = chosen w (asked_at (contacts r.miles)) in
    bare_more w ds (Granted rights caps) (Got rights caps c.0) r refl refl (k, c.1)
bare_step w log ds Noticed k r = bare_more w ds Noticed Told r refl refl tt

pub bare_from : (w : Way) (log : List Entry) (before ds : List Deal) → Bare w before → AllByRecursion (IsTrue log) ds → Bare w (before ++ ds)
bare_from w log before [] r fine = subst (Bare w) (sym (append-nil before)) r
bare_from w log before (d ∷ ds) r fine = grind (arith, nat_tests, append_assoc, bare_step, bare_from w log (before ++ d ∷ []) ds (bare_step w log before d fine.0 r) fine.1)

pub bare_none : (w : Way) → Bare w []
bare_none w = record { miles = []; contacts_are = refl; charges_are = refl; are = tt }

-- ## along the deals

-- a deal behind others: the last ask before a grant came in time, and a shim can carry its rights
abbrev pub IsWalkable : Way → List Coming → List Deal → Deal → Type 0
IsWalkable w seen before (Prepared t p) = Unit {0}
IsWalkable w seen before (Granted rights caps) =
    AreSomeRights rights × IsSomeAnd (ask_came seen before) (λ came. (ms : List Mile) → contacts ms ≡ map contact_of before
    → IfSome (asked_at (contacts ms)) (λ (t : Time). ComesIn w t.0 came))
IsWalkable w seen before Noticed = Unit {0}

abbrev pub AreWalkable : Way → List Coming → List Deal → List Deal → Type 0
AreWalkable w seen before [] = Unit {0}
AreWalkable w seen before (d ∷ ds) = IsWalkable w seen before d × AreWalkable w seen (before ++ d ∷ []) ds

pub none_granted : (w : Way) (seen : List Coming) (before ds : List Deal) → AllByRecursion IsNoGrant ds → AreWalkable w seen before ds
none_granted w seen before [] k = tt
none_granted w seen before (z0 ∷ ds) k = grind (arith, nat_tests, none_granted w seen (before ++ z0 ∷ []) ds k.1)

pub each_walkable : (w : Way) (seen : List Coming) (before ds : List Deal)
    → ((front : List Deal) (d : Deal) (back : List Deal) → before ++ ds ≡ front ++ d ∷ back → IsWalkable w seen front d)
    → AreWalkable w seen before ds
each_walkable w seen before [] k = tt
each_walkable w seen before (d ∷ ds) k = (
  k before d ds refl,
  each_walkable w seen (before ++ d ∷ []) ds (λ front f back e. k front f back (sym (append_assoc before (d ∷ []) ds) ∙ e)),
)

-- asks are looked for in all that came, and charges in what was met since the router began

module _ (w : Way) (seen met : List Coming) (own earlier : List Deal) (tail : List Deal) (whole : own ≡ earlier ++ tail)
    (rises : Rises (keys own))
    (pays : (before : List Deal) (t : ℕ) (p : PacketData) (after : List Deal) (front : List Coming) (x : Coming) (back : List Coming)
    → own ≡ before ++ Prepared t p ∷ after → met ≡ front ++ x ∷ back
    → p.id ≡ x.packet.id → (c : Charge) → paid_of x ≡ Some c → (ms : List Mile) → last_came ms ≡ grant_came seen [] before
    → charges_in ms ≡ filter_map paid_of front
    → IsPaid w ms t (shape_in p.carried) (counted p) c)
    (paying : AllByRecursion (λ x. is_some (paid_of x) ≡ true) met) where
  -- the miles of the deals so far, with what was charged so far
  pub record Run (before : List Deal) (front : List Coming) : Type 0 where
    pub miles : List Mile
    pub contacts_are : contacts miles ≡ map contact_of before
    pub charges_are : charges_in miles ≡ filter_map paid_of front
    pub are : AreMiles w [] miles
    pub came : last_came miles ≡ grant_came seen [] before
    pub beside : AreBeside met (since_granted [] before) (since_got [] miles)

  pub run_none : Run [] []
  run_none = grind (arith, nat_tests)

  beside_went : (before : List Deal) (ms : List Mile) (t : ℕ) (p : PacketData) (o : Option Charge)
      → AreBeside met (since_granted [] before) (since_got [] ms)
      → IsBeside met (Prepared t p) (Went t (shape_in p.carried) (counted p) o)
      → AreBeside met (since_granted [] (before ++ Prepared t p ∷ [])) (since_got [] (ms ++ Went t (shape_in p.carried) (counted p) o ∷ []))
  beside_went before ms t p o k l = grind (arith, nat_tests, shape_in, counted, since_other, since-went, beside-push)

  beside_got : (before : List Deal) (ms : List Mile) (rights : Rights) (caps : List ℕ) (came : ℕ)
      → AreBeside met (since_granted [] (before ++ Granted rights caps ∷ [])) (since_got [] (ms ++ Got rights caps came ∷ []))
  beside_got before ms rights caps came = grind (arith, nat_tests, since_grant, since-got)

  -- a grant
  got : (before : List Deal) (front : List Coming) (ms : List Mile) (rights : Rights) (caps : List ℕ) (came : ℕ)
      → contacts ms ≡ map contact_of before → charges_in ms ≡ filter_map paid_of front → AreMiles w [] ms → ask_came seen before ≡ Some came
      → AreSomeRights rights → IfSome (asked_at (contacts ms)) (λ (t : Time). ComesIn w t.0 came)
      → Run (before ++ Granted rights caps ∷ []) front
  got before front ms rights caps came same charged are e fine comes =
      let m : Mile = Got rights caps came in
      grind (arith, nat_tests, contacts-push ms m, contact_of (Granted rights caps), map-push before (Granted rights caps), charges-push ms m, append-nil (charges_in ms), miles-push w [] ms m are (fine, comes), came-got ms rights caps came, came-granted seen [] before rights caps came e, beside_got before ms rights caps came)

  -- behind deals without a charge
  pub begun : (first : List Deal) (rights : Rights) (caps : List ℕ) (came : ℕ) (r : Bare w first) → ask_came seen first ≡ Some came
      → AreSomeRights rights → IfSome (asked_at (contacts r.miles)) (λ (t : Time). ComesIn w t.0 came)
      → Run (first ++ Granted rights caps ∷ []) []
  begun first rights caps came r e fine comes = got first [] r.miles rights caps came r.contacts_are r.charges_are r.are e fine comes

  -- behind deals so far
  granted : (before : List Deal) (front : List Coming) (rights : Rights) (caps : List ℕ) (o : Option ℕ) → ask_came seen before ≡ o
      → Run before front → AreSomeRights rights → IsSomeAnd o (λ came. (ms : List Mile) → contacts ms ≡ map contact_of before
      → IfSome (asked_at (contacts ms)) (λ (t : Time). ComesIn w t.0 came)) → Run (before ++ Granted rights caps ∷ []) front
  granted before front rights caps o e r fine k = grind (arith, nat_tests, got)

  -- a packet that was not charged
  skipped : (before : List Deal) (front : List Coming) (t : ℕ) (p : PacketData) → Run before front → (IsCharged met p.id → ⊥)
      → Run (before ++ Prepared t p ∷ []) front
  skipped before front t p r none =
      let m : Mile = Went t (shape_in p.carried) (counted p) None in
      grind (arith, nat_tests, contacts-push r.miles m, contact_of (Prepared t p), map-push before (Prepared t p), charges-push r.miles m, append-nil (charges_in r.miles), miles-push w [] r.miles m r.are tt, came-same r.miles m refl, came-other seen [] before (Prepared t p) tt, beside_went before r.miles t p None r.beside (none, refl))

  -- one that was
  charged_one : (before : List Deal) (front : List Coming) (t : ℕ) (p : PacketData) (x : Coming) (c : Charge) → Run before front
      → paid_of x ≡ Some c → IsSomeAnd (come_as met p.id) (λ y. y.charge ≡ Some c.grant)
      → ((ms : List Mile) → last_came ms ≡ grant_came seen [] before → charges_in ms ≡ filter_map paid_of front
      → IsPaid w ms t (shape_in p.carried) (counted p) c) → Run (before ++ Prepared t p ∷ []) (front ++ x ∷ [])
  charged_one before front t p x c r e found pay =
      let m : Mile = Went t (shape_in p.carried) (counted p) (Some c) in
      let one : c ∷ [] ≡ filter_map paid_of (x ∷ []) = ap (λ (o : Option Charge). cons_option o []) (sym e) in
      record {
        miles = r.miles ++ m ∷ [];
        contacts_are = grind (arith, nat_tests, contacts-push, contact_of, map-push);
        charges_are = charges-push r.miles m ∙ (ap₂ ◌++◌ r.charges_are one ∙ sym (filter_map-append paid_of front (x ∷ [])));
        are = miles-push w [] r.miles m r.are (pay r.miles r.came r.charges_are);
        came = came-same r.miles m refl ∙ (r.came ∙ sym (came-other seen [] before (Prepared t p) tt));
        beside = beside_went before r.miles t p (Some c) r.beside found;
      }

  noticed : (before : List Deal) (front : List Coming) → Run before front → Run (before ++ Noticed ∷ []) front
  noticed before front r = grind (arith, nat_tests, contacts-push r.miles Told, contact_of Noticed, map-push before Noticed, charges-push r.miles Told, append-nil (charges_in r.miles), miles-push w [] r.miles Told r.are tt, came-same r.miles Told refl, came-other seen [] before Noticed tt, since_other [] before Noticed tt, since-told [] r.miles, beside-push met (since_granted [] before) (since_got [] r.miles) Noticed Told r.beside tt)

  -- what was skipped is of no charged packet: those before it were prepared before it, and those behind it behind it
  abbrev IsOther : PacketId → Coming → Type 0
  IsOther id x = x.packet.id ≡ id → ⊥

  front_other : (before : List Deal) (t : ℕ) (p : PacketData) (ds : List Deal) (front : List Coming)
      → Rises (keys (before ++ Prepared t p ∷ ds)) → AllByRecursion (λ x. In before x.packet.id) front
      → AllByRecursion (IsOther p.id) front
  front_other before t p ds [] r a = tt
  front_other before t p ds (x ∷ xs) r a = grind (arith, nat_tests, in_front, front_other before t p ds xs r a.1)

  back_other : (t : ℕ) (p : PacketData) (ds : List Deal) (xs : List Coming) → Rises (keys (Prepared t p ∷ ds))
      → AllByRecursion (λ x. In ds x.packet.id) xs → AllByRecursion (IsOther p.id) xs
  back_other t p ds [] r a = tt
  back_other t p ds (x ∷ xs) r a = grind (arith, nat_tests, in_behind (Prepared t p) ds p.id x.packet.id r refl a.0, back_other t p ds xs r a.1)

  -- nothing came of that identity that was charged
  not_charged : (id : PacketId) → AllByRecursion (IsOther id) (met) → IsCharged met id → ⊥
  not_charged id a = grind (arith, nat_tests, come_is)

  earlier_rises : Rises (keys earlier)
  earlier_rises = grind (arith, nat_tests, rises_front, keys, filter_map-append, deal_key)

  -- the deal at a place, and all that follow
  pub record At (before : List Deal) (front : List Coming) (ds : List Deal) (xs : List Coming) : Type 0 where
    pub here : earlier ≡ before ++ ds
    pub seen_here : met ≡ front ++ xs
    pub run : Run before front
    pub ins : AllByRecursion (λ x. In before x.packet.id) front

  paid_some : (front : List Coming) (x : Coming) (back : List Coming) → met ≡ front ++ x ∷ back → is_some (paid_of x) ≡ true
  paid_some front x back e = at front (subst (AllByRecursion (λ y. is_some (paid_of y) ≡ true)) e paying)
    where
      at : (ys : List Coming) → AllByRecursion (λ y. is_some (paid_of y) ≡ true) (ys ++ x ∷ back) → is_some (paid_of x) ≡ true
      at [] a = a.0
      at (y ∷ ys) a = at ys a.1

  own_here : (before : List Deal) (d : Deal) (ds : List Deal) → earlier ≡ before ++ d ∷ ds → own ≡ before ++ d ∷ (ds ++ tail)
  own_here before d ds here = whole ∙ (ap (λ (es : List Deal). es ++ tail) here ∙ append_assoc before (d ∷ ds) tail)

  -- what came with the identity of one that is matched
  found_so : (before : List Deal) (front : List Coming) (t : ℕ) (p : PacketData) (ds : List Deal) (x : Coming) (xs : List Coming) (c : Charge)
      → At before front (Prepared t p ∷ ds) (x ∷ xs) → p.id ≡ x.packet.id → paid_of x ≡ Some c
      → IsSomeAnd (come_as met p.id) (λ y. y.charge ≡ Some c.grant)
  found_so before front t p ds x xs c a k e = grind (arith, nat_tests, keys, earlier_rises, found_behind, front_other, charge_parts)

  -- a deal that is matched
  step_matched : (before : List Deal) (front : List Coming) (d : Deal) (ds : List Deal) (x : Coming) (xs : List Coming)
      (o : Option Charge) → At before front (d ∷ ds) (x ∷ xs) → IsOf d x.packet.id → paid_of x ≡ o → is_some o ≡ true
      → At (before ++ d ∷ []) (front ++ x ∷ []) ds xs
  step_matched before front (Prepared t p) ds x xs None a k e s = absurd (cc)
  step_matched before front (Prepared t p) ds x xs (Some c) a k e s = record {
    here = a.here ∙ sym (append_assoc before (Prepared t p ∷ []) ds);
    seen_here = a.seen_here ∙ sym (append_assoc front (x ∷ []) xs);
    run = charged_one before front t p x c a.run e (found_so before front t p ds x xs c a k e) (λ ms came charges. pays before t p (ds ++ tail) front x xs
        (own_here before (Prepared t p) ds a.here) a.seen_here k c e ms came charges);
    ins = grind (arith, nat_tests, each-append, each-weaker, in_left, in_last);
  }
  step_matched before front z0 ds x xs o a k e s = search

  -- a deal that is skipped
  step_skipped : (before : List Deal) (front : List Coming) (d : Deal) (ds : List Deal) (xs : List Coming) → IsWalkable w seen before d
      → At before front (d ∷ ds) xs → AreIn ds xs → At (before ++ d ∷ []) front ds xs
  step_skipped before front d ds xs fine a ins = record {
    here = a.here ∙ sym (append_assoc before (d ∷ []) ds);
    seen_here = a.seen_here;
    run = by d a.here fine;
    ins = grind (arith, nat_tests, each-weaker, in_left);
  }
    where
      by : (e : Deal) → earlier ≡ before ++ e ∷ ds → IsWalkable w seen before e → Run (before ++ e ∷ []) front
      by (Prepared t p) here k =
          let all : Rises (keys (before ++ Prepared t p ∷ ds)) = subst (λ (es : List Deal). Rises (keys es)) here earlier_rises in
          skipped before front t p a.run
          (not_charged p.id (subst (AllByRecursion (IsOther p.id)) (sym a.seen_here)
          (each-append (IsOther p.id) front xs (front_other before t p ds front all a.ins)
          (back_other t p ds xs (rises_behind before (Prepared t p ∷ ds) all) ins))))
      by (Granted rights caps) here k = granted before front rights caps (ask_came seen before) refl a.run k.0 k.1
      by Noticed here k = noticed before front a.run

  -- along deals with what is matched with them, up to those behind
  pub along : (before : List Deal) (front : List Coming) (ds : List Deal) (xs : List Coming) (behind : List Deal) (more : List Coming)
      → AreWalkable w seen before ds → At before front (ds ++ behind) (xs ++ more) → Matches ds xs → AreIn behind more
      → At (before ++ ds) (front ++ xs) behind more
  along before front [] z0 behind more fine a m i = grind (arith, nat_tests, append-nil)
  along before front (d ∷ ds) [] behind more fine a m i =
      subst (λ (bs : List Deal). At bs (front ++ []) behind more) (append_assoc before (d ∷ []) ds)
      (along (before ++ d ∷ []) front ds [] behind more fine.1
      (step_skipped before front d (ds ++ behind) more fine.0 a (join_in ds [] behind more m i)) m i)
  along before front (d ∷ ds) (x ∷ xs) behind more fine a (inl m) i =
      subst (λ (bs : List Deal). At bs (front ++ x ∷ xs) behind more) (append_assoc before (d ∷ []) ds)
      (subst (λ (fs : List Coming). At ((before ++ d ∷ []) ++ ds) fs behind more) (append_assoc front (x ∷ []) xs)
      (along (before ++ d ∷ []) (front ++ x ∷ []) ds xs behind more fine.1
      (step_matched before front d (ds ++ behind) x (xs ++ more) (paid_of x) a m.0 refl (paid_some front x (xs ++ more) a.seen_here)) m.1 i))
  along before front (d ∷ ds) (x ∷ xs) behind more fine a (inr m) i =
      subst (λ (bs : List Deal). At bs (front ++ x ∷ xs) behind more) (append_assoc before (d ∷ []) ds)
      (along (before ++ d ∷ []) front ds (x ∷ xs) behind more fine.1
      (step_skipped before front d (ds ++ behind) (x ∷ (xs ++ more)) fine.0 a (join_in ds (x ∷ xs) behind more m i)) m i)

  pub miles_of : (start ds : List Deal) → earlier ≡ start ++ ds → Run start [] → AreWalkable w seen start ds → Matches ds (met)
      → Run earlier (met)
  miles_of start ds here r fine m =
      let first : At start [] (ds ++ []) (met ++ []) =
      record { here = here ∙ ap (λ (es : List Deal). start ++ es) (sym (append-nil ds)); seen_here = sym (append-nil met); run = r; ins = tt } in
      subst (λ (ds : List Deal). Run ds met) (sym here) (along start [] ds met [] [] fine first m tt).run
