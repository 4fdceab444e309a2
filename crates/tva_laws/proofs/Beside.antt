-- The miles since a grant, or since a notice, stand beside the deals since it: each packet with its charge.
use Rattle.tva_laws.proofs.Common.{◌≡◌, ℕ, true, leb, List, [], ◌∷◌, ◌++◌, is_some, Option, Some, None, refl, ap, sym, ◌∙◌, append_assoc, append-nil, IsSomeAnd, option_and_then, unwrap_or, IfSome, AllByRecursion, Grant, PacketId, Rights, Carried, uses_in, Mile, Went, Got, Told, charges_in, after_told, since_notified, AreAuthorised, Deal, Prepared, Granted, Noticed, Coming, shows, come_as, charged_since, after_noticed, since_noticed, IsNoGrant, WasCharged, since_granted, arith, nat_tests}
use Rattle.tva_shim.specs.declared.packets.Carried.TheVariants as carried
use Rattle.tva_sender.specs.Contacts as contact
use Rattle.tva_laws.proofs.Dealt.{shape_of_kind, shape_in}
use Rattle.tva_laws.proofs.Asks.{LastAt}
use Rattle.tva_laws.proofs.Comings.{find_passing}

-- a packet of the identity was charged
abbrev pub IsCharged : List Coming → PacketId → Type 0
IsCharged seen id = is_some (option_and_then (λ (x : Coming). x.charge) (come_as seen id)) ≡ true

-- a packet without a charge was not charged, and has its shape; one with a charge was charged to its grant
abbrev pub IsBeside : List Coming → Deal → Mile → Type 0
IsBeside seen (Prepared t p) (Went sent s bytes None) = (IsCharged seen p.id → ⊥) × (s ≡ shape_in p.carried)
IsBeside seen (Prepared t p) (Went sent s bytes (Some c)) = IsSomeAnd (come_as seen p.id) (λ y. y.charge ≡ Some c.grant)
IsBeside seen (Prepared t p) (Got rights caps came) = ⊥
IsBeside seen (Prepared t p) Told = ⊥
IsBeside seen (Granted rights caps) (Went sent s bytes o) = ⊥
IsBeside seen (Granted rights caps) (Got r cs came) = Unit {0}
IsBeside seen (Granted rights caps) Told = ⊥
IsBeside seen Noticed (Went sent s bytes o) = ⊥
IsBeside seen Noticed (Got rights caps came) = ⊥
IsBeside seen Noticed Told = Unit {0}

abbrev pub AreBeside : List Coming → List Deal → List Mile → Type 0
AreBeside seen [] [] = Unit {0}
AreBeside seen [] (m ∷ ms) = ⊥
AreBeside seen (d ∷ ds) [] = ⊥
AreBeside seen (d ∷ ds) (m ∷ ms) = IsBeside seen d m × AreBeside seen ds ms

pub beside-push : (seen : List Coming) (ds : List Deal) (ms : List Mile) (d : Deal) (m : Mile) → AreBeside seen ds ms → IsBeside seen d m
    → AreBeside seen (ds ++ d ∷ []) (ms ++ m ∷ [])
beside-push seen [] z0 d m k l = grind (arith, nat_tests)
beside-push seen (e ∷ es) [] d m k l = absurd k
beside-push seen (e ∷ es) (n ∷ ns) d m k l = (k.0, beside-push seen es ns d m k.1 l)

-- those since a notice stand beside each other too
abbrev BothBeside : List Coming → Option (List Deal) → Option (List Mile) → Type 0
BothBeside seen None None = Unit {0}
BothBeside seen None (Some ms) = ⊥
BothBeside seen (Some ds) None = ⊥
BothBeside seen (Some ds) (Some ms) = AreBeside seen ds ms

after_beside : (seen : List Coming) (ds : List Deal) (ms : List Mile) → AreBeside seen ds ms
    → BothBeside seen (after_noticed ds) (after_told ms)
after_beside seen [] z0 k = grind (arith, nat_tests)
after_beside seen (d ∷ ds) [] k = absurd k
after_beside seen (z0 ∷ ds) (z1 ∷ ms) k = grind (arith, nat_tests, after_beside seen ds ms k.1)

noticed_by : (seen : List Coming) (ds : List Deal) (ms : List Mile) (o : Option (List Deal)) (p : Option (List Mile))
    → BothBeside seen o p → AreBeside seen ds ms → AreBeside seen (unwrap_or o ds) (unwrap_or p ms)
noticed_by seen ds ms o p k l = grind (arith, nat_tests)

pub noticed_beside : (seen : List Coming) (ds : List Deal) (ms : List Mile) → AreBeside seen ds ms
    → AreBeside seen (since_noticed ds) (since_notified ms)
noticed_beside seen ds ms k = noticed_by seen ds ms (after_noticed ds) (after_told ms) (after_beside seen ds ms k) k

-- one more deal since the last grant
one_since : (own : List Deal) (d : Deal) → IsNoGrant d → since_granted own (d ∷ []) ≡ own ++ d ∷ []
one_since own d k = grind (arith, nat_tests)

pub since_other : (own ds : List Deal) (d : Deal) → IsNoGrant d → since_granted own (ds ++ d ∷ []) ≡ since_granted own ds ++ d ∷ []
since_other own [] d k = one_since own d k
since_other own (z0 ∷ ds) d k = grind (arith, nat_tests, since_other (own ++ z0 ∷ []) ds d k, since_other [] ds d k)

pub since_grant : (own ds : List Deal) (rights : Rights) (caps : List ℕ) → since_granted own (ds ++ Granted rights caps ∷ []) ≡ []
since_grant own [] rights caps = refl
since_grant own (z0 ∷ ds) rights caps = grind (arith, nat_tests, since_grant (own ++ z0 ∷ []) ds rights caps, since_grant [] ds rights caps)

unused : (t bytes : ℕ) (c : Carried) → (shows c ≡ true → ⊥) → uses_in (contact.Prepared t (shape_in c) bytes) ≡ []
unused t bytes c k = grind (arith, nat_tests, shape_of_kind)

-- where those that show a grant were charged, their miles are authorised
pub authorised : (seen : List Coming) (ds : List Deal) (ms : List Mile) → AreBeside seen ds ms → AllByRecursion (WasCharged seen) ds
    → AreAuthorised ms
authorised seen z0 [] k a = search
authorised seen [] (m ∷ ms) k a = absurd k
authorised seen (z0 ∷ ds) (z1 ∷ ms) k a = grind (arith, nat_tests, unused, authorised seen ds ms k.1 a.1)

-- what was charged to a grant of no earlier second is found among what was
found_since : (s : ℕ) (g h : Grant) (met : List Coming) (id : PacketId) (o : Option Coming) → leb s g.second ≡ true → h ≡ g
    → come_as met id ≡ o → IsSomeAnd o (λ y. y.charge ≡ Some h)
    → is_some (option_and_then (λ (x : Coming). x.charge) (come_as (charged_since s met) id)) ≡ true
found_since s g h met id o late same e k = grind (arith, nat_tests, find_passing)

pub since_known : (s : ℕ) (g : Grant) → leb s g.second ≡ true → (met : List Coming) (ds : List Deal) (ms : List Mile) → AreBeside met ds ms
    → AllByRecursion (λ c. c.grant ≡ g) (charges_in ms) → AllByRecursion (WasCharged met) ds → AllByRecursion (WasCharged (charged_since s met)) ds
since_known s g late met [] z0 k c a = search
since_known s g late met (d ∷ ds) [] k c a = absurd k
since_known s g late met (Prepared t p ∷ ds) (Went sent r bytes None ∷ ms) k c a = grind (arith, nat_tests, since_known s g late met ds ms k.1 c a.1)
since_known s g late met (Prepared t p ∷ ds) (Went sent r bytes (Some d) ∷ ms) k c a = search (found_since s g d.grant met p.id (come_as met p.id) late c.0 refl k.0, since_known s g late met ds ms k.1 c.1 a.1)
since_known s g late met (Prepared t p ∷ ds) (Got rights caps came ∷ ms) k c a = absurd k.0
since_known s g late met (Prepared t p ∷ ds) (Told ∷ ms) k c a = absurd k.0
since_known s g late met (Granted rights caps ∷ ds) (Went sent r bytes o ∷ ms) k c a = absurd k.0
since_known s g late met (Granted rights caps ∷ ds) (Got q cs came ∷ ms) k c a = (tt, since_known s g late met ds ms k.1 c a.1)
since_known s g late met (Granted rights caps ∷ ds) (Told ∷ ms) k c a = absurd k.0
since_known s g late met (Noticed ∷ ds) (Went sent r bytes o ∷ ms) k c a = absurd k.0
since_known s g late met (Noticed ∷ ds) (Got rights caps came ∷ ms) k c a = absurd k.0
since_known s g late met (Noticed ∷ ds) (Told ∷ ms) k c a = (tt, since_known s g late met ds ms k.1 c a.1)

-- what holds of all deals holds of those since a notice
each_noticed : (P : Deal → Type 0) (ds : List Deal) → AllByRecursion P ds → IfSome (after_noticed ds) (AllByRecursion P)
each_noticed P [] k = tt
each_noticed P (Prepared t p ∷ ds) k = each_noticed P ds k.1
each_noticed P (Granted rights caps ∷ ds) k = each_noticed P ds k.1
each_noticed P (Noticed ∷ ds) k = k.1

each_since_by : (P : Deal → Type 0) (ds : List Deal) (o : Option (List Deal)) → IfSome o (AllByRecursion P) → AllByRecursion P ds
    → AllByRecursion P (unwrap_or o ds)
each_since_by P ds o k l = grind (arith, nat_tests)

pub each_since : (P : Deal → Type 0) (ds : List Deal) → AllByRecursion P ds → AllByRecursion P (since_noticed ds)
each_since P ds k = each_since_by P ds (after_noticed ds) (each_noticed P ds k) k

-- all those behind a place without a grant
pub since_under : (first under : List Deal) → AllByRecursion IsNoGrant under → since_granted [] (first ++ under) ≡ since_granted [] first ++ under
since_under first [] k = ap (since_granted []) (append-nil first) ∙ sym (append-nil (since_granted [] first))
since_under first (d ∷ ds) k = grind (arith, nat_tests, append_assoc, since_other, since_under (first ++ d ∷ []) ds k.1)

-- those since the last grant
pub since_last : (ds : List Deal) (l : LastAt ds) → since_granted [] ds ≡ l.under
since_last ds l = search (append_assoc l.first (Granted l.rights l.caps ∷ []) l.under, since_under (l.first ++ Granted l.rights l.caps ∷ []) l.under l.none, since_grant [] l.first l.rights l.caps)
