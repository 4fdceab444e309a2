-- Asks and grants among deals, as the contacts of a sender have them, and when they came to a router.
use Rattle.tva_laws.proofs.Common.{◌≡◌, ◌⊎◌, inl, inr, ℕ, Bool, true, false, cond, List, [], ◌∷◌, ◌++◌, map, Option, Some, None, refl, ap, ap₂, sym, ◌∙◌, append_assoc, append-nil, option_or, option_map, AllByRecursion, find, eqb-true, same_Some, PacketId, Rights, PacketData, Contact, Ask, Taking, last_taking, asked_at, time, and_true, Deal, Prepared, Granted, Noticed, Coming, asks_in, ask_id, last_ask_id, same_id, come_as, ask_coming, IsNoGrant, ask_came, granted_by, grant_came, arith, nat_tests}
use Rattle.tva_shim.specs.declared.packets.Carried.TheVariants as carried
use Rattle.tva_sender.specs.Contacts as contact
use Rattle.tva_laws.proofs.Dealt.{shape_in, contact_of}

-- ## the last ask

-- an ask with its time
pub record Asked : Type 0 where
  pub time : ℕ
  pub id : PacketId

abbrev asked_in : Deal → Option Asked
asked_in (Prepared t p) = cond (asks_in p.carried) (Some (record { time = t; id = p.id })) None
asked_in (Granted rights caps) = None
asked_in Noticed = None

abbrev pub last_asked : List Deal → Option Asked
last_asked [] = None
last_asked (d ∷ ds) = option_or (last_asked ds) (asked_in d)

map_cond : {X Y : Type 0} (f : X → Y) (b : Bool) (x : X) → option_map f (cond b (Some x) None) ≡ cond b (Some (f x)) None
map_cond f b x = grind (arith, nat_tests)

map_or : {X Y : Type 0} (f : X → Y) (o p : Option X) → option_map f (option_or o p) ≡ option_or (option_map f o) (option_map f p)
map_or f o p = grind (arith, nat_tests)

asked_id : (d : Deal) → ask_id d ≡ option_map (λ (a : Asked). a.id) (asked_in d)
asked_id d = grind (arith, nat_tests)

pub last_id : (ds : List Deal) → last_ask_id ds ≡ option_map (λ (a : Asked). a.id) (last_asked ds)
last_id [] = refl
last_id (d ∷ ds) = ap₂ option_or (last_id ds) (asked_id d) ∙ sym (map_or (λ (a : Asked). a.id) (last_asked ds) (asked_in d))

asked_time : (d : Deal) (after : List Contact) → option_map (λ (a : Ask). time a.time) (contact.ask_in (contact_of d) after)
    ≡ option_map (λ (a : Asked). time a.time) (asked_in d)
asked_time d after = grind (arith, nat_tests, shape_in)

pub last_time : (ds : List Deal) → asked_at (map contact_of ds) ≡ option_map (λ (a : Asked). time a.time) (last_asked ds)
last_time [] = refl
last_time (d ∷ ds) = grind (arith, nat_tests, map_or, contact_of, asked_time, last_time ds)

-- where it was prepared
pub record AskedAt (ds : List Deal) (a : Asked) : Type 0 where
  pub before : List Deal
  pub packet : PacketData
  pub after : List Deal
  pub is : ds ≡ before ++ Prepared a.time packet ∷ after
  pub same : packet.id ≡ a.id

asked_cond : (b : Bool) (t : ℕ) (p : PacketData) (ds : List Deal) (a : Asked)
    → cond b (Some (let x : Asked = record { time = t; id = p.id } in x)) None ≡ Some a → AskedAt (Prepared t p ∷ ds) a
asked_cond true t p ds a e =
    let x : Asked = record { time = t; id = p.id } in
    let same = same_Some x a e in
    record {
      before = [];
      packet = p;
      after = ds;
      is = ap (λ (y : Asked). Prepared y.time p ∷ ds) same;
      same = search;
    }
asked_cond false t p ds a e = absurd (cc)

asked_here : (d : Deal) (ds : List Deal) (a : Asked) → asked_in d ≡ Some a → AskedAt (d ∷ ds) a
asked_here d ds a e = grind (arith, nat_tests, asked_cond)

asked_or : (d : Deal) (ds : List Deal) (a : Asked) (o : Option Asked) → ((b : Asked) → o ≡ Some b → AskedAt ds b)
    → option_or o (asked_in d) ≡ Some a → AskedAt (d ∷ ds) a
asked_or d ds a None k e = asked_here d ds a e
asked_or d ds a (Some b) k e =
    let p = k a e in
    record { before = d ∷ p.before; packet = p.packet; after = p.after; is = ap (λ (xs : List Deal). d ∷ xs) p.is; same = p.same }

pub asked_place : (ds : List Deal) (a : Asked) → last_asked ds ≡ Some a → AskedAt ds a
asked_place [] a e = absurd (cc)
asked_place (d ∷ ds) a e = asked_or d ds a (last_asked ds) (λ b k. asked_place ds b k) e

-- ## what came

pub id_is : (a b : PacketId) → same_id a b ≡ true → a ≡ b
id_is a b e = grind (arith, nat_tests, and_true, eqb-true)

found_here : (p : Coming → Bool) (P : Coming → Type 0) (x y : Coming) (xs : List Coming) (b : Bool) → p x ≡ b → P x
    → (find p xs ≡ Some y → P y × (p y ≡ true)) → cond b (Some x) (find p xs) ≡ Some y → P y × (p y ≡ true)
found_here p P x y xs b is k rest e = grind (arith, nat_tests, same_Some)

found : (p : Coming → Bool) (P : Coming → Type 0) (xs : List Coming) (y : Coming) → AllByRecursion P xs → find p xs ≡ Some y → P y
    × (p y ≡ true)
found p P [] y a e = absurd (cc)
found p P (x ∷ xs) y a e = found_here p P x y xs (p x) refl a.0 (found p P xs y a.1) e

-- what came with an identity
pub come_is : (P : Coming → Type 0) (seen : List Coming) (id : PacketId) (y : Coming) → AllByRecursion P seen → come_as seen id ≡ Some y
    → P y × (y.packet.id ≡ id)
come_is P seen id y a e = let k = found (λ x. same_id x.packet.id id) P seen y a e in (k.0, id_is y.packet.id id k.1)

all_units : (xs : List Coming) → AllByRecursion (λ (x : Coming). Unit {0}) xs
all_units [] = tt
all_units (x ∷ xs) = (tt, all_units xs)

pub come_id : (seen : List Coming) (id : PacketId) (y : Coming) → come_as seen id ≡ Some y → y.packet.id ≡ id
come_id seen id y e = (come_is (λ (x : Coming). Unit {0}) seen id y (all_units seen) e).1

-- ## the ask of the last grant

-- when the ask of a grant that is taken next came
pub came-granted : (seen : List Coming) (before ds : List Deal) (rights : Rights) (caps : List ℕ) (came : ℕ)
    → ask_came seen (before ++ ds) ≡ Some came
    → grant_came seen before (ds ++ Granted rights caps ∷ []) ≡ Some came
came-granted seen before [] rights caps came e = ap (ask_came seen) (sym (append-nil before)) ∙ e
came-granted seen before (d ∷ ds) rights caps came e = grind (arith, nat_tests, append_assoc, came-granted seen (before ++ d ∷ []) ds rights caps came (ap (ask_came seen) (append_assoc before (d ∷ []) ds) ∙ e))

no_grant : (seen : List Coming) (before : List Deal) (d : Deal) → IsNoGrant d → granted_by seen before d ≡ None
no_grant seen before d k = grind (arith, nat_tests)

-- and anything else changes nothing
pub came-other : (seen : List Coming) (before ds : List Deal) (d : Deal) → IsNoGrant d
    → grant_came seen before (ds ++ d ∷ []) ≡ grant_came seen before ds
came-other seen before [] d k = no_grant seen before d k
came-other seen before (x ∷ ds) d k = search (came-other seen (before ++ x ∷ []) ds d k)

-- nor do deals without a grant
pub came-under : (seen : List Coming) (first under : List Deal) → AllByRecursion IsNoGrant under
    → grant_came seen [] (first ++ under) ≡ grant_came seen [] first
came-under seen first [] k = ap (grant_came seen []) (append-nil first)
came-under seen first (d ∷ ds) k = grind (arith, nat_tests, append_assoc, came-other, came-under seen (first ++ d ∷ []) ds k.1)

-- the last grant among deals
pub record LastAt (ds : List Deal) : Type 0 where
  pub first : List Deal
  pub rights : Rights
  pub caps : List ℕ
  pub under : List Deal
  pub is : ds ≡ first ++ Granted rights caps ∷ under
  pub none : AllByRecursion IsNoGrant under

split_by : (d : Deal) (ds : List Deal) → AllByRecursion IsNoGrant ds ⊎ LastAt ds → AllByRecursion IsNoGrant (d ∷ ds) ⊎ LastAt (d ∷ ds)
split_by (Prepared t p) ds (inl n) = inl (tt, n)
split_by (Granted rights caps) ds (inl n) =
    inr (record { first = []; rights = rights; caps = caps; under = ds; is = refl; none = n })
split_by Noticed ds (inl n) = inl (tt, n)
split_by d ds (inr l) =
    inr (record {
      first = d ∷ l.first;
      rights = l.rights;
      caps = l.caps;
      under = l.under;
      is = ap (λ (xs : List Deal). d ∷ xs) l.is;
      none = l.none;
    })

pub split_last : (ds : List Deal) → AllByRecursion IsNoGrant ds ⊎ LastAt ds
split_last [] = inl tt
split_last (d ∷ ds) = split_by d ds (split_last ds)

-- what stands behind the last grant
pub behind_last : (ds : List Deal) (l : LastAt ds) (tail : List Deal)
    → ds ++ tail ≡ (l.first ++ Granted l.rights l.caps ∷ []) ++ (l.under ++ tail)
behind_last ds l tail = grind (arith, nat_tests, append_assoc)

-- when its ask came
pub came-last : (seen : List Coming) (ds : List Deal) (l : LastAt ds) (came : ℕ) → ask_came seen l.first ≡ Some came
    → grant_came seen [] ds ≡ Some came
came-last seen ds l came e = search (append_assoc l.first (Granted l.rights l.caps ∷ []) l.under, came-under seen (l.first ++ Granted l.rights l.caps ∷ []) l.under l.none, came-granted seen [] l.first l.rights l.caps came e)

-- when an ask came, what came for it
pub record CameFor (seen : List Coming) (ds : List Deal) (came : ℕ) : Type 0 where
  pub asked : Asked
  pub coming : Coming
  pub last : last_asked ds ≡ Some asked
  pub found : come_as seen asked.id ≡ Some coming
  pub time : coming.time ≡ came

pub ask_is : (seen : List Coming) (ds : List Deal) (came : ℕ) → ask_came seen ds ≡ Some came → CameFor seen ds came
ask_is seen ds came e = grind (arith, nat_tests, last_id ds)

pub coming_is : (seen : List Coming) (ds : List Deal) (came : ℕ) (c : CameFor seen ds came) → ask_coming seen ds ≡ Some c.coming
coming_is seen ds came c = grind (arith, nat_tests, last_id ds)

-- ## the rights of the last grant

abbrev rights_in : Deal → Option Rights
rights_in (Prepared time packet) = None
rights_in (Granted rights caps) = Some rights
rights_in Noticed = None

abbrev pub last_rights : List Deal → Option Rights
last_rights [] = None
last_rights (d ∷ ds) = option_or (last_rights ds) (rights_in d)

rights_other : (d : Deal) → IsNoGrant d → rights_in d ≡ None
rights_other d k = grind (arith, nat_tests)

pub rights_none : (ds : List Deal) → AllByRecursion IsNoGrant ds → last_rights ds ≡ None
rights_none [] k = refl
rights_none (d ∷ ds) k = ap₂ option_or (rights_none ds k.1) (rights_other d k.0)

-- where no other is behind it
pub rights-under : (first : List Deal) (rights : Rights) (caps : List ℕ) (under : List Deal) → AllByRecursion IsNoGrant under
    → last_rights (first ++ Granted rights caps ∷ under) ≡ Some rights
rights-under [] rights caps under k = ap (λ (o : Option Rights). option_or o (Some rights)) (rights_none under k)
rights-under (d ∷ ds) rights caps under k = ap (λ (o : Option Rights). option_or o (rights_in d)) (rights-under ds rights caps under k)

pub last_rights_are : (before : List Contact) (ds : List Deal)
    → option_map (λ (t : Taking). t.rights) (last_taking before (map contact_of ds)) ≡ last_rights ds
last_rights_are before [] = refl
last_rights_are before (d ∷ ds) = grind (arith, nat_tests, map_or, contact_of, last_rights_are (before ++ contact_of d ∷ []) ds)
