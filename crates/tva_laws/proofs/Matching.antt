-- What came in the order in which it was prepared is matched with what was prepared, one by one.
use Rattle.tva_laws.proofs.Common.{◌≡◌, ◌<◌, ◌⊎◌, inl, inr, ℕ, Bool, true, cond, refl, List, [], ◌∷◌, ◌++◌, Option, Some, ap, subst, arith, filter, AllByRecursion, filter_map, cons_option, PacketId, Rights, PacketData, each-append, each-weaker, Deal, Prepared, Granted, Noticed, Coming, nat_tests}
use Rattle.std.specs.Prelude.{map}
use Rattle.tva_laws.proofs.RisingLists.{Rises, each_rest, rises_rest}
use Rattle.tva_laws.proofs.Hosts.{deal_key}

-- the packet of that identity was prepared
abbrev pub IsOf : Deal → PacketId → Type 0
IsOf (Prepared time packet) id = packet.id ≡ id
IsOf (Granted rights caps) id = ⊥
IsOf Noticed id = ⊥

abbrev pub In : List Deal → PacketId → Type 0
In [] id = ⊥
In (d ∷ ds) id = IsOf d id ⊎ In ds id

abbrev pub come_key : Coming → ℕ
come_key x = x.packet.id.ordinal

abbrev pub keys : List Deal → List ℕ
keys ds = filter_map deal_key ds

pub in_place : (before : List Deal) (time : ℕ) (packet : PacketData) (after : List Deal) (id : PacketId) → packet.id ≡ id
    → In (before ++ Prepared time packet ∷ after) id
in_place [] time packet after id e = inl e
in_place (d ∷ ds) time packet after id e = inr (in_place ds time packet after id e)

pub in_append : (xs ys : List Deal) (id : PacketId) → In (xs ++ ys) id → In xs id ⊎ In ys id
in_append [] ys id k = inr k
in_append (x ∷ xs) ys id (inl k) = inl (inl k)
in_append (x ∷ xs) ys id (inr k) = elim (in_append xs ys id k) [ inl a ↦ inl (inr a) | inr b ↦ inr b ]

pub in_left : (xs ys : List Deal) (id : PacketId) → In xs id → In (xs ++ ys) id
in_left [] ys id k = absurd k
in_left (x ∷ xs) ys id (inl k) = inl k
in_left (x ∷ xs) ys id (inr k) = inr (in_left xs ys id k)

pub in_right : (xs ys : List Deal) (id : PacketId) → In ys id → In (xs ++ ys) id
in_right [] ys id k = k
in_right (x ∷ xs) ys id k = inr (in_right xs ys id k)

pub in_last : (xs : List Deal) (d : Deal) (id : PacketId) → IsOf d id → In (xs ++ d ∷ []) id
in_last [] d id k = inl k
in_last (x ∷ xs) d id k = inr (in_last xs d id k)

is_key : (d : Deal) (id : PacketId) → IsOf d id → deal_key d ≡ Some id.ordinal
is_key d id k = grind (arith, nat_tests)

-- what holds of each key holds of what is in
pub in_each : (P : ℕ → Type 0) (ds : List Deal) (id : PacketId) → In ds id → AllByRecursion P (keys ds) → P id.ordinal
in_each P [] id k a = absurd k
in_each P (d ∷ ds) id (inl k) a = (subst (λ (o : Option ℕ). AllByRecursion P (cons_option o (keys ds))) (is_key d id k) a).0
in_each P (d ∷ ds) id (inr k) a = in_each P ds id k (each_rest P (deal_key d) (keys ds) a)

-- what is behind has a greater ordinal
pub in_behind : (d : Deal) (ds : List Deal) (i j : PacketId) → Rises (keys (d ∷ ds)) → IsOf d i → In ds j → i.ordinal < j.ordinal
in_behind d ds i j r k l = grind (arith, nat_tests, in_each, is_key)

-- what is in front has a smaller one
pub in_front : (before : List Deal) (t : ℕ) (p : PacketData) (after : List Deal) (id : PacketId)
    → Rises (keys (before ++ Prepared t p ∷ after)) → In before id → id.ordinal < p.id.ordinal
in_front [] t p after id r k = absurd k
in_front (b ∷ bs) t p after id r (inl k) = grind (arith, nat_tests, in_behind b (bs ++ Prepared t p ∷ after) id p.id r k (in_place bs t p after p.id refl), in_place bs t p after p.id refl)
in_front (b ∷ bs) t p after id r (inr k) = grind (arith, nat_tests, rises_rest, deal_key, in_front bs t p after id (rises_rest (deal_key b) (keys (bs ++ Prepared t p ∷ after)) r) k)

-- ## matching

abbrev pub Matches : List Deal → List Coming → Type 0
Matches [] [] = Unit {0}
Matches [] (x ∷ xs) = ⊥
Matches (d ∷ ds) [] = Matches ds []
Matches (d ∷ ds) (x ∷ xs) = (IsOf d x.packet.id × Matches ds xs) ⊎ Matches ds (x ∷ xs)

none_match : (ds : List Deal) → Matches ds []
none_match [] = tt
none_match (d ∷ ds) = none_match ds

abbrev pub AreIn : List Deal → List Coming → Type 0
AreIn ds xs = AllByRecursion (λ x. In ds x.packet.id) xs

-- those behind the first are behind its deal
behind_match : (d : Deal) (ds : List Deal) (i : PacketId) (xs : List Coming) → IsOf d i → AllByRecursion (λ n. i.ordinal < n)
    (map come_key xs) → AreIn (d ∷ ds) xs → AreIn ds xs
behind_match d ds i [] k a l = tt
behind_match d ds i (x ∷ xs) k a l = grind (arith, nat_tests, is_key, behind_match d ds i xs k a.1 l.1)

-- those behind one that is behind a deal are behind it too
past_match : (d : Deal) (ds : List Deal) (i : PacketId) (xs : List Coming) → Rises (keys (d ∷ ds)) → In ds i
    → AllByRecursion (λ n. i.ordinal < n) (map come_key xs) → AreIn (d ∷ ds) xs → AreIn ds xs
past_match d ds i [] r k a l = tt
past_match d ds i (x ∷ xs) r k a l = grind (arith, nat_tests, in_behind, past_match d ds i xs r k a.1 l.1)

match_by : (d : Deal) (ds : List Deal) (x : Coming) (xs : List Coming) → (AreIn ds xs → Matches ds xs)
    → (AreIn ds (x ∷ xs) → Matches ds (x ∷ xs)) → Rises (keys (d ∷ ds)) → Rises (map come_key (x ∷ xs))
    → In (d ∷ ds) x.packet.id → AreIn (d ∷ ds) xs → Matches (d ∷ ds) (x ∷ xs)
match_by d ds x xs front back r s h8 a = grind (arith, nat_tests, behind_match, past_match)

pub matched : (ds : List Deal) (xs : List Coming) → Rises (keys ds) → Rises (map come_key xs) → AreIn ds xs → Matches ds xs
matched ds [] r s a = none_match ds
matched [] (x ∷ xs) r s a = absurd a.0
matched (d ∷ ds) (x ∷ xs) r s a =
    let rest : Rises (keys ds) = rises_rest (deal_key d) (keys ds) r in
    match_by d ds x xs (λ b. matched ds xs rest s.1 b) (λ b. matched ds (x ∷ xs) rest s b) r s a.0 a.1

pub matches_in : (ds : List Deal) (xs : List Coming) → Matches ds xs → AreIn ds xs
matches_in ds [] m = tt
matches_in [] (x ∷ xs) m = absurd m
matches_in (d ∷ ds) (x ∷ xs) (inl m) = grind (arith, nat_tests, each-weaker, matches_in ds xs m.1)
matches_in (d ∷ ds) (x ∷ xs) (inr m) = grind (arith, nat_tests, each-weaker, matches_in ds (x ∷ xs) m)

-- what is matched, and what is in deals behind
pub join_in : (ds : List Deal) (xs : List Coming) (behind : List Deal) (more : List Coming) → Matches ds xs → AreIn behind more
    → AreIn (ds ++ behind) (xs ++ more)
join_in ds xs behind more m i = grind (arith, nat_tests, each-append, each-weaker, in_left, matches_in, in_right) steps 800000

-- where what is in was prepared
pub record InAt (ds : List Deal) (id : PacketId) : Type 0 where
  pub before : List Deal
  pub time : ℕ
  pub packet : PacketData
  pub after : List Deal
  pub is : ds ≡ before ++ Prepared time packet ∷ after
  pub same : packet.id ≡ id

pub in_at : (ds : List Deal) (id : PacketId) → In ds id → InAt ds id
in_at [] id k = absurd k
in_at (Prepared t p ∷ ds) id (inl k) = record { before = []; time = t; packet = p; after = ds; is = refl; same = k }
in_at (Granted rights caps ∷ ds) id (inl k) = absurd k
in_at (Noticed ∷ ds) id (inl k) = absurd k
in_at (d ∷ ds) id (inr k) =
    let a = in_at ds id k in
    record {
      before = d ∷ a.before;
      time = a.time;
      packet = a.packet;
      after = a.after;
      is = ap (λ (es : List Deal). d ∷ es) a.is;
      same = a.same;
    }

-- what is matched before a grant, and behind it
pub record SplitMatch (first under : List Deal) (xs : List Coming) : Type 0 where
  pub before : List Coming
  pub after : List Coming
  pub is : xs ≡ before ++ after
  pub front : Matches first before
  pub back : Matches under after

pub split_match : (first under : List Deal) (rights : Rights) (caps : List ℕ) (xs : List Coming) → Matches (first ++ Granted rights caps ∷ under) xs
    → SplitMatch first under xs
split_match [] under rights caps z0 m = grind (arith, nat_tests)
split_match (d ∷ ds) under rights caps [] m = grind (arith, nat_tests, split_match ds under rights caps [] m)
split_match (d ∷ ds) under rights caps (x ∷ xs) (inl m) =
    let s = split_match ds under rights caps xs m.1 in
    record {
      before = x ∷ s.before;
      after = s.after;
      is = ap (λ (ys : List Coming). x ∷ ys) s.is;
      front = inl (m.0, s.front);
      back = s.back;
    }
split_match (d ∷ ds) under rights caps (x ∷ xs) (inr m) = grind (arith, nat_tests, split_match ds under rights caps (x ∷ xs) m)

-- keys of those that pass
pub keys_passing : (Q : ℕ → Type 0) (p : Coming → Bool) (xs : List Coming) → AllByRecursion Q (map come_key xs)
    → AllByRecursion Q (map come_key (filter p xs))
keys_passing Q p [] k = tt
keys_passing Q p (x ∷ xs) k = grind (arith, nat_tests, keys_passing Q p xs k.1)

pub rises_passing : (p : Coming → Bool) (xs : List Coming) → Rises (map come_key xs) → Rises (map come_key (filter p xs))
rises_passing p [] r = tt
rises_passing p (x ∷ xs) r = by (rises_passing p xs r.1) (keys_passing (λ n. come_key x < n) p xs r.0) (p x)
  where
    by : Rises (map come_key (filter p xs)) → AllByRecursion (λ n. come_key x < n) (map come_key (filter p xs)) → (b : Bool)
        → Rises (map come_key (cond b (x ∷ filter p xs) (filter p xs)))
    by ih later b = grind (arith, nat_tests)

-- ## those that were charged came in order

-- in order, and before the last
abbrev pub AreBefore : Coming → List ℕ → Type 0
AreBefore x ns = Rises ns × AllByRecursion (λ n. n < come_key x) ns

pub keys_push : (xs : List Coming) (x : Coming) → map come_key (xs ++ x ∷ []) ≡ map come_key xs ++ come_key x ∷ []
keys_push [] x = refl
keys_push (y ∷ ys) x = ap (λ (ns : List ℕ). come_key y ∷ ns) (keys_push ys x)

-- those that came before were prepared before
pub prepared_before : (earlier : List Deal) (t : ℕ) (q : PacketData) (after : List Deal) (x : Coming) (ys : List Coming)
    → q.id ≡ x.packet.id → Rises (keys (Prepared t q ∷ after))
    → AllByRecursion (λ y. In (earlier ++ Prepared t q ∷ after) y.packet.id) ys → AllByRecursion (λ n. n < come_key x) (map come_key ys)
    → AreIn earlier ys
prepared_before earlier t q after x [] same r a b = tt
prepared_before earlier t q after x (y ∷ ys) same r a b =
    (by (in_append earlier (Prepared t q ∷ after) y.packet.id a.0), prepared_before earlier t q after x ys same r a.1 b.1)
  where
    less : come_key y < come_key x
    less = b.0

    own : q.id.ordinal ≡ x.packet.id.ordinal
    own = ap (λ (i : PacketId). i.ordinal) same

    by : In earlier y.packet.id ⊎ In (Prepared t q ∷ after) y.packet.id → In earlier y.packet.id
    by (inl k) = k
    by (inr (inl k)) = grind (arith, nat_tests, less, own)
    by (inr (inr k)) = absurd (let more = in_behind (Prepared t q) after q.id y.packet.id r refl k in omega (arith, less, own, more))

pub rises_behind : (before ds : List Deal) → Rises (keys (before ++ ds)) → Rises (keys ds)
rises_behind [] ds r = r
rises_behind (b ∷ bs) ds r = rises_behind bs ds (rises_rest (deal_key b) (keys (bs ++ ds)) r)

pub key_kept : (Q : ℕ → Type 0) (q : Coming → Bool) (xs : List Coming) → AllByRecursion Q (map come_key (filter q xs))
    → AllByRecursion (λ x. q x ≡ true → Q (come_key x)) xs
key_kept Q q [] k = tt
key_kept Q q (x ∷ xs) k = by (λ l. key_kept Q q xs l) (q x) k
  where
    by : (AllByRecursion Q (map come_key (filter q xs)) → AllByRecursion (λ y. q y ≡ true → Q (come_key y)) xs) → (b : Bool)
        → AllByRecursion Q (map come_key (cond b (x ∷ filter q xs) (filter q xs)))
        → (b ≡ true → Q (come_key x)) × AllByRecursion (λ y. q y ≡ true → Q (come_key y)) xs
    by ih b l = grind (arith, nat_tests)
