-- From mile to mile.
use Rattle.tva_laws.proofs.Common.{◌≡◌, ◌≤◌, ◌<◌, inl, inr, ap₂, ℕ, ◌+◌, ◌-◌, ◌*◌, Bool, true, false, not, ◌&&◌, cond, ltb, leb, List, [], ◌∷◌, ◌++◌, Option, Some, None, refl, ap, sym, subst, ◌∙◌, arith, append_assoc, append-nil, IsSomeAnd, sum_by, AllByRecursion, option_map, unwrap_or, IfSome, nat_tests, Grant, Rights, Time, router_second, AreSomeRights, Valid, Charge, last_or, last_charge, and_true, Held, Shape, Peer, Contact, Taken, Ask, asks, Taking, taking_in, last_taking, last_ask, time, Use, uses, since_notice, first_nonce, life_of, grant_of, asked_at, grant_held, awaits, list_length, nonce_length, length_of, fits, is_alive, nonce_of, held, may_ask, time_of, is_open, last_taking-push, Mile, Went, Got, Told, contact_in, contacts, paid_in, charges_in, last_came, Way, ComesIn, grant_at, checked, IsMile, AreMiles, AreAuthorised}
use Rattle.tva_caps.proofs.Lasts.{lasts}
use Rattle.tva_sender.specs.declared.shape.Shape.TheVariants as shape
use Rattle.tva_sender.specs.declared.grant.Grant as holding
use Rattle.tva_sender.specs.Contacts.{Prepared}
use Rattle.tva_sender.specs.Steps.{prepared, answered}
use Rattle.tva_sender.specs.Played.{IsNext, AreNext}
use Rattle.tva_sender.specs.Book.{Keeps}
use Rattle.tva_sender.proofs.Keeping.{keeps_prepared, keeps_answered, keeps_noticed}
use Rattle.tva_laws.proofs.Shown.{Allows, allows, by-taking}
use Rattle.tva_laws.proofs.Charges.{each-weaker, last-of, last-behind, life-since}
use Rattle.tva_laws.proofs.Seconds.{second-mono, second-later, second-within}
use Rattle.tva_laws.proofs.Pushes.{contacts-push, charges-push, came-got, since-got, since-went, since-told}
use Rattle.tva_laws.proofs.Stages.{IsFresh, IsFull, AreOwn, NotAfter, Holds, Stage, none-after, stay, idle, unpaid, used}

-- a capability that was minted for an ask is valid while its time lasts
pub valid : (w : Way) (rights : Rights) (came at : ℕ) → AreSomeRights rights → came ≤ at → at + 1000000000 ≤ came + rights.t * 1000000000
    → checked w rights came at ≡ Valid (grant_at w rights came)
valid w rights came at carried from until =
    let m = router_second w.offset came in
    let s = router_second w.offset at in
    let low : m ≤ s = second-mono w.offset came at from in
    let high : s < m + rights.t = second-within w.offset came at rights.t until in
    let k = s - m in
    let whole : m + k ≡ s = omega (arith, low) in
    grind (arith, nat_tests, lasts)

-- what is left of the sender's time is left at the router
pub time-left : (w : Way) (asked came sent at t : ℕ) → ComesIn w asked came → ComesIn w sent at → sent + w.margin + 1000000000 ≤ asked + t * 1000000000
    → at + 1000000000 ≤ came + t * 1000000000
time-left w asked came sent at t ask packet left = omega (arith, ask.from, packet.until, left)

up_to : (a b : ℕ) → leb a b ≡ true → a ≤ b
up_to a b e = grind (arith, nat_tests)

below : (a b : ℕ) → ltb a b ≡ true → a < b
below a b e = grind (arith, nat_tests)

-- a packet spends what is left of the grant, in time and in bytes, and shows its nonce
pub record Spends (w : Way) (ms : List Mile) (k : Holds w ms) (sent bytes nonce : ℕ) : Type 0 where
  pub offered : ℕ
  pub left : sent + w.margin + 1000000000 ≤ k.asked + k.rights.t * 1000000000
  pub room : sum_by (λ u. u.length) (uses (contacts k.own)) + bytes ≤ 1024 * k.rights.n
  pub first : nonce ≡ unwrap_or (first_nonce (uses (contacts k.own))) offered

abbrev taking_of : (w : Way) (ms : List Mile) → Holds w ms → Taking
taking_of w ms k = record { before = contacts k.earlier; rights = k.rights; caps = k.caps; after = contacts k.own }

spends : (w : Way) (ms : List Mile) (k : Holds w ms) (sent bytes nonce offered : ℕ) → fits w.margin sent (grant_of (taking_of w ms k)) bytes ≡ true
    → nonce ≡ nonce_of (grant_of (taking_of w ms k)) offered → Spends w ms k sent bytes nonce
spends w ms k sent bytes nonce offered fit shown = grind (arith, nat_tests, and_true, used, up_to)

pub record SpendsList (w : Way) (ms : List Mile) (k : Holds w ms) (sent bytes : ℕ) (hd : Held) : Type 0 where
  pub spends : Spends w ms k sent bytes hd.nonce
  pub rights : hd.rights ≡ k.rights

pub record SpendsNonce (w : Way) (ms : List Mile) (k : Holds w ms) (sent bytes nonce : ℕ) : Type 0 where
  pub spends : Spends w ms k sent bytes nonce
  pub alive : sent + w.margin < life_of k.rights (uses (since_notice (contacts k.own)))

pub by-list : (w : Way) (ms : List Mile) (k : Holds w ms) (sent body offered bytes : ℕ) (hd : Held) → bytes ≡ list_length w.version hd.caps body
    → IsSomeAnd (grant_held (contacts ms)) (λ g. (hd ≡ held g offered) × (fits w.margin sent g (list_length w.version hd.caps body) ≡ true)) → SpendsList w ms k sent bytes hd
by-list w ms k sent body offered bytes hd sized shows = grind (arith, nat_tests, by-taking, spends)

pub by-nonce : (w : Way) (ms : List Mile) (k : Holds w ms) (sent body offered bytes nonce : ℕ) → bytes ≡ nonce_length body
    → IsSomeAnd (grant_held (contacts ms)) (λ g. (nonce ≡ nonce_of g offered) × (is_alive w.margin sent g ≡ true) × (fits w.margin sent g (nonce_length body) ≡ true)) → SpendsNonce w ms k sent bytes nonce
by-nonce w ms k sent body offered bytes nonce sized shows = grind (arith, nat_tests, by-taking, spends, below)

-- a list is charged to its grant
charge-list : (w : Way) (ms : List Mile) (k : Holds w ms) (sent bytes : ℕ) (hd : Held) (c : Charge) → SpendsList w ms k sent bytes hd → ComesIn w sent c.time
    → IfSome (last_came ms) (λ came. came ≤ c.time) → IfSome (last_came ms) (λ came. checked w hd.rights came c.time ≡ Valid c.grant)
    → c.grant ≡ grant_at w k.rights k.came
charge-list w ms k sent bytes hd c list comes behind check = grind (arith, nat_tests, valid, time-left, spends)

-- the grant of the flow's last charge
record LastIs (o : Option Charge) (g : Grant) : Type 0 where
  last : Charge
  is : o ≡ Some last
  grant : last.grant ≡ g

last-is : (o : Option Charge) (g : Grant) → option_map (λ (d : Charge). d.grant) o ≡ Some g → LastIs o g
last-is o g e = grind (arith, nat_tests)

-- so a charge by a nonce is of no later second
charge-nonce : (w : Way) (ms : List Mile) (k : Holds w ms) (c : Charge) → option_map (λ (d : Charge). d.grant) (last_charge (charges_in ms)) ≡ Some c.grant → NotAfter w k.came c
charge-nonce w ms k c e =
    let l = last-is (last_charge (charges_in ms)) c.grant e in
    subst (λ (g : Grant). g.second ≤ router_second w.offset k.came) l.grant (last-of (NotAfter w k.came) (charges_in ms) l.last (none-after w ms k) l.is)

-- there are charges, where uses live
pub record HasFirst (cs : List Charge) : Type 0 where
  pub first : Charge
  pub rest : List Charge
  pub is : cs ≡ first ∷ rest

pub last-own : (P : Charge → Type 0) (xs ys : List Charge) (d : Charge) → AllByRecursion P ys → HasFirst ys → last_charge (xs ++ ys) ≡ Some d → P d
last-own P xs ys d all some e =
    let whole : last_charge (xs ++ some.first ∷ some.rest) ≡ Some d = subst (λ (z : List Charge). last_charge (xs ++ z) ≡ Some d) some.is e in
    let same : Some (last_or some.first some.rest) ≡ Some d = sym (last-behind xs some.first some.rest) ∙ whole in
    last-of P (some.first ∷ some.rest) d (subst (AllByRecursion P) some.is all) same

-- where all that showed a grant were authorised, and one did, something was charged
pub some-charge : (ms : List Mile) → AreAuthorised ms → charges_in ms ≡ [] → uses (contacts ms) ≡ []
some-charge [] k e = refl
some-charge (Went sent s bytes None ∷ ms) k e = ap₂ ◌++◌ k.0 (some-charge ms k.1 e)
some-charge (Went sent s bytes (Some c) ∷ ms) k e = absurd (cc)
some-charge (Got rights caps came ∷ ms) k e = some-charge ms k.1 e
some-charge (Told ∷ ms) k e = some-charge ms k.1 e

pub first-of : (cs : List Charge) → (cs ≡ [] → ⊥) → HasFirst cs
first-of [] k = absurd (k refl)
first-of (c ∷ cs) k = record { first = c; rest = cs; is = refl }

pub no-life : (rights : Rights) (us : List Use) (n : ℕ) → us ≡ [] → n < life_of rights us → ⊥
no-life rights us n e l = (let more : n < life_of rights [] = subst (λ (z : List Use). n < life_of rights z) e l in omega (arith, more))

-- and it is of the grant, where the grant's charges are full
charge-nonce-own : (w : Way) (ms : List Mile) (k : Holds w ms) (sent bytes nonce : ℕ) (c : Charge) → SpendsNonce w ms k sent bytes nonce
    → option_map (λ (d : Charge). d.grant) (last_charge (charges_in ms)) ≡ Some c.grant → IsFull k.earlier k.own
    → AllByRecursion (λ (d : Charge). d.grant ≡ grant_at w k.rights k.came) (charges_in k.own) → c.grant ≡ grant_at w k.rights k.came
charge-nonce-own w ms k sent bytes nonce c by e full own = grind (arith, nat_tests, last-is, first-of, no-life, some-charge, life-since, last-own)

-- the times of asks after a packet that was prepared
since-prepared : (b : Bool) (now retry asked : ℕ) (t : Time) → (b ≡ true → t.0 + retry ≤ now) → asked ≤ t.0 → asked ≤ (cond b (time now) t).0
since-prepared b now retry asked t may l = grind (arith, nat_tests)

again-prepared : (b answers : Bool) (now retry asked : ℕ) (t : Time) → (b ≡ true → t.0 + retry ≤ now) → asked ≤ t.0 → (answers ≡ false → asked + retry ≤ t.0)
    → (not b && answers) ≡ false → asked + retry ≤ (cond b (time now) t).0
again-prepared b answers now retry asked t may l again e = grind (arith, nat_tests)

asks-may : (margin version : ℕ) (may : Bool) (o : Option holding.Grant) (now body offered : ℕ) (s : Shape) → Allows margin version may o now body offered s → asks s ≡ true → may ≡ true
asks-may margin version may o now body offered s k e = grind (arith, nat_tests)

-- a packet was prepared under the last grant, in a shape that is allowed
went : (w : Way) (ms : List Mile) (k : Holds w ms) (sent body offered : ℕ) (s : Shape) (bytes : ℕ) (paid : Option Charge) → bytes ≡ length_of w.version s body
    → Allows w.margin w.version (may_ask w.retry (asked_at (contacts ms)) sent) (grant_held (contacts ms)) sent body offered s
    → AllByRecursion (NotAfter w k.came) (paid_in (Went sent s bytes paid))
    → (AreOwn w k.rights k.came k.earlier k.own → AreOwn w k.rights k.came k.earlier (k.own ++ Went sent s bytes paid ∷ []))
    → Holds w (ms ++ Went sent s bytes paid ∷ [])
went w ms k sent body offered s bytes paid sized allowed some all =
    let peer = prepared w.version k.peer sent s body in
    let keeps : Keeps peer (contacts ms ++ Prepared sent s bytes ∷ []) = subst (λ b. Keeps peer (contacts ms ++ Prepared sent s b ∷ [])) (sym sized) (keeps_prepared w.version k.peer (contacts ms) sent body s k.keeps) in
    let may : asks s ≡ true → k.peer.asked.0 + w.retry ≤ sent = λ e.
    up_to (k.peer.asked.0 + w.retry) sent (ap (λ (o : Option Time). may_ask w.retry o sent) (sym k.keeps.asked) ∙ asks-may w.margin w.version (may_ask w.retry (asked_at (contacts ms)) sent) (grant_held (contacts ms)) sent body offered s allowed e) in
    stay w ms k (Went sent s bytes paid) peer refl (λ b a. refl) (since-went [] ms sent s bytes paid) keeps
    (since-prepared (asks s) sent w.retry k.asked k.peer.asked may k.since)
    (again-prepared (asks s) k.peer.is_answered sent w.retry k.asked k.peer.asked may k.since k.again)
    some all

not-after : (w : Way) (k_rights : Rights) (came : ℕ) (c : Charge) → c.grant ≡ grant_at w k_rights came → NotAfter w came c
not-after w rights came c e = let same : c.grant.second ≡ router_second w.offset came = ap (λ (g : Grant). g.second) e in omega (arith, same)

-- each shape, with its charge or without one
by-shape : (w : Way) (ms : List Mile) (k : Holds w ms) (sent body offered : ℕ) (s : Shape) (bytes : ℕ) (paid : Option Charge) → IsMile w ms (Went sent s bytes paid) → bytes ≡ length_of w.version s body
    → Allows w.margin w.version (may_ask w.retry (asked_at (contacts ms)) sent) (grant_held (contacts ms)) sent body offered s → Holds w (ms ++ Went sent s bytes paid ∷ [])
by-shape w ms k sent body offered shape.Request bytes None mile sized a =
    went w ms k sent body offered shape.Request bytes None sized a tt (λ own. idle w k.rights k.came k.earlier k.own (Went sent shape.Request bytes None) refl refl own)
by-shape w ms k sent body offered shape.Request bytes (Some c) mile sized a = absurd mile.shown
by-shape w ms k sent body offered (shape.List hd) bytes None mile sized a = went w ms k sent body offered (shape.List hd) bytes None sized a tt
    (λ own. unpaid w k.rights k.came k.earlier k.own (Went sent (shape.List hd) bytes None) (record { time = sent; length = bytes; nonce = hd.nonce }) refl refl own)
by-shape w ms k sent body offered (shape.List hd) bytes (Some c) mile sized a =
    let list = by-list w ms k sent body offered bytes hd sized a in
    let grant = charge-list w ms k sent bytes hd c list mile.comes mile.behind mile.shown.1 in
    went w ms k sent body offered (shape.List hd) bytes (Some c) sized a (not-after w k.rights k.came c grant, tt)
    (λ own. used w k.rights k.came k.earlier k.own (Went sent (shape.List hd) bytes (Some c)) (record { time = sent; length = bytes; nonce = hd.nonce }) c list.spends.offered refl refl
    (λ full each. grant) mile.length mile.shown.0 list.spends.first own)
by-shape w ms k sent body offered (shape.NonceOnly n) bytes None mile sized a = went w ms k sent body offered (shape.NonceOnly n) bytes None sized a tt
    (λ own. unpaid w k.rights k.came k.earlier k.own (Went sent (shape.NonceOnly n) bytes None) (record { time = sent; length = bytes; nonce = n }) refl refl own)
by-shape w ms k sent body offered (shape.NonceOnly n) bytes (Some c) mile sized a =
    let by = by-nonce w ms k sent body offered bytes n sized a in
    went w ms k sent body offered (shape.NonceOnly n) bytes (Some c) sized a (charge-nonce w ms k c mile.shown.1, tt)
    (λ own. used w k.rights k.came k.earlier k.own (Went sent (shape.NonceOnly n) bytes (Some c)) (record { time = sent; length = bytes; nonce = n }) c by.spends.offered refl refl
    (λ full each. charge-nonce-own w ms k sent bytes n c by mile.shown.1 full each)
    mile.length mile.shown.0 by.spends.first own)
by-shape w ms k sent body offered (shape.Renewal hd) bytes None mile sized a = went w ms k sent body offered (shape.Renewal hd) bytes None sized a tt
    (λ own. unpaid w k.rights k.came k.earlier k.own (Went sent (shape.Renewal hd) bytes None) (record { time = sent; length = bytes; nonce = hd.nonce }) refl refl own)
by-shape w ms k sent body offered (shape.Renewal hd) bytes (Some c) mile sized a =
    let list = by-list w ms k sent body offered bytes hd sized a.1 in
    let grant = charge-list w ms k sent bytes hd c list mile.comes mile.behind mile.shown.1 in
    went w ms k sent body offered (shape.Renewal hd) bytes (Some c) sized a (not-after w k.rights k.came c grant, tt)
    (λ own. used w k.rights k.came k.earlier k.own (Went sent (shape.Renewal hd) bytes (Some c)) (record { time = sent; length = bytes; nonce = hd.nonce }) c list.spends.offered refl refl
    (λ full each. grant) mile.length mile.shown.0 list.spends.first own)
by-shape w ms k sent body offered shape.Legacy bytes None mile sized a =
    went w ms k sent body offered shape.Legacy bytes None sized a tt (λ own. idle w k.rights k.came k.earlier k.own (Went sent shape.Legacy bytes None) refl refl own)
by-shape w ms k sent body offered shape.Legacy bytes (Some c) mile sized a = absurd mile.shown

-- without a grant so far
fresh : (ms : List Mile) (f : IsFresh ms) (m : Mile) → ((b a : List Contact) → taking_in b (contact_in m) a ≡ None) → paid_in m ≡ [] → IsFresh (ms ++ m ∷ [])
fresh ms f m no_taking none = grind (arith, nat_tests, contacts-push, last_taking-push, charges-push)

fresh-shape : (w : Way) (ms : List Mile) (f : IsFresh ms) (sent body offered : ℕ) (s : Shape) (bytes : ℕ) (paid : Option Charge) → IsMile w ms (Went sent s bytes paid)
    → Allows w.margin w.version (may_ask w.retry (asked_at (contacts ms)) sent) (grant_held (contacts ms)) sent body offered s → IsFresh (ms ++ Went sent s bytes paid ∷ [])
fresh-shape w ms f sent body offered s bytes None mile a = search (arith, nat_tests, fresh)
fresh-shape w ms f sent body offered s bytes (Some c) mile a = grind (arith, nat_tests)

-- a notice
told : (w : Way) (ms : List Mile) (k : Holds w ms) → Holds w (ms ++ Told ∷ [])
told w ms k = search (arith, nat_tests, stay, since-told, keeps_noticed, idle)

-- an ask that is open
record OpenAsk (o : Option Ask) : Type 0 where
  ask : Ask
  is : o ≡ Some ask

open-ask : (o : Option Ask) → is_open o ≡ true → OpenAsk o
open-ask o e = grind (arith, nat_tests)

-- the charges before a taking are of earlier seconds
old-stage : (w : Way) (ms : List Mile) → 1000000000 + w.margin ≤ w.retry → (t came : ℕ) → asked_at (contacts ms) ≡ Some (time t) → awaits (contacts ms) ≡ true → ComesIn w t came
    → Stage w ms → AllByRecursion (λ c. c.grant.second < router_second w.offset came) (charges_in ms)
old-stage w ms rules t came asked waits comes (inl f) = subst (AllByRecursion (λ (c : Charge). c.grant.second < router_second w.offset came)) (sym f.charges) tt
old-stage w ms rules t came asked waits comes (inr k) =
    let unanswered : k.peer.is_answered ≡ false = (elim k.peer.is_answered as (λ b. not b ≡ true → b ≡ false) [ true ↦ (λ e. absurd (cc)) | false ↦ (λ e. refl) ]) (sym k.keeps.awaits ∙ waits) in
    let equal : Some k.peer.asked ≡ Some (time t) = sym k.keeps.asked ∙ asked in
    let same : k.peer.asked ≡ time t = cc in
    let at : k.peer.asked.0 ≡ t = ap (λ (x : Time). x.0) same in
    let again = k.again unanswered in
    let later : router_second w.offset k.came < router_second w.offset came = second-later w.offset k.came came (omega (arith, rules, again, at, k.comes.until, comes.from)) in
    each-weaker (NotAfter w k.came) (λ (c : Charge). c.grant.second < router_second w.offset came) (charges_in ms) (λ c l. omega (arith, l, later)) (none-after w ms k)

-- so they are where a grant is taken
pub old-before : (w : Way) (ms : List Mile) → 1000000000 + w.margin ≤ w.retry → Stage w ms → (rights : Rights) (caps : List ℕ) (came : ℕ) → awaits (contacts ms) ≡ true
    → IsMile w ms (Got rights caps came) → AllByRecursion (λ c. c.grant.second < router_second w.offset came) (charges_in ms)
old-before w ms rules stage rights caps came waits mile =
    let o = open-ask (last_ask (contacts ms)) waits in
    let asked : asked_at (contacts ms) ≡ Some (time o.ask.time) = ap (λ (x : Option Ask). option_map (λ (a : Ask). time a.time) x) o.is in
    let comes : ComesIn w o.ask.time came = subst (λ (x : Option Time). IfSome x (λ a. ComesIn w a.0 came)) asked mile.1 in
    old-stage w ms rules o.ask.time came asked waits comes stage

-- a grant is taken
got : (w : Way) (ms : List Mile) → 1000000000 + w.margin ≤ w.retry → Stage w ms → (rights : Rights) (caps : List ℕ) (came : ℕ) → awaits (contacts ms) ≡ true
    → IsMile w ms (Got rights caps came) → Holds w (ms ++ Got rights caps came ∷ [])
got w ms rules stage rights caps came waits mile =
    let h = contacts ms in
    let o = open-ask (last_ask h) waits in
    let t = o.ask.time in
    let asked : asked_at h ≡ Some (time t) = ap (λ (x : Option Ask). option_map (λ (a : Ask). time a.time) x) o.is in
    let comes : ComesIn w t came = subst (λ (x : Option Time). IfSome x (λ a. ComesIn w a.0 came)) asked mile.1 in
    let before : Peer = record { asked = time t; is_answered = false; grant = grant_held h } in
    let kept : Keeps before h = record { asked = asked; awaits = waits; grant = refl } in
    let peer = answered before rights caps in
    record {
      earlier = ms;
      own = [];
      rights = rights;
      caps = caps;
      came = came;
      asked = t;
      peer = peer;
      came_is = came-got ms rights caps came;
      since_is = since-got [] ms rights caps came;
      taking = ap (last_taking []) (contacts-push ms (Got rights caps came)) ∙ last_taking-push [] h (Taken rights caps);
      asked_is = ap time_of o.is;
      comes = comes;
      carried = mile.0;
      charges = charges-push ms (Got rights caps came);
      old = old-stage w ms rules t came asked waits comes stage;
      some = tt;
      keeps = subst (Keeps peer) (sym (contacts-push ms (Got rights caps came))) (keeps_answered before h rights caps kept);
      since = omega arith;
      again = λ e. absurd (cc);
      all = record { grants = λ full. tt; few = omega arith; nonces = tt };
    }

step : (w : Way) (ms : List Mile) → 1000000000 + w.margin ≤ w.retry → Stage w ms → (m : Mile) → IsMile w ms m → IsNext w.margin w.retry w.version (contacts ms) (contact_in m) → Stage w (ms ++ m ∷ [])
step w ms rules (inl f) (Went sent s bytes paid) mile p = inl (fresh-shape w ms f sent p.body p.offered s bytes paid mile (allows w.margin w.retry w.version (contacts ms) sent p.body p.offered s p.shape))
step w ms rules (inr k) (Went sent s bytes paid) mile p = inr (by-shape w ms k sent p.body p.offered s bytes paid mile p.length (allows w.margin w.retry w.version (contacts ms) sent p.body p.offered s p.shape))
step w ms rules stage (Got rights caps came) mile p = inr (got w ms rules stage rights caps came p.0 mile)
step w ms rules (inl f) Told mile p = inl (fresh ms f Told (λ b a. refl) refl)
step w ms rules (inr k) Told mile p = inr (told w ms k)

-- all the way
pub walk : (w : Way) → 1000000000 + w.margin ≤ w.retry → (before ms : List Mile) → Stage w before → AreMiles w before ms → AreNext w.margin w.retry w.version (contacts before) (contacts ms) → Stage w (before ++ ms)
walk w rules before [] stage miles next = subst (Stage w) (sym (append-nil before)) stage
walk w rules before (m ∷ ms) stage miles next =
    subst (Stage w) (append_assoc before (m ∷ []) ms)
    (walk w rules (before ++ m ∷ []) ms (step w before rules stage m miles.0 next.0) miles.1
    (subst (λ (cs : List Contact). AreNext w.margin w.retry w.version cs (contacts ms)) (sym (contacts-push before m)) next.1))
