-- On a steady path the router authorises what shows a grant.
use Rattle.tva_laws.proofs.Common.{◌≡◌, ◌≤◌, ◌<◌, ◌⊎◌, inl, inr, ℕ, ◌+◌, ◌*◌, Bool, true, false, cond, List, [], ◌∷◌, ◌++◌, Option, Some, None, refl, ap, sym, subst, ◌∙◌, arith, append_assoc, append-nil, IsSomeAnd, filter, sum_by, AllByRecursion, IfSome, option_map, unwrap_or, nat_tests, sum_by-cons, sum_by-append, Grant, Rights, router_second, Charge, of_flow, last_or, last_charge, bytes_under, bytes_of, end_of, lives, run, used, holder, living_count, supersedes, list_verdict, nonce_rows, nonce_verdict, Shape, Contact, Taking, uses_in, uses, after_notice, since_notice, first_nonce, life_of, asked_at, grant_held, length_of, held, may_ask, IsPrepared, IsPlayed, each-passes, each-append, Mile, Went, Got, Told, contacts, charges_in, since_got, after_told, since_notified, Way, grant_at, AreMiles, AreAuthorised, is_since, IsKnown, IsSteady, IsNarrow, IsListTaken, IsNonceTaken, IsTaken}
use Rattle.tva_flow.specs.declared.verdicts.Verdict.TheVariants.{Authorised}
use Rattle.tva_sender.specs.declared.shape.Shape.TheVariants as shape
use Rattle.tva_sender.specs.Contacts.{Prepared}
use Rattle.tva_sender.specs.Played.{IsNext, AreNext}
use Rattle.tva_laws.proofs.Shown.{Allows, allows, no-taking}
use Rattle.tva_laws.proofs.Charges.{each-weaker, last-of, bytes-none, bytes-own, credit_at, Pairs, pairs-end, life-since, end-behind, last-behind}
use Rattle.tva_laws.proofs.Seconds.{second-within}
use Rattle.tva_laws.proofs.Stages.{Holds, Stage}
use Rattle.tva_laws.proofs.EachMile.{valid, time-left, Spends, SpendsNonce, by-list, by-nonce, HasFirst, first-of, last-own, some-charge, no-life, walk}

-- the bytes that are used are at most those of all charges of the flow
run-bytes : (g : Grant) (before cs : List Charge) → bytes_of g (run before cs) ≤ bytes_of g cs
run-bytes g before [] = omega arith
run-bytes g before (c ∷ cs) = grind (arith, nat_tests, sum_by-cons (bytes_under g) c cs, run-bytes g (before ++ c ∷ []) cs)

used-bytes : (h : List Charge) (g : Grant) (now : ℕ) → used h g now ≤ bytes_of g (of_flow g.flow h)
used-bytes h g now = grind (arith, nat_tests, run-bytes)

-- ## charges of no earlier second

-- the bytes of the grant are theirs
bytes-since : (w : Way) (rights : Rights) (came : ℕ) (cs : List Charge) → bytes_of (grant_at w rights came) (filter (is_since w came) cs) ≡ bytes_of (grant_at w rights came) cs
bytes-since w rights came [] = refl
bytes-since w rights came (c ∷ cs) = by (bytes-since w rights came cs) (is_since w came c) refl
  where
    by : bytes_of (grant_at w rights came) (filter (is_since w came) cs) ≡ bytes_of (grant_at w rights came) cs → (b : Bool) → is_since w came c ≡ b
        → bytes_of (grant_at w rights came) (cond b (c ∷ filter (is_since w came) cs) (filter (is_since w came) cs)) ≡ bytes_of (grant_at w rights came) (c ∷ cs)
    by ih b e = grind (arith, nat_tests, sum_by-cons (bytes_under (grant_at w rights came)) c (filter (is_since w came) cs), sum_by-cons (bytes_under (grant_at w rights came)) c cs, sum_by-cons (bytes_under (grant_at w rights came)) c [])

last-more : (c : Charge) (cs : List Charge) (d : Charge) → last_charge cs ≡ Some d → last_charge (c ∷ cs) ≡ Some d
last-more c cs d e = grind (arith, nat_tests)

-- the last of all is the last of those that pass, where it passes
pub last-passes : (p : Charge → Bool) (cs : List Charge) (d : Charge) → last_charge cs ≡ Some d → p d ≡ true → last_charge (filter p cs) ≡ Some d
last-passes p [] d e k = absurd (cc)
last-passes p (c ∷ []) d e k = search
last-passes p (c ∷ x ∷ xs) d e k = grind (arith, nat_tests, last-passes p (x ∷ xs) d e k)

credits-passing : (p : Charge → Bool) (cs : List Charge) → sum_by credit_at (filter p cs) ≤ sum_by credit_at cs
credits-passing p [] = omega arith
credits-passing p (c ∷ cs) = by (credits-passing p cs) (p c)
  where
    by : sum_by credit_at (filter p cs) ≤ sum_by credit_at cs → (b : Bool) → sum_by credit_at (cond b (c ∷ filter p cs) (filter p cs)) ≤ sum_by credit_at (c ∷ cs)
    by ih true = omega (arith, ih, sum_by-cons credit_at c cs, sum_by-cons credit_at c (filter p cs))
    by ih false = omega (arith, ih, sum_by-cons credit_at c cs)

-- those that pass end no later than all
end-passing : (p : Charge → Bool) (cs : List Charge) → end_of (filter p cs) ≤ end_of cs
end-passing p [] = omega arith
end-passing p (c ∷ cs) = by (end-passing p cs) (p c)
  where
    by : end_of (filter p cs) ≤ end_of cs → (b : Bool) → end_of (cond b (c ∷ filter p cs) (filter p cs)) ≤ end_of (c ∷ cs)
    by ih true = omega (arith, ih, credits-passing p cs, sum_by-cons credit_at c cs, sum_by-cons credit_at c (filter p cs))
    by ih false = omega (arith, ih)

-- ## what the steady path says of the last grant

-- charges of earlier seconds are none of no earlier one
none-earlier : (w : Way) (came : ℕ) (xs ys : List Charge) → AllByRecursion (λ c. c.grant.second < router_second w.offset came) xs
    → AllByRecursion (λ c. is_since w came c ≡ true) (xs ++ ys) → xs ≡ []
none-earlier w came [] ys a b = refl
none-earlier w came (x ∷ xs) ys a b = absurd (let early = a.0 in let late = b.0 in grind (arith, nat_tests, early, late))

record Facts (w : Way) (h : List Charge) (ms : List Mile) (k : Holds w ms) (at : ℕ) : Type 0 where
  behind : k.came ≤ at
  mine : filter (is_since w k.came) (of_flow w.flow h) ≡ charges_in k.own
  grants : AllByRecursion (λ c. c.grant ≡ grant_at w k.rights k.came) (charges_in k.own)

facts : (w : Way) (h : List Charge) (ms : List Mile) (k : Holds w ms) (sent : ℕ) (s : Shape) (bytes at : ℕ) → IsSteady w h ms sent s bytes at → Facts w h ms k at
facts w h ms k sent s bytes at st =
    let all : filter (is_since w k.came) (of_flow w.flow h) ≡ charges_in ms =
    subst (λ (o : Option ℕ). IfSome o (λ came. filter (is_since w came) (of_flow w.flow h) ≡ charges_in ms)) k.came_is st.charges in
    let none : charges_in k.earlier ≡ [] =
    none-earlier w k.came (charges_in k.earlier) (charges_in k.own) k.old
    (subst (AllByRecursion (λ (c : Charge). is_since w k.came c ≡ true)) (all ∙ k.charges) (each-passes (is_since w k.came) (of_flow w.flow h))) in
    grind (arith, nat_tests)

-- what the router has charged to the grant, with the packet, is within its units
within : (w : Way) (h : List Charge) (ms : List Mile) (k : Holds w ms) (sent bytes nonce at : ℕ) → Facts w h ms k at → Spends w ms k sent bytes nonce
    → used h (grant_at w k.rights k.came) at + bytes ≤ 1024 * k.rights.n
within w h ms k sent bytes nonce at f spends =
    let g = grant_at w k.rights k.came in
    grind (arith, nat_tests, used-bytes h g at, bytes-since w k.rights k.came (of_flow w.flow h), bytes-own g (charges_in k.own) f.grants)

-- the last charge of the flow is of the last grant, unless it is of an earlier second
holder-own : (w : Way) (h : List Charge) (ms : List Mile) (k : Holds w ms) (at : ℕ) → Facts w h ms k at → (P : Charge → Type 0) → AllByRecursion P (charges_in k.own)
    → (c : Charge) → holder h w.flow ≡ Some c → is_since w k.came c ≡ true → P c
holder-own w h ms k at f P all c e since = grind (arith, nat_tests, last-of P (charges_in k.own) c all (ap last_charge (sym f.mine) ∙ last-passes (is_since w k.came) (of_flow w.flow h) c e since), last-passes (is_since w k.came) (of_flow w.flow h) c e since)

-- the holder is of the grant, or of an earlier second
abbrev IsOfOrBefore : Grant → Charge → Type 0
IsOfOrBefore g c = (c.grant ≡ g) ⊎ (c.grant.second < g.second)

not-superseded : (g : Grant) (o : Option Charge) → ((c : Charge) → o ≡ Some c → IsOfOrBefore g c) → supersedes o g ≡ false
not-superseded g o k = grind (arith, nat_tests)

list-passes : (slots : ℕ) (h : List Charge) (now : ℕ) (g : Grant) (bytes : ℕ) → supersedes (holder h g.flow) g ≡ false → used h g now + bytes ≤ 1024 * g.rights.n
    → (lives h g.flow now ≡ false → living_count h now < slots) → list_verdict slots h now g bytes ≡ Authorised g
unfolding list_verdict
list-passes slots h now g bytes late few room = grind (arith, nat_tests)

taken-list : (w : Way) (h : List Charge) (ms : List Mile) (k : Holds w ms) (sent : ℕ) (s : Shape) (bytes at nonce : ℕ) → IsSteady w h ms sent s bytes at → Spends w ms k sent bytes nonce → IsListTaken w h ms k.rights k.came bytes at
taken-list w h ms k sent s bytes at nonce st spends =
    let g = grant_at w k.rights k.came in
    let f = facts w h ms k sent s bytes at st in
    let left = time-left w k.asked k.came sent at k.rights.t k.comes st.comes spends.left in
    let one : (c : Charge) → holder h w.flow ≡ Some c → (b : Bool) → is_since w k.came c ≡ b → IsOfOrBefore g c = λ c e b. elim b as (λ v. is_since w k.came c ≡ v → IsOfOrBefore g c) [
      | true ↦ (λ since. inl (holder-own w h ms k at f (λ (d : Charge). d.grant ≡ g) f.grants c e since))
      | false ↦ (λ since. inr (grind (arith, nat_tests, since)))
    ] in
    let late : supersedes (holder h w.flow) g ≡ false = not-superseded g (holder h w.flow) (λ c e. one c e (is_since w k.came c) refl) in
    grind (arith, nat_tests, valid w k.rights k.came at k.carried f.behind left, list-passes w.slots h at g bytes late (within w h ms k sent bytes nonce at f spends) st.room, within w h ms k sent bytes nonce at f spends)

-- ## what counts for the life of a nonce

-- each charge is that of its use
IsTimely : Way → Mile → Type 0
IsTimely w (Went sent s bytes None) = Unit {0}
IsTimely w (Went sent s bytes (Some c)) = Pairs w.delay (uses_in (Prepared sent s bytes)) (c ∷ [])
IsTimely w (Got rights caps came) = Unit {0}
IsTimely w Told = Unit {0}

timely : (w : Way) (before ms : List Mile) → AreMiles w before ms → AllByRecursion (IsTimely w) ms
unfolding IsTimely
timely w before [] k = tt
timely w before (z0 ∷ ms) k = grind (arith, nat_tests, timely w (before ++ z0 ∷ []) ms k.1)

-- where all that show a grant were authorised, uses and charges stand in pairs
pairs-in : (w : Way) (ms : List Mile) → AllByRecursion (IsTimely w) ms → AreAuthorised ms → Pairs w.delay (uses (contacts ms)) (charges_in ms)
unfolding IsTimely
pairs-in w [] k a = tt
pairs-in w (z0 ∷ ms) k a = grind (arith, nat_tests, pairs-in w ms k.1 a.1)

each-got : (P : Mile → Type 0) (own ms : List Mile) → AllByRecursion P own → AllByRecursion P ms → AllByRecursion P (since_got own ms)
each-got P own [] k l = k
each-got P own (z0 ∷ ms) k l = grind (arith, nat_tests, each-append, each-got P (own ++ z0 ∷ []) ms (each-append P own (z0 ∷ []) k (l.0, tt)) l.1, each-got P [] ms tt l.1)

-- what holds of all miles and of their charges holds of those since a notice
record Rest (P : Mile → Type 0) (Q : Charge → Type 0) (ms rest : List Mile) : Type 0 where
  each : AllByRecursion P ms → AllByRecursion P rest
  paid : AllByRecursion Q (charges_in ms) → AllByRecursion Q (charges_in rest)
  ends : end_of (charges_in rest) ≤ end_of (charges_in ms)

module _ (P : Mile → Type 0) (Q : Charge → Type 0) where
  rest-all : (ms : List Mile) → Rest P Q ms ms
  rest-all ms = record { each = λ k. k; paid = λ k. k; ends = omega arith }

  after-rest : (ms : List Mile) → IfSome (after_told ms) (λ rest. Rest P Q ms rest)
  after-rest [] = tt
  after-rest (z0 ∷ ms) = grind (arith, nat_tests, rest-all, after-rest ms)

  rest-by : (ms : List Mile) (o : Option (List Mile)) → IfSome o (λ rest. Rest P Q ms rest) → Rest P Q ms (unwrap_or o ms)
  rest-by ms o k = grind (arith, nat_tests, rest-all)

  since-rest : (ms : List Mile) → Rest P Q ms (since_notified ms)
  since-rest ms = rest-by ms (after_told ms) (after-rest ms)

-- the contacts since a notice are those of the miles since it
told-notice : (ms : List Mile) → after_notice (contacts ms) ≡ option_map contacts (after_told ms)
told-notice [] = refl
told-notice (z0 ∷ ms) = grind (arith, nat_tests, told-notice ms)

notified-by : (ms : List Mile) (o : Option (List Mile)) → contacts (unwrap_or o ms) ≡ unwrap_or (option_map contacts o) (contacts ms)
notified-by ms o = grind (arith, nat_tests)

notified : (ms : List Mile) → contacts (since_notified ms) ≡ since_notice (contacts ms)
notified ms = notified-by ms (after_told ms) ∙ ap (λ (o : Option (List Contact)). unwrap_or o (contacts ms)) (sym (told-notice ms))

-- the verdict by the flow's last charge
nonce-by : (w : Way) (h : List Charge) (ms : List Mile) (k : Holds w ms) (sent bytes nonce at : ℕ) → Facts w h ms k at → SpendsNonce w ms k sent bytes nonce
    → lives h w.flow at ≡ true → router_second w.offset at < router_second w.offset k.came + k.rights.t
    → (o : Option Charge) → holder h w.flow ≡ o → IfSome o (λ c. is_since w k.came c ≡ true)
    → nonce_rows w.offset h at w.flow nonce bytes o ≡ Authorised (grant_at w k.rights k.came)
nonce-by w h ms k sent bytes nonce at f by living early None e held = grind (arith, nat_tests)
nonce-by w h ms k sent bytes nonce at f by living early (Some c) e held =
    let g = grant_at w k.rights k.came in
    let us = uses (contacts k.own) in
    let grant : c.grant ≡ g = holder-own w h ms k at f (λ (d : Charge). d.grant ≡ g) f.grants c e held in
    let first : Some c.nonce ≡ first_nonce us = holder-own w h ms k at f (λ (d : Charge). Some d.nonce ≡ first_nonce us) k.all.nonces c e held in
    grind (arith, nat_tests, within w h ms k sent bytes nonce at f by.spends)

taken-nonce : (w : Way) (h : List Charge) (ms : List Mile) (k : Holds w ms) (sent bytes at nonce : ℕ) → IsSteady w h ms sent (shape.NonceOnly nonce) bytes at → SpendsNonce w ms k sent bytes nonce → IsNonceTaken w h ms nonce k.came bytes at
unfolding nonce_verdict
taken-nonce w h ms k sent bytes at nonce st by =
    let f = facts w h ms k sent (shape.NonceOnly nonce) bytes at st in
    let known : IsKnown w h ms k.came = subst (λ (o : Option ℕ). IfSome o (λ came. IsKnown w h ms came)) k.came_is st.nonce in
    let left = time-left w k.asked k.came sent at k.rights.t k.comes st.comes by.spends.left in
    let r = since-rest (IsTimely w) (λ (d : Charge). d.grant.rights ≡ k.rights) k.own in
    let own : List Mile = since_notified k.own in
    let all : AllByRecursion (IsTimely w) k.own = subst (AllByRecursion (IsTimely w)) k.since_is (each-got (IsTimely w) [] ms tt (timely w [] ms st.miles)) in
    let paid : AreAuthorised own = subst (λ (z : List Mile). AreAuthorised (since_notified z)) k.since_is known.authorised in
    let pairs = pairs-in w own (r.each all) paid in
    let rights : AllByRecursion (λ d. d.grant.rights ≡ k.rights) (charges_in own) =
    r.paid (each-weaker (λ (d : Charge). d.grant ≡ grant_at w k.rights k.came) (λ (d : Charge). d.grant.rights ≡ k.rights) (charges_in k.own) (λ d e. ap (λ (z : Grant). z.rights) e) f.grants) in
    let alive : sent + w.margin < life_of k.rights (uses (contacts own)) = subst (λ (cs : List Contact). sent + w.margin < life_of k.rights (uses cs)) (sym (notified k.own)) by.alive in
    let behind : end_of (charges_in k.own) ≤ end_of (of_flow w.flow h) = subst (λ (z : List Charge). end_of z ≤ end_of (of_flow w.flow h)) f.mine (end-passing (is_since w k.came) (of_flow w.flow h)) in
    let until : at < end_of (of_flow w.flow h) = elim (pairs-end w.delay k.rights (uses (contacts own)) (charges_in own) pairs rights) [
      | inl none ↦ absurd (omega (arith, alive, none))
      | inr more ↦ omega (arith, alive, more, behind, r.ends, st.comes.until)
    ] in
    let living : lives h w.flow at ≡ true = grind (arith, nat_tests) in
    record {
      rights = k.rights;
      last = ap (option_map (λ (t : Taking). t.rights)) k.taking;
      verdict = nonce-by w h ms k sent bytes nonce at f by living (second-within w.offset k.came at k.rights.t left) (holder h w.flow) refl known.held;
    }

-- a list of contacts, but for the last
pub record Front (margin retry version : ℕ) (before cs : List Contact) (c : Contact) : Type 0 where
  pub front : AreNext margin retry version before cs
  pub last : IsNext margin retry version (before ++ cs) c

pub front : (margin retry version : ℕ) (before cs : List Contact) (c : Contact) → AreNext margin retry version before (cs ++ c ∷ []) → Front margin retry version before cs c
front margin retry version before [] c k = record { front = tt; last = subst (λ z. IsNext margin retry version z c) (sym (append-nil before)) k.0 }
front margin retry version before (d ∷ ds) c k = grind (arith, nat_tests, append_assoc, front margin retry version (before ++ d ∷ []) ds c k.1)

pub none : (w : Way) → Stage w []
none w = inl (record { taking = refl; charges = refl })

-- what is taken by the last grant, where lists and nonces of it are
taken-by : (w : Way) (h : List Charge) (ms : List Mile) (sent body offered : ℕ) (s : Shape) (bytes at : ℕ)
    → ((k : Holds w ms) (nonce : ℕ) → Spends w ms k sent bytes nonce → IsListTaken w h ms k.rights k.came bytes at)
    → ((k : Holds w ms) (nonce : ℕ) → s ≡ shape.NonceOnly nonce → SpendsNonce w ms k sent bytes nonce → IsNonceTaken w h ms nonce k.came bytes at)
    → Stage w ms → bytes ≡ length_of w.version s body
    → Allows w.margin w.version (may_ask w.retry (asked_at (contacts ms)) sent) (grant_held (contacts ms)) sent body offered s → IsTaken w h ms s bytes at
taken-by w h ms sent body offered shape.Request bytes at lists nonces stage sized a = tt
taken-by w h ms sent body offered z0 bytes at lists nonces (inl f) sized a = grind (arith, nat_tests, no-taking)
taken-by w h ms sent body offered (shape.List hd) bytes at lists nonces (inr k) sized a =
    let list = by-list w ms k sent body offered bytes hd sized a in
    subst (λ (o : Option ℕ). IsSomeAnd o (λ came. IsListTaken w h ms hd.rights came bytes at)) (sym k.came_is)
    (subst (λ (r : Rights). IsListTaken w h ms r k.came bytes at) (sym list.rights) (lists k hd.nonce list.spends))
taken-by w h ms sent body offered (shape.NonceOnly n) bytes at lists nonces (inr k) sized a = grind (arith, nat_tests, by-nonce)
taken-by w h ms sent body offered (shape.Renewal hd) bytes at lists nonces (inr k) sized a =
    let list = by-list w ms k sent body offered bytes hd sized a.1 in
    subst (λ (o : Option ℕ). IsSomeAnd o (λ came. IsListTaken w h ms hd.rights came bytes at)) (sym k.came_is)
    (subst (λ (r : Rights). IsListTaken w h ms r k.came bytes at) (sym list.rights) (lists k hd.nonce list.spends))
taken-by w h ms sent body offered shape.Legacy bytes at lists nonces stage sized a = tt

-- a sender that keeps to its rules is known mile by mile
taken-played : (w : Way) (h : List Charge) (ms : List Mile) (sent : ℕ) (s : Shape) (bytes at : ℕ) → 1000000000 + w.margin ≤ w.retry
    → IsPlayed w.margin w.retry w.version (contacts ms ++ Prepared sent s bytes ∷ []) → AreMiles w [] ms
    → ((k : Holds w ms) (nonce : ℕ) → Spends w ms k sent bytes nonce → IsListTaken w h ms k.rights k.came bytes at)
    → ((k : Holds w ms) (nonce : ℕ) → s ≡ shape.NonceOnly nonce → SpendsNonce w ms k sent bytes nonce → IsNonceTaken w h ms nonce k.came bytes at)
    → IsTaken w h ms s bytes at
taken-played w h ms sent s bytes at rules played miles lists nonces =
    let f = front w.margin w.retry w.version [] (contacts ms) (Prepared sent s bytes) played in
    let p : IsPrepared w.margin w.retry w.version (contacts ms) sent s bytes = f.last in
    let stage = walk w rules [] ms (none w) miles f.front in
    taken-by w h ms sent p.body p.offered s bytes at lists nonces stage p.length (allows w.margin w.retry w.version (contacts ms) sent p.body p.offered s p.shape)

pub honest : (w : Way) (h : List Charge) (ms : List Mile) (sent : ℕ) (s : Shape) (bytes at : ℕ) → IsSteady w h ms sent s bytes at → IsTaken w h ms s bytes at
honest w h ms sent s bytes at st =
    taken-played w h ms sent s bytes at st.rules st.played st.miles
    (λ k nonce spends. taken-list w h ms k sent s bytes at nonce st spends)
    (λ k nonce is by. taken-nonce w h ms k sent bytes at nonce (subst (λ (r : Shape). IsSteady w h ms sent r bytes at) is st) by)

-- ## in narrower words

-- all charges of the flow, and those of the last grant
record Narrow (w : Way) (h : List Charge) (ms : List Mile) (k : Holds w ms) (at : ℕ) : Type 0 where
  behind : k.came ≤ at
  charges : of_flow w.flow h ≡ charges_in k.earlier ++ charges_in k.own
  grants : AllByRecursion (λ c. c.grant ≡ grant_at w k.rights k.came) (charges_in k.own)
  pairs : Pairs w.delay (uses (contacts k.own)) (charges_in k.own)
  authorised : AreAuthorised k.own

narrow-facts : (w : Way) (h : List Charge) (ms : List Mile) (k : Holds w ms) (sent : ℕ) (s : Shape) (bytes at : ℕ) → IsNarrow w h ms sent s bytes at → Narrow w h ms k at
narrow-facts w h ms k sent s bytes at st =
    let all : AllByRecursion (IsTimely w) k.own = subst (AllByRecursion (IsTimely w)) k.since_is (each-got (IsTimely w) [] ms tt (timely w [] ms st.miles)) in
    grind (arith, nat_tests, pairs-in)

narrow-within : (w : Way) (h : List Charge) (ms : List Mile) (k : Holds w ms) (sent bytes nonce at : ℕ) → Narrow w h ms k at → Spends w ms k sent bytes nonce
    → used h (grant_at w k.rights k.came) at + bytes ≤ 1024 * k.rights.n
narrow-within w h ms k sent bytes nonce at f spends =
    let g = grant_at w k.rights k.came in
    grind (arith, nat_tests, sum_by-append (bytes_under g) (charges_in k.earlier) (charges_in k.own), used-bytes h g at, bytes-none g (charges_in k.earlier) k.old, bytes-own g (charges_in k.own) f.grants)

narrow-list : (w : Way) (h : List Charge) (ms : List Mile) (k : Holds w ms) (sent : ℕ) (s : Shape) (bytes at nonce : ℕ) → IsNarrow w h ms sent s bytes at → Spends w ms k sent bytes nonce → IsListTaken w h ms k.rights k.came bytes at
narrow-list w h ms k sent s bytes at nonce st spends =
    let g = grant_at w k.rights k.came in
    let f = narrow-facts w h ms k sent s bytes at st in
    let left = time-left w k.asked k.came sent at k.rights.t k.comes st.comes spends.left in
    let each : AllByRecursion (IsOfOrBefore g) (charges_in k.earlier ++ charges_in k.own) = each-append (IsOfOrBefore g) (charges_in k.earlier) (charges_in k.own)
    (each-weaker (λ (c : Charge). c.grant.second < g.second) (IsOfOrBefore g) (charges_in k.earlier) (λ c l. inr l) k.old)
    (each-weaker (λ (c : Charge). c.grant ≡ g) (IsOfOrBefore g) (charges_in k.own) (λ c e. inl e) f.grants) in
    let late : supersedes (holder h w.flow) g ≡ false = not-superseded g (last_charge (of_flow w.flow h))
    (λ c e. last-of (IsOfOrBefore g) (charges_in k.earlier ++ charges_in k.own) c each (ap last_charge (sym f.charges) ∙ e)) in
    grind (arith, nat_tests, valid w k.rights k.came at k.carried f.behind left, list-passes w.slots h at g bytes late (narrow-within w h ms k sent bytes nonce at f spends) st.room, narrow-within w h ms k sent bytes nonce at f spends)

narrow-nonce : (w : Way) (h : List Charge) (ms : List Mile) (k : Holds w ms) (sent : ℕ) (s : Shape) (bytes at nonce : ℕ) → IsNarrow w h ms sent s bytes at → SpendsNonce w ms k sent bytes nonce → IsNonceTaken w h ms nonce k.came bytes at
unfolding nonce_verdict
narrow-nonce w h ms k sent s bytes at nonce st by =
    let g = grant_at w k.rights k.came in
    let f = narrow-facts w h ms k sent s bytes at st in
    let us = uses (contacts k.own) in
    let left = time-left w k.asked k.came sent at k.rights.t k.comes st.comes by.spends.left in
    let lasting = by.alive in
    let alive : sent + w.margin < life_of k.rights us = omega (arith, lasting, life-since k.rights (contacts k.own)) in
    let some : HasFirst (charges_in k.own) = first-of (charges_in k.own) (λ none. no-life k.rights us (sent + w.margin) (some-charge k.own f.authorised none) alive) in
    let c : Charge = last_or some.first some.rest in
    let last : last_charge (of_flow w.flow h) ≡ Some c = ap last_charge (f.charges ∙ ap (λ (z : List Charge). charges_in k.earlier ++ z) some.is) ∙ last-behind (charges_in k.earlier) some.first some.rest in
    let whole : last_charge (charges_in k.earlier ++ charges_in k.own) ≡ Some c = ap last_charge (sym f.charges) ∙ last in
    let grant : c.grant ≡ g = last-own (λ (d : Charge). d.grant ≡ g) (charges_in k.earlier) (charges_in k.own) c f.grants some whole in
    let first : Some c.nonce ≡ first_nonce us = last-own (λ (d : Charge). Some d.nonce ≡ first_nonce us) (charges_in k.earlier) (charges_in k.own) c k.all.nonces some whole in
    let shows : c.nonce ≡ nonce = ap (λ (o : Option ℕ). unwrap_or o by.spends.offered) first ∙ sym by.spends.first in
    let rights : AllByRecursion (λ d. d.grant.rights ≡ k.rights) (charges_in k.own) = each-weaker (λ (d : Charge). d.grant ≡ g) (λ (d : Charge). d.grant.rights ≡ k.rights) (charges_in k.own) (λ d e. ap (λ (z : Grant). z.rights) e) f.grants in
    grind (arith, nat_tests, end-behind (charges_in k.earlier) (charges_in k.own), pairs-end w.delay k.rights us (charges_in k.own) f.pairs rights, narrow-within w h ms k sent bytes nonce at f by.spends)

pub narrow-honest : (w : Way) (h : List Charge) (ms : List Mile) (sent : ℕ) (s : Shape) (bytes at : ℕ) → IsNarrow w h ms sent s bytes at → IsTaken w h ms s bytes at
narrow-honest w h ms sent s bytes at st = search (arith, nat_tests, taken-played, narrow-list, narrow-nonce)
