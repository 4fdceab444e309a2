-- What is known of the miles so far.
use Rattle.tva_laws.proofs.Common.{◌≡◌, ◌≤◌, ◌<◌, ◌⊎◌, ℕ, ◌+◌, false, List, [], ◌∷◌, ◌++◌, Some, None, ap, sym, subst, ◌∙◌, arith, append_assoc, append-nil, sum_by, AllByRecursion, unwrap_or, sum_by-cons, sum_by-append, Rights, router_second, AreSomeRights, Charge, Peer, Contact, taking_in, last_taking, last_ask, Use, uses_in, uses, first_nonce, time_of, last_taking-push, taking_more, uses-push, Mile, contact_in, contacts, paid_in, charges_in, ask_came_in, last_came, since_got, Way, ComesIn, grant_at, AreAuthorised, each-append, nat_tests}
use Rattle.tva_sender.specs.Book.{Keeps}
use Rattle.tva_laws.proofs.Charges.{each-weaker}
use Rattle.tva_laws.proofs.Pushes.{contacts-push, charges-push, came-same, authorised-front}

-- no grant was taken so far, so no packet showed one
pub record IsFresh (ms : List Mile) : Type 0 where
  pub taking : last_taking [] (contacts ms) ≡ None
  pub charges : charges_in ms ≡ []

-- nothing was charged before, or all packets that show the grant were authorised
abbrev pub IsFull : List Mile → List Mile → Type 0
IsFull earlier own = (charges_in earlier ≡ []) ⊎ AreAuthorised own

-- what the charges of a grant are: of its grant, no more than its uses, with the first one's nonce
pub record AreOwn (w : Way) (rights : Rights) (came : ℕ) (earlier own : List Mile) : Type 0 where
  pub grants : IsFull earlier own → AllByRecursion (λ c. c.grant ≡ grant_at w rights came) (charges_in own)
  pub few : sum_by (λ c. c.length) (charges_in own) ≤ sum_by (λ u. u.length) (uses (contacts own))
  pub nonces : AllByRecursion (λ c. Some c.nonce ≡ first_nonce (uses (contacts own))) (charges_in own)

abbrev pub NotAfter : Way → ℕ → Charge → Type 0
NotAfter w came c = c.grant.second ≤ router_second w.offset came

-- the last grant that was taken, with the miles before and after it, and what the sender keeps
pub record Holds (w : Way) (ms : List Mile) : Type 0 where
  pub earlier : List Mile
  pub own : List Mile
  pub rights : Rights
  pub caps : List ℕ
  pub came : ℕ
  pub asked : ℕ
  pub peer : Peer
  pub came_is : last_came ms ≡ Some came
  pub since_is : since_got [] ms ≡ own
  pub taking : last_taking [] (contacts ms) ≡ Some (record { before = contacts earlier; rights = rights; caps = caps; after = contacts own })
  pub asked_is : time_of (last_ask (contacts earlier)) ≡ asked
  pub comes : ComesIn w asked came
  pub carried : AreSomeRights rights
  pub charges : charges_in ms ≡ charges_in earlier ++ charges_in own
  pub old : AllByRecursion (λ c. c.grant.second < router_second w.offset came) (charges_in earlier)
  pub some : AllByRecursion (NotAfter w came) (charges_in own)
  pub keeps : Keeps peer (contacts ms)
  pub since : asked ≤ peer.asked.0
  pub again : peer.is_answered ≡ false → asked + w.retry ≤ peer.asked.0
  pub all : AreOwn w rights came earlier own

abbrev pub Stage : Way → List Mile → Type 0
Stage w ms = IsFresh ms ⊎ Holds w ms

-- every charge so far is of a second up to that of the last grant
pub none-after : (w : Way) (ms : List Mile) (k : Holds w ms) → AllByRecursion (NotAfter w k.came) (charges_in ms)
none-after w ms k = search (arith, nat_tests, each-append, each-weaker)

-- a mile that is no grant
pub stay : (w : Way) (ms : List Mile) (k : Holds w ms) (m : Mile) (peer : Peer) → ask_came_in m ≡ None → ((b a : List Contact) → taking_in b (contact_in m) a ≡ None)
    → since_got [] (ms ++ m ∷ []) ≡ since_got [] ms ++ m ∷ []
    → Keeps peer (contacts ms ++ contact_in m ∷ []) → k.asked ≤ peer.asked.0 → (peer.is_answered ≡ false → k.asked + w.retry ≤ peer.asked.0)
    → AllByRecursion (NotAfter w k.came) (paid_in m)
    → (AreOwn w k.rights k.came k.earlier k.own → AreOwn w k.rights k.came k.earlier (k.own ++ m ∷ []))
    → Holds w (ms ++ m ∷ [])
stay w ms k m peer no_came no_taking since_push keeps since again some all = grind (arith, nat_tests, taking_more, last_taking-push, came-same, contacts-push, charges-push, append_assoc, each-append)

-- what is full with a mile behind it is full without it
full-front : (earlier own : List Mile) (m : Mile) → IsFull earlier (own ++ m ∷ []) → IsFull earlier own
full-front earlier own m h3 = grind (arith, nat_tests, authorised-front)

-- a mile that shows nothing and is not charged leaves the charges as they are
pub idle : (w : Way) (rights : Rights) (came : ℕ) (earlier own : List Mile) (m : Mile) → uses_in (contact_in m) ≡ [] → paid_in m ≡ [] → AreOwn w rights came earlier own → AreOwn w rights came earlier (own ++ m ∷ [])
idle w rights came earlier own m no_use no_charge k =
    let cs : charges_in (own ++ m ∷ []) ≡ charges_in own = charges-push own m ∙ ap (λ (z : List Charge). charges_in own ++ z) no_charge ∙ append-nil (charges_in own) in
    let us : uses (contacts (own ++ m ∷ [])) ≡ uses (contacts own) = ap uses (contacts-push own m) ∙ uses-push (contacts own) (contact_in m) ∙ ap (λ (z : List Use). uses (contacts own) ++ z) no_use ∙ append-nil (uses (contacts own)) in
    record {
      grants = λ full. subst (AllByRecursion (λ (c : Charge). c.grant ≡ grant_at w rights came)) (sym cs) (k.grants (full-front earlier own m full));
      few = rw (cs, us) k.few;
      nonces = rw (cs, us) k.nonces;
    }

-- the first nonce after one more use that shows it
first-more : (us : List Use) (u : Use) (offered : ℕ) → u.nonce ≡ unwrap_or (first_nonce us) offered → Some u.nonce ≡ first_nonce (us ++ u ∷ [])
first-more us u offered e = grind (arith, nat_tests)

-- charges with the first nonce have that of one more use
nonces-stay : (us : List Use) (u : Use) (cs : List Charge) → AllByRecursion (λ c. Some c.nonce ≡ first_nonce us) cs → AllByRecursion (λ c. Some c.nonce ≡ first_nonce (us ++ u ∷ [])) cs
nonces-stay us u cs k = grind (arith, nat_tests, each-weaker)

-- a mile that shows the grant and is not charged
pub unpaid : (w : Way) (rights : Rights) (came : ℕ) (earlier own : List Mile) (m : Mile) (u : Use) → uses_in (contact_in m) ≡ u ∷ [] → paid_in m ≡ []
    → AreOwn w rights came earlier own → AreOwn w rights came earlier (own ++ m ∷ [])
unpaid w rights came earlier own m u one_use no_charge k =
    let cs : charges_in (own ++ m ∷ []) ≡ charges_in own = charges-push own m ∙ ap (λ (z : List Charge). charges_in own ++ z) no_charge ∙ append-nil (charges_in own) in
    let us : uses (contacts (own ++ m ∷ [])) ≡ uses (contacts own) ++ u ∷ [] = ap uses (contacts-push own m) ∙ uses-push (contacts own) (contact_in m) ∙ ap (λ (z : List Use). uses (contacts own) ++ z) one_use in
    let more : sum_by (λ (x : Use). x.length) (uses (contacts own) ++ u ∷ []) ≡ sum_by (λ (x : Use). x.length) (uses (contacts own)) + sum_by (λ (x : Use). x.length) (u ∷ []) =
    sum_by-append (λ (x : Use). x.length) (uses (contacts own)) (u ∷ []) in
    let few : sum_by (λ (c : Charge). c.length) (charges_in own) ≤ sum_by (λ (x : Use). x.length) (uses (contacts own) ++ u ∷ []) = omega (arith, more, k.few) in
    record {
      grants = λ full. subst (AllByRecursion (λ (c : Charge). c.grant ≡ grant_at w rights came)) (sym cs) (k.grants (full-front earlier own m full));
      few = rw (cs, us) few;
      nonces = rw (cs, us) (nonces-stay (uses (contacts own)) u (charges_in own) k.nonces);
    }

-- a mile that shows the grant and is charged
pub used : (w : Way) (rights : Rights) (came : ℕ) (earlier own : List Mile) (m : Mile) (u : Use) (c : Charge) (offered : ℕ) → uses_in (contact_in m) ≡ u ∷ [] → paid_in m ≡ c ∷ []
    → (IsFull earlier own → AllByRecursion (λ d. d.grant ≡ grant_at w rights came) (charges_in own) → c.grant ≡ grant_at w rights came)
    → c.length ≡ u.length → c.nonce ≡ u.nonce → u.nonce ≡ unwrap_or (first_nonce (uses (contacts own))) offered
    → AreOwn w rights came earlier own → AreOwn w rights came earlier (own ++ m ∷ [])
used w rights came earlier own m u c offered one_use one_charge grant length nonce first k =
    let cs : charges_in (own ++ m ∷ []) ≡ charges_in own ++ c ∷ [] = charges-push own m ∙ ap (λ (z : List Charge). charges_in own ++ z) one_charge in
    let us : uses (contacts (own ++ m ∷ [])) ≡ uses (contacts own) ++ u ∷ [] = ap uses (contacts-push own m) ∙ uses-push (contacts own) (contact_in m) ∙ ap (λ (z : List Use). uses (contacts own) ++ z) one_use in
    let more : sum_by (λ (x : Use). x.length) (uses (contacts own) ++ u ∷ []) ≡ sum_by (λ (x : Use). x.length) (uses (contacts own)) + sum_by (λ (x : Use). x.length) (u ∷ []) =
    sum_by-append (λ (x : Use). x.length) (uses (contacts own)) (u ∷ []) in
    let paid : sum_by (λ (x : Charge). x.length) (charges_in own ++ c ∷ []) ≡ sum_by (λ (x : Charge). x.length) (charges_in own) + sum_by (λ (x : Charge). x.length) (c ∷ []) =
    sum_by-append (λ (x : Charge). x.length) (charges_in own) (c ∷ []) in
    let one : sum_by (λ (x : Use). x.length) (u ∷ []) ≡ u.length + sum_by (λ (x : Use). x.length) [] = sum_by-cons (λ (x : Use). x.length) u [] in
    let other : sum_by (λ (x : Charge). x.length) (c ∷ []) ≡ c.length + sum_by (λ (x : Charge). x.length) [] = sum_by-cons (λ (x : Charge). x.length) c [] in
    let few : sum_by (λ (x : Charge). x.length) (charges_in own ++ c ∷ []) ≤ sum_by (λ (x : Use). x.length) (uses (contacts own) ++ u ∷ []) = omega (arith, more, paid, one, other, length, k.few) in
    record {
      grants = grind (arith, nat_tests, full-front, each-append);
      few = rw (cs, us) few;
      nonces = rw (cs, us) (each-append (λ (d : Charge). Some d.nonce ≡ first_nonce (uses (contacts own) ++ u ∷ [])) (charges_in own) (c ∷ [])
          (nonces-stay (uses (contacts own)) u (charges_in own) k.nonces)
          (ap Some nonce ∙ first-more (uses (contacts own)) u offered first, tt));
    }
