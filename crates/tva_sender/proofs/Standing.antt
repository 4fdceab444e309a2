-- The history after one more contact.
use Rattle.tva_sender.proofs.Common.{◌≡◌, ◌≤◌, ℕ, Bool, not, ◌&&◌, true, false, cond, eqb, List, [], ◌∷◌, ◌++◌, Option, Some, None, Result, OnOk, IsOk, append-nil, refl, ap, sym, subst, ◌∙◌, arith, eq-eqb, nat_eq, lookup, and_parts, cases_eq, nat_tests, Address, Peer, Rights, Contact, Taken, is_within, AreNear, answered, IsNearPeer, Book, peer_at, of_peer, Keeps, IsStrange, IsKept, StandsFor, IsUpTo, NoneLater, IsNext, IsPlayed, common_steps}
use Rattle.tva_sender.proofs.Keeping.{keeps_answered}
use Rattle.tva_sender.proofs.Playing.{none-later, none-push, next-push}

pub of_peer-push : (a : Address) (h : List (Address × Contact)) (c : Address × Contact) → of_peer a (h ++ c ∷ []) ≡ cond (eqb a.0 c.0.0) (of_peer a h ++ c.1 ∷ []) (of_peer a h)
of_peer-push a [] c = refl
of_peer-push a (d ∷ ds) c = grind (arith, of_peer-push a ds c)

abbrev address : ℕ → Address
address n = record { 0 = n }

-- the rules are the same, and the last time is no earlier
pub record IsAfter (v w : Book) : Type 0 where
  pub margin : w.margin ≡ v.margin
  pub retry : w.retry ≡ v.retry
  pub version : w.version ≡ v.version
  pub last : v.last ≤ w.last

abbrev pub same_rules : (v w : Book) → w.margin ≡ v.margin → w.retry ≡ v.retry → w.version ≡ v.version → v.last ≤ w.last → IsAfter v w
same_rules v w margin retry version last = record { margin = margin; retry = retry; version = version; last = last }

-- a fact on each peer's contacts, after one more contact with one peer
pub each-more : (P : List Contact → Type 0) (h : List (Address × Contact)) (a : Address) (c : Contact) → ((b : Address) → P (of_peer b h)) → P (of_peer a h ++ c ∷ [])
    → (b : Address) → P (of_peer b (h ++ (a, c) ∷ []))
each-more P h a c each more b = grind (arith, of_peer-push, eq-eqb, cases_eq)

played-after : (v w : Book) (h : List (Address × Contact)) → StandsFor v h → IsAfter v w → (b : Address) → IsPlayed w.margin w.retry w.version (of_peer b h)
played-after v w h s after b = rw (after.margin, after.retry, after.version) (s.played b)

times-after : (v w : Book) (h : List (Address × Contact)) → StandsFor v h → IsAfter v w → (b : Address) → NoneLater w.last (of_peer b h)
times-after v w h s after b = none-later v.last w.last (of_peer b h) after.last (s.times b)

-- one peer is kept anew, after one more contact with it
pub stands_more : (v w : Book) (h : List (Address × Contact)) (a : Address) (c : Contact) → StandsFor v h → IsAfter v w
    → IsNext v.margin v.retry v.version (of_peer a h) c → IsUpTo w.last c
    → ((q : ℕ) → eqb a.0 q ≡ false → lookup (nat_eq q) w.peers ≡ lookup (nat_eq q) v.peers) → IsKept (peer_at a w.peers) (of_peer a h ++ c ∷ []) → StandsFor w (h ++ (a, c) ∷ [])
stands_more v w h a c s after next up_to others kept = grind (arith, common_steps, nat_tests, of_peer-push, eq-eqb, nat_eq, cases_eq, each-more, played-after, next-push, times-after, none-push)

-- nothing is kept anew
pub stands_same : (v w : Book) (h : List (Address × Contact)) (a : Address) → StandsFor v h → IsAfter v w
    → ((q : ℕ) → eqb a.0 q ≡ false → lookup (nat_eq q) w.peers ≡ lookup (nat_eq q) v.peers) → peer_at a w.peers ≡ peer_at a v.peers → StandsFor w h
stands_same v w h a s after others here = grind (arith, nat_eq, cases_eq, played-after, times-after)

-- a peer that was found and was changed
pub stands_at : (v w : Book) (h : List (Address × Contact)) (a : Address) (c : Contact) (p p' : Peer) → StandsFor v h → IsAfter v w
    → (Keeps p (of_peer a h) → IsNext v.margin v.retry v.version (of_peer a h) c) → IsUpTo w.last c
    → Some p ≡ peer_at a v.peers → peer_at a w.peers ≡ Some p' → ((q : ℕ) → eqb a.0 q ≡ false → lookup (nat_eq q) w.peers ≡ lookup (nat_eq q) v.peers)
    → (Keeps p (of_peer a h) → Keeps p' (of_peer a h ++ c ∷ [])) → StandsFor w (h ++ (a, c) ∷ [])
stands_at v w h a c p p' s after next up_to found here others step = grind (arith, stands_more)

-- a peer that isn't known
pub strange_at : (v : Book) (h : List (Address × Contact)) (a : Address) → StandsFor v h → None ≡ peer_at a v.peers → IsStrange (of_peer a h)
strange_at v h a s found = subst (λ (o : Option Peer). IsKept o (of_peer a h)) (sym found) (s.kept a)

-- a grant of a peer that was found, taken or ignored
pub stands_taken : (v w : Book) (h : List (Address × Contact)) (a : Address) (rights : Rights) (caps : List ℕ) (p p' : Peer) (taken : Bool) → StandsFor v h → IsAfter v w
    → taken ≡ (not p.is_answered && is_within v.version rights)
    → Some p ≡ peer_at a v.peers → peer_at a w.peers ≡ Some p' → ((q : ℕ) → eqb a.0 q ≡ false → lookup (nat_eq q) w.peers ≡ lookup (nat_eq q) v.peers)
    → (taken ≡ true → p' ≡ answered p rights caps) → (taken ≡ false → p' ≡ p) → StandsFor w (h ++ cond taken ((a, Taken rights caps) ∷ []) [])
stands_taken v w h a rights caps p p' true s after awaits found here others change same = grind (arith, stands_at, and_parts, keeps_answered)
stands_taken v w h a rights caps p p' false s after awaits found here others change same = rw (append-nil h) (stands_same v w h a s after others (here ∙ ap Some (same refl) ∙ found))

-- what holds where a call succeeds, which it does
pub on_ok : {T E : Type 0} (P : Type 0) (r : Result T E) → OnOk r P → IsOk r → P
on_ok P r h k = grind arith

one_some : {X : Type 0} (o : Option X) (x y : X) → o ≡ Some x → o ≡ Some y → x ≡ y
one_some o x y e d = cc

-- what is kept of each peer stays near where one peer was changed
pub near_after : (last : ℕ) (old new : List (ℕ × Peer)) (at : ℕ) (p : Peer) → AreNear last old → IsNearPeer last p → lookup (nat_eq at) new ≡ Some p
    → ((q : ℕ) → eqb at q ≡ false → lookup (nat_eq q) new ≡ lookup (nat_eq q) old) → AreNear last new
near_after last old new at p all near here others = grind (arith, nat_eq, one_some, cases_eq)
