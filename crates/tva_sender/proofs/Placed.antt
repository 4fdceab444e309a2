-- What is looked up in a list of peers by their places.
use Rattle.tva_sender.proofs.Common.{◌≡◌, ℕ, zero, suc, ◌-◌, ◌<◌, ◌≤◌, Bool, false, ◌||◌, cond, eqb, List, [], ◌∷◌, ◌++◌, length, map, get_or, set, Option, Some, None, refl, sym, ap, subst, ◌∙◌, arith, nat_eq, is_some, lookup, cases_eq, eqb-true, eqb-false, ne_eqb, length-map, length-set, map-append, Peer, AreNear, Known, ArePlaced, IsNowhere, IsFirstAt, IsNearPeer}
use Rattle.std.proofs.lemmas.Bool.{eq-eqb}

abbrev pub addresses : List (ℕ × Peer) → List ℕ
addresses ps = map (λ (p : ℕ × Peer). p.0) ps

-- the peer at the place of its address
pub looked : (ps : List (ℕ × Peer)) (a i : ℕ) (d : ℕ × Peer) → IsFirstAt a (addresses ps) i → (i < length ps) × ((get_or ps i d).0 ≡ a) × (lookup (nat_eq a) ps ≡ Some (get_or ps i d).1)
looked [] a i d f = absurd f
looked (p ∷ ps) a zero d f = (omega arith, sym (eqb-true a p.0 f), rw f refl)
looked (p ∷ ps) a (suc i) d f = let r = looked ps a i d f.1 in (omega (arith, r.0), r.1, rw f.0 r.2)

pub strange : (ps : List (ℕ × Peer)) (a : ℕ) → IsNowhere a (addresses ps) → lookup (nat_eq a) ps ≡ None
strange [] a n = refl
strange (p ∷ ps) a n = rw n.0 (strange ps a n.1)

-- once it is changed
pub changed : (ps : List (ℕ × Peer)) (a i : ℕ) (x : ℕ × Peer) → IsFirstAt a (addresses ps) i → x.0 ≡ a → lookup (nat_eq a) (set ps i x) ≡ Some x.1
changed [] a i x f is = absurd f
changed (p ∷ ps) a zero x f is = rw (eq-eqb a x.0 (sym is)) refl
changed (p ∷ ps) a (suc i) x f is = rw f.0 (changed ps a i x f.1 is)

other : (a b q : ℕ) → b ≡ a → eqb a q ≡ false → eqb q b ≡ false
other a b q is apart = ne_eqb q b (λ e. eqb-false a q apart (sym (e ∙ is)))

pub changed-others : (ps : List (ℕ × Peer)) (a i : ℕ) (x : ℕ × Peer) → IsFirstAt a (addresses ps) i → x.0 ≡ a → (q : ℕ) → eqb a q ≡ false → lookup (nat_eq q) (set ps i x) ≡ lookup (nat_eq q) ps
changed-others [] a i x f is q apart = absurd f
changed-others (p ∷ ps) a zero x f is q apart = rw (other a x.0 q is apart, other a p.0 q (sym (eqb-true a p.0 f)) apart) refl
changed-others (p ∷ ps) a (suc i) x f is q apart = ap (cond (eqb q p.0) (Some p.1)) (changed-others ps a i x f.1 is q apart)

pub addresses-set : (ps : List (ℕ × Peer)) (a i : ℕ) (x : ℕ × Peer) → IsFirstAt a (addresses ps) i → x.0 ≡ a → addresses (set ps i x) ≡ addresses ps
addresses-set [] a i x f is = absurd f
addresses-set (p ∷ ps) a zero x f is = ap (λ (z : ℕ). z ∷ addresses ps) (is ∙ eqb-true a p.0 f)
addresses-set (p ∷ ps) a (suc i) x f is = ap (λ (z : List ℕ). p.0 ∷ z) (addresses-set ps a i x f.1 is)

-- one more
pub added : (ps : List (ℕ × Peer)) (a : ℕ) (p : Peer) → IsNowhere a (addresses ps) → lookup (nat_eq a) (ps ++ (a, p) ∷ []) ≡ Some p
added [] a p n = rw (eq-eqb a a refl) refl
added (x ∷ xs) a p n = rw n.0 (added xs a p n.1)

pub added-others : (ps : List (ℕ × Peer)) (a : ℕ) (p : Peer) (q : ℕ) → eqb a q ≡ false → lookup (nat_eq q) (ps ++ (a, p) ∷ []) ≡ lookup (nat_eq q) ps
added-others [] a p q apart = rw (other a a q refl apart) refl
added-others (x ∷ xs) a p q apart = ap (cond (eqb q x.0) (Some x.1)) (added-others xs a p q apart)

pub addresses-push : (ps : List (ℕ × Peer)) (a : ℕ) (p : Peer) → addresses (ps ++ (a, p) ∷ []) ≡ addresses ps ++ a ∷ []
addresses-push ps a p = map-append (λ (x : ℕ × Peer). x.0) ps ((a, p) ∷ [])

-- the same where the addresses are listed beside
pub at_place : (ps : List (ℕ × Peer)) (k : List ℕ) (a i : ℕ) (x : ℕ × Peer) → addresses ps ≡ k → IsFirstAt a k i → x ≡ get_or ps i x → (i < length ps) × (x.0 ≡ a) × (Some x.1 ≡ lookup (nat_eq a) ps)
at_place ps k a i x same first is =
    let r = looked ps a i x (subst (λ (z : List ℕ). IsFirstAt a z i) (sym same) first) in
    (r.0, ap (λ (z : ℕ × Peer). z.0) is ∙ r.1, ap (λ (z : ℕ × Peer). Some z.1) is ∙ sym r.2)

set_place : (ps : List (ℕ × Peer)) (k : List ℕ) (a i : ℕ) (x : ℕ × Peer) → addresses ps ≡ k → IsFirstAt a k i → x.0 ≡ a
    → (lookup (nat_eq a) (set ps i x) ≡ Some x.1) × ((q : ℕ) → eqb a q ≡ false → lookup (nat_eq q) (set ps i x) ≡ lookup (nat_eq q) ps) × (addresses (set ps i x) ≡ k)
set_place ps k a i x same first key =
    let f : IsFirstAt a (addresses ps) i = subst (λ (z : List ℕ). IsFirstAt a z i) (sym same) first in
    (changed ps a i x f key, λ q apart. changed-others ps a i x f key q apart, addresses-set ps a i x f key ∙ same)

pub no_place : (ps : List (ℕ × Peer)) (k : List ℕ) (a : ℕ) → addresses ps ≡ k → IsNowhere a k → None ≡ lookup (nat_eq a) ps
no_place ps k a same none = sym (strange ps a (subst (λ (z : List ℕ). IsNowhere a z) (sym same) none))

pub new_place : (ps : List (ℕ × Peer)) (k : List ℕ) (a : ℕ) (p : Peer) → addresses ps ≡ k → IsNowhere a k
    → (lookup (nat_eq a) (ps ++ (a, p) ∷ []) ≡ Some p) × ((q : ℕ) → eqb a q ≡ false → lookup (nat_eq q) (ps ++ (a, p) ∷ []) ≡ lookup (nat_eq q) ps) × (addresses (ps ++ (a, p) ∷ []) ≡ k ++ a ∷ [])
new_place ps k a p same none = (
  added ps a p (subst (λ (z : List ℕ). IsNowhere a z) (sym same) none),
  λ q apart. added-others ps a p q apart,
  addresses-push ps a p ∙ ap (λ (z : List ℕ). z ++ a ∷ []) same,
)

within_first : (xs : List ℕ) (a i : ℕ) → IsFirstAt a xs i → i < length xs
within_first [] a i f = absurd f
within_first (x ∷ xs) a zero f = omega arith
within_first (x ∷ xs) a (suc i) f = omega (arith, within_first xs a i f.1)

pub within_place : (ps : List (ℕ × Peer)) (k : List ℕ) (a i : ℕ) → addresses ps ≡ k → IsFirstAt a k i → i < length ps
within_place ps k a i same first = grind (arith, within_first, length-map)

-- who is known stays so where one peer is changed, and one more is where one is added
either : (b : Bool) (u v : Peer) (r s : Option Peer) → is_some r ≡ is_some s → is_some (cond b (Some u) r) ≡ is_some (cond b (Some v) s)
either b u v r s e = grind arith

or_more : (b : Bool) (u : Peer) (r s : Option Peer) (t : Bool) → is_some r ≡ (is_some s || t) → is_some (cond b (Some u) r) ≡ (is_some (cond b (Some u) s) || t)
or_more b u r s t e = grind arith

or_this : (b : Bool) (p : Peer) → is_some (cond b (Some p) None) ≡ b
or_this b p = grind arith

or_none : (b t : Bool) → t ≡ false → b ≡ (b || t)
or_none b t e = grind arith

known-set : (ps : List (ℕ × Peer)) (k : List ℕ) (a i : ℕ) (x : ℕ × Peer) → addresses ps ≡ k → IsFirstAt a k i → x.0 ≡ a → (q : ℕ) → is_some (lookup (nat_eq q) (set ps i x)) ≡ is_some (lookup (nat_eq q) ps)
known-set ps k a i x same first key q = go ps i (subst (λ (z : List ℕ). IsFirstAt a z i) (sym same) first)
  where
    go : (ps : List (ℕ × Peer)) (i : ℕ) → IsFirstAt a (addresses ps) i → is_some (lookup (nat_eq q) (set ps i x)) ≡ is_some (lookup (nat_eq q) ps)
    go [] i f = absurd f
    go (p ∷ ps) zero f =
        let e : x.0 ≡ p.0 = key ∙ eqb-true a p.0 f in
        subst (λ (z : ℕ). is_some (cond (eqb q z) (Some x.1) (lookup (nat_eq q) ps)) ≡ is_some (cond (eqb q p.0) (Some p.1) (lookup (nat_eq q) ps))) (sym e)
        (either (eqb q p.0) x.1 p.1 (lookup (nat_eq q) ps) (lookup (nat_eq q) ps) refl)
    go (p ∷ ps) (suc i) f = either (eqb q p.0) p.1 p.1 (lookup (nat_eq q) (set ps i x)) (lookup (nat_eq q) ps) (go ps i f.1)

pub known-found : (ps : List (ℕ × Peer)) (a : ℕ) (p : Peer) → Some p ≡ lookup (nat_eq a) ps → (q : ℕ) → is_some (lookup (nat_eq q) ps) ≡ (is_some (lookup (nat_eq q) ps) || eqb q a)
known-found ps a p found q = grind (arith, cases_eq, is_some, nat_eq, or_none, ne_eqb)

pub known-push : (ps : List (ℕ × Peer)) (a : ℕ) (p : Peer) (q : ℕ) → is_some (lookup (nat_eq q) (ps ++ (a, p) ∷ [])) ≡ (is_some (lookup (nat_eq q) ps) || eqb q a)
known-push [] a p q = or_this (eqb q a) p
known-push (x ∷ xs) a p q = or_more (eqb q x.0) x.1 (lookup (nat_eq q) (xs ++ (a, p) ∷ [])) (lookup (nat_eq q) xs) (eqb q a) (known-push xs a p q)

-- a peer that stands at a place, and what is looked up once it is kept anew
pub record IsFound (room : ℕ) (k : Known) (cap : ℕ) (ps : List (ℕ × Peer)) (a i : ℕ) (p p' : Peer) (x' : ℕ × Peer) : Type 0 where
  pub within : i < length ps
  pub found : Some p ≡ lookup (nat_eq a) ps
  pub here : lookup (nat_eq a) (set ps i x') ≡ Some p'
  pub others : (q : ℕ) → eqb a q ≡ false → lookup (nat_eq q) (set ps i x') ≡ lookup (nat_eq q) ps
  pub placed : ArePlaced room k (cap - length (set ps i x')) (set ps i x')
  pub known : (q : ℕ) → is_some (lookup (nat_eq q) (set ps i x')) ≡ is_some (lookup (nat_eq q) ps)

pub found_at : (room : ℕ) (k : Known) (cap : ℕ) (ps : List (ℕ × Peer)) (a i : ℕ) (x : ℕ × Peer) (p' : Peer) → ArePlaced room k (cap - length ps) ps → IsFirstAt a k.addresses i → x ≡ get_or ps i x → IsFound room k cap ps a i x.1 p' (x.0, p')
found_at room k cap ps a i x p' placed first value =
    let was = at_place ps k.addresses a i x placed.addresses first value in
    let new = set_place ps k.addresses a i (x.0, p') placed.addresses first was.1 in
    record {
      within = was.0;
      found = was.2;
      here = new.0;
      others = new.1;
      placed = record { addresses = new.2; places = placed.places; peers = omega (arith, placed.peers, length-set ps i (x.0, p')) };
      known = known-set ps k.addresses a i (x.0, p') placed.addresses first was.1;
    }

near-later : (last now : ℕ) (p : Peer) → last ≤ now → IsNearPeer last p → IsNearPeer now p
near-later last now p l n = grind arith

pub all-later : (last now : ℕ) (ps : List (ℕ × Peer)) → last ≤ now → AreNear last ps → AreNear now ps
all-later last now ps l all = λ q p found. near-later last now p l (all q p found)

pub near-found : (last now : ℕ) (ps : List (ℕ × Peer)) (a : ℕ) (p : Peer) → last ≤ now → AreNear last ps → Some p ≡ lookup (nat_eq a) ps → IsNearPeer now p
near-found last now ps a p l all found = near-later last now p l (all a p (sym found))
