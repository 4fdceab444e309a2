-- What holds where a packet is authorised, row by row.
use Rattle.tva_flow.proofs.Common.{◌≡◌, ℕ, ◌+◌, ◌*◌, ◌<◌, ◌≤◌, Bool, true, false, not, ◌&&◌, ◌||◌, cond, eqb, ltb, leb, List, Option, Some, None, refl, sym, ap, ◌∙◌, subst, inl, inr, ◌⊎◌, arith, ltb-false, leb-false, and_right, Flow, Grant, router_second, Authorised, Expired, OverN, UnknownNonce, CacheFull, Superseded, Charge, same_grant, used, lives, holder, living_count, supersedes, list_verdict, nonce_verdict, nonce_rows, IsAuthorised}
use Rattle.tva_flow.proofs.Same.{same_grant-self}

rows_of : (b c d : Bool) (g k : Grant) → cond b Superseded (cond c OverN (cond d CacheFull (Authorised g))) ≡ Authorised k → (b ≡ false) × (c ≡ false) × (d ≡ false) × (g ≡ k)
rows_of b c d g k h = grind arith

-- no row but the last holds of an authorised packet that shows a grant
pub list_rows : (slots : ℕ) (h : List Charge) (now : ℕ) (g k : Grant) (bytes : ℕ) → list_verdict slots h now g bytes ≡ Authorised k
    → ((lives h g.flow now && supersedes (holder h g.flow) g) ≡ false) × (used h g now + bytes ≤ 1024 * g.rights.n) × (g ≡ k)
unfolding list_verdict
list_rows slots h now g k bytes t =
    let r = rows_of (lives h g.flow now && supersedes (holder h g.flow) g) (ltb (1024 * g.rights.n) (used h g now + bytes)) (not (lives h g.flow now) && leb slots (living_count h now)) g k t in
    (r.0, ltb-false (1024 * g.rights.n) (used h g now + bytes) r.1, r.3)

-- what holds of an authorised packet that shows a nonce
pub record IsHeld (offset : ℕ) (h : List Charge) (now bytes : ℕ) (g : Grant) (last : Option Charge) : Type 0 where
  pub charge : Charge
  pub is : last ≡ Some charge
  pub until : router_second offset now < charge.grant.second + charge.grant.rights.t
  pub room : used h charge.grant now + bytes ≤ 1024 * charge.grant.rights.n
  pub grant : charge.grant ≡ g

first_false : (a b d : Bool) (g k : Grant) → cond a UnknownNonce (cond b Expired (cond d OverN (Authorised g))) ≡ Authorised k → a ≡ false
first_false a b d g k h = grind arith

held_rows : (a b d : Bool) (g k : Grant) → cond a UnknownNonce (cond b Expired (cond d OverN (Authorised g))) ≡ Authorised k → (b ≡ false) × (d ≡ false) × (g ≡ k)
held_rows a b d g k h = grind arith

held_from : (offset : ℕ) (h : List Charge) (now : ℕ) (f : Flow) (nonce bytes : ℕ) (g : Grant) (o : Option Charge) → nonce_rows offset h now f nonce bytes o ≡ Authorised g → IsHeld offset h now bytes g o
held_from offset h now f nonce bytes g None t = absurd (cc)
held_from offset h now f nonce bytes g (Some c) t =
    let r = held_rows (not (lives h f now) || not (eqb c.nonce nonce)) (leb (c.grant.second + c.grant.rights.t) (router_second offset now)) (ltb (1024 * c.grant.rights.n) (used h c.grant now + bytes)) c.grant g t in
    record {
      charge = c;
      is = refl;
      until = leb-false (c.grant.second + c.grant.rights.t) (router_second offset now) r.0;
      room = ltb-false (1024 * c.grant.rights.n) (used h c.grant now + bytes) r.1;
      grant = r.2;
    }

pub held : (offset : ℕ) (h : List Charge) (now : ℕ) (f : Flow) (nonce bytes : ℕ) (g : Grant) → nonce_verdict offset h now f nonce bytes ≡ Authorised g → IsHeld offset h now bytes g (holder h f)
unfolding nonce_verdict
held offset h now f nonce bytes g t = held_from offset h now f nonce bytes g (holder h f) t

own_passes : (g k : Grant) → g ≡ k → (not (same_grant g k) && leb k.second g.second) ≡ false
own_passes g k e = ap (λ x. not x && leb k.second g.second) (subst (λ z. same_grant g z ≡ true) e (same_grant-self g))

-- what holds where a charge is authorised, by either table
pub authorised_rows : (slots offset : ℕ) (before : List Charge) (c : Charge) → IsAuthorised slots offset before c
    → ((lives before c.grant.flow c.time && supersedes (holder before c.grant.flow) c.grant) ≡ false) × (used before c.grant c.time + c.length ≤ 1024 * c.grant.rights.n)
authorised_rows slots offset before c v = elim v [
  | inl t ↦ (let r = list_rows slots before c.time c.grant c.grant c.length t in (r.0, r.1))
  | inr t ↦ (let r = held offset before c.time c.grant.flow c.nonce c.length c.grant t in (
    ap (λ x. lives before c.grant.flow c.time && x) (subst (λ o. supersedes o c.grant ≡ false) (sym r.is) (own_passes r.charge.grant c.grant r.grant)) ∙ and_right (lives before c.grant.flow c.time) false refl,
    subst (λ (z : Grant). used before z c.time + c.length ≤ 1024 * z.rights.n) r.grant r.room,
  ))
]

-- an authorised packet's flow lives, or fewer flows live than there are slots
opens : (b : Bool) (slots count : ℕ) → (not b && leb slots count) ≡ false → (b ≡ true) ⊎ (count < slots)
opens true slots count h = inl refl
opens false slots count h = inr (leb-false slots count h)

both_false : (a b : Bool) → (not a || b) ≡ false → a ≡ true
both_false a b h = grind arith

list_room : (slots : ℕ) (h : List Charge) (now : ℕ) (g k : Grant) (bytes : ℕ) → list_verdict slots h now g bytes ≡ Authorised k → (lives h g.flow now ≡ true) ⊎ (living_count h now < slots)
unfolding list_verdict
list_room slots h now g k bytes t =
    let r = rows_of (lives h g.flow now && supersedes (holder h g.flow) g) (ltb (1024 * g.rights.n) (used h g now + bytes)) (not (lives h g.flow now) && leb slots (living_count h now)) g k t in
    opens (lives h g.flow now) slots (living_count h now) r.2

nonce_lives : (offset : ℕ) (h : List Charge) (now : ℕ) (f : Flow) (nonce bytes : ℕ) (g : Grant) (o : Option Charge) → nonce_rows offset h now f nonce bytes o ≡ Authorised g → lives h f now ≡ true
nonce_lives offset h now f nonce bytes g None t = absurd (cc)
nonce_lives offset h now f nonce bytes g (Some c) t =
    both_false (lives h f now) (not (eqb c.nonce nonce)) (first_false (not (lives h f now) || not (eqb c.nonce nonce)) (leb (c.grant.second + c.grant.rights.t) (router_second offset now)) (ltb (1024 * c.grant.rights.n) (used h c.grant now + bytes)) c.grant g t)

held_room : (offset : ℕ) (h : List Charge) (now : ℕ) (f : Flow) (nonce bytes : ℕ) (g : Grant) → nonce_verdict offset h now f nonce bytes ≡ Authorised g → lives h f now ≡ true
unfolding nonce_verdict
held_room offset h now f nonce bytes g t = nonce_lives offset h now f nonce bytes g (holder h f) t

pub authorised_room : (slots offset : ℕ) (before : List Charge) (c : Charge) → IsAuthorised slots offset before c → (lives before c.grant.flow c.time ≡ true) ⊎ (living_count before c.time < slots)
authorised_room slots offset before c v = elim v [
  | inl t ↦ list_room slots before c.time c.grant c.grant c.length t
  | inr t ↦ inl (held_room offset before c.time c.grant.flow c.nonce c.length c.grant t)
]
