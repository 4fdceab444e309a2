-- What one more contact leaves of a list that a sender can have.
use Rattle.tva_sender.proofs.Common.{◌≡◌, ℕ, ◌≤◌, List, [], ◌∷◌, ◌++◌, Some, refl, sym, subst, arith, append_assoc, append-nil, All-push, All-weaker, Shape, Peer, Contact, Prepared, shape_of, length_of, by_grant, may_ask, IsUpTo, NoneLater, IsNext, AreNext, Keeps, IsStrange}
use Rattle.tva_sender.specs.declared.shape.Shape.TheVariants as shape

up_to-later : (last now : ℕ) → last ≤ now → (c : Contact) → IsUpTo last c → IsUpTo now c
up_to-later last now l c q = grind arith

pub none-later : (last now : ℕ) (cs : List Contact) → last ≤ now → NoneLater last cs → NoneLater now cs
none-later last now cs l p = All-weaker (IsUpTo last) (IsUpTo now) (up_to-later last now l) cs p

pub none-push : (last : ℕ) (cs : List Contact) (c : Contact) → NoneLater last cs → IsUpTo last c → NoneLater last (cs ++ c ∷ [])
none-push last cs c p q = All-push (IsUpTo last) cs c p q

pub next-push : (margin retry version : ℕ) (before cs : List Contact) (c : Contact) → AreNext margin retry version before cs → IsNext margin retry version (before ++ cs) c
    → AreNext margin retry version before (cs ++ c ∷ [])
next-push margin retry version before [] c a n = (subst (λ z. IsNext margin retry version z c) (append-nil before) n, tt)
next-push margin retry version before (d ∷ ds) c a n =
    (a.0, next-push margin retry version (before ++ d ∷ []) ds c a.1 (subst (λ z. IsNext margin retry version z c) (sym (append_assoc before (d ∷ []) ds)) n))

-- a packet in the shape that the contacts before it give
pub next-prepared : (margin retry version last : ℕ) (h : List Contact) (now body offered : ℕ) (s : Shape) → last ≤ now → NoneLater last h
    → s ≡ shape_of margin retry version h now body offered → IsNext margin retry version h (Prepared now s (length_of version s body))
next-prepared margin retry version last h now body offered s l p is = grind (arith, none-later)

-- the shape by what is kept of a peer is that by what happened with it
pub shape-kept : (margin retry version : ℕ) (p : Peer) (h : List Contact) (now body offered : ℕ) → Keeps p h
    → by_grant margin version (may_ask retry (Some p.asked) now) p.grant now body offered ≡ shape_of margin retry version h now body offered
shape-kept margin retry version p h now body offered k = rw (k.asked, k.grant) refl

-- for a peer that isn't known it is a request
pub shape-strange : (margin retry version : ℕ) (h : List Contact) (now body offered : ℕ) → IsStrange h → shape.Request ≡ shape_of margin retry version h now body offered
shape-strange margin retry version h now body offered strange = rw (strange.asked, strange.grant) refl
