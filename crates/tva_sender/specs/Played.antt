-- Crate: which contacts a sender can have with one peer.
use Rattle.std.specs.Prelude.{◌≡◌, ℕ, ◌≤◌, true, List, [], ◌∷◌, ◌++◌, All}
use Rattle.tva_sender.specs.{declared.shape.Shape.Shape, Shapes.shape_of, Shapes.length_of}
use Rattle.tva_sender.specs.Contacts.{Contact, Prepared, Taken, Notice, awaits, is_within}

-- no packet was prepared later than that
abbrev pub IsUpTo : ℕ → Contact → Type 0
IsUpTo time (Prepared t s length) = t ≤ time
IsUpTo time (Taken rights caps) = Unit {0}
IsUpTo time Notice = Unit {0}

abbrev pub NoneLater : ℕ → List Contact → Type 0
NoneLater time cs = All (IsUpTo time) cs

-- a packet with a body of so many bytes and an offered nonce was prepared no earlier than those
-- before it, in the shape that the contacts before it give, and its length is that of the shape
pub record IsPrepared (margin retry version : ℕ) (before : List Contact) (time : ℕ) (s : Shape)
    (bytes : ℕ) : Type 0 where
  pub body : ℕ
  pub offered : ℕ
  pub order : NoneLater time before
  pub shape : s ≡ shape_of margin retry version before time body offered
  pub length : bytes ≡ length_of version s body

-- a contact may come after those before it: a grant is taken where the last ask isn't answered, and where
-- its rights are within the version
abbrev pub IsNext : ℕ → ℕ → ℕ → List Contact → Contact → Type 0
IsNext margin retry version before (Prepared time s length) = IsPrepared margin retry version before time s length
IsNext margin retry version before (Taken rights caps) = (awaits before ≡ true) × (is_within version rights ≡ true)
IsNext margin retry version before Notice = Unit {0}

-- after the contacts before, each contact is the next one
abbrev pub AreNext : ℕ → ℕ → ℕ → List Contact → List Contact → Type 0
AreNext margin retry version before [] = Unit {0}
AreNext margin retry version before (c ∷ cs) =
    IsNext margin retry version before c × AreNext margin retry version (before ++ c ∷ []) cs

-- a list of contacts with one peer that a sender can have that stays `margin` nanoseconds clear of
-- a grant's end, asks again after `retry` nanoseconds and makes shims of that version
abbrev pub IsPlayed : ℕ → ℕ → ℕ → List Contact → Type 0
IsPlayed margin retry version h = AreNext margin retry version [] h
