-- Crate: what a shim of a version can carry.
use Rattle.std.specs.Prelude.{ℕ, ◌^◌, ◌<◌, List, [], ◌∷◌}
use Rattle.tva_base.specs.{declared.addresses.Address.Address, Versions.AreRights}
use Rattle.tva_sender.specs.declared.shape.{Held.Held, Shape.Shape}
use Rattle.tva_sender.specs.Contacts.{Contact, Prepared, Taken, Notice}
use Rattle.tva_sender.specs.declared.shape.Shape.TheVariants as shape

-- a nonce of 48 bits
abbrev pub IsNonce : ℕ → Type 0
IsNonce nonce = nonce < 2 ^ 48

pub record IsShowableHeld (version : ℕ) (held : Held) : Type 0 where
  pub nonce : IsNonce held.nonce
  pub rights : AreRights version held.rights

-- a shim can carry what the shape shows
abbrev pub IsShowable : ℕ → Shape → Type 0
IsShowable version shape.Request = Unit {0}
IsShowable version (shape.List held) = IsShowableHeld version held
IsShowable version (shape.NonceOnly nonce) = IsNonce nonce
IsShowable version (shape.Renewal held) = IsShowableHeld version held
IsShowable version shape.Legacy = Unit {0}

-- a shim could carry what was prepared or taken
abbrev pub IsShowableContact : ℕ → Contact → Type 0
IsShowableContact version (Prepared time s length) = IsShowable version s
IsShowableContact version (Taken rights caps) = AreRights version rights
IsShowableContact version Notice = Unit {0}

abbrev pub AreShowable : ℕ → List (Address × Contact) → Type 0
AreShowable version [] = Unit {0}
AreShowable version (c ∷ cs) = IsShowableContact version c.1 × AreShowable version cs
