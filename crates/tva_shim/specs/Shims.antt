-- Product: what a shim is, and which shims there are.
use Rattle.std.specs.Prelude.{ℕ, ◌^◌, ◌<◌, ◌≤◌, Bool, List, [], length}
use Rattle.tva_base.specs.Versions.{AreRights, IsVersion}
use Rattle.tva_shim.specs.declared.{entries.Entry.Entry, kinds.Shown.Shown, kinds.Kind.Kind}
use Rattle.tva_shim.specs.{declared.kinds.ReturnInfo.ReturnInfo, Widths.AreEntries, Widths.AreCaps}
use Rattle.tva_shim.specs.declared.kinds.Kind.TheVariants as kinds
use Rattle.tva_shim.specs.declared.kinds.ReturnInfo.TheVariants as backs

-- a shim as contracts see it
pub record ShimData : Type 0 where
  pub version : ℕ
  pub demoted : Bool
  pub protocol : ℕ
  pub kind : Kind
  pub back : ReturnInfo

-- the entries of a request; other kinds have none
abbrev pub entries_of : Kind → List Entry
entries_of (kinds.Request entries) = entries
entries_of _ = []

-- the capabilities of a list or a renewal; other kinds have none
abbrev pub caps_of : Kind → List ℕ
caps_of (kinds.List shown) = shown.caps
caps_of (kinds.Renewal shown) = shown.caps
caps_of _ = []

-- the capabilities of a grant
abbrev pub granted_caps : ReturnInfo → List ℕ
granted_caps (backs.Grant rights caps) = caps
granted_caps _ = []

-- in a shim of that version: a nonce of 48 bits, rights within the version's widths, and a pointer to a
-- capability or to their end
pub record IsShown (version : ℕ) (s : Shown) : Type 0 where
  pub nonce : s.nonce < 2 ^ 48
  pub pointer : s.pointer ≤ length s.caps
  pub rights : AreRights version s.rights

abbrev pub IsKind : ℕ → Kind → Type 0
IsKind version (kinds.Request entries) = Unit {0}
IsKind version (kinds.List shown) = IsShown version shown
IsKind version (kinds.Nonce nonce) = nonce < 2 ^ 48
IsKind version (kinds.Renewal shown) = IsShown version shown

abbrev pub IsReturn : ℕ → ReturnInfo → Type 0
IsReturn version (backs.Grant rights caps) = AreRights version rights
IsReturn version _ = Unit {0}

-- A shim whose numbers are within the widths of its version. Each value of the program is one.
pub record IsShim (s : ShimData) : Type 0 where
  pub version : IsVersion s.version
  pub protocol : s.protocol < 256
  pub kind : IsKind s.version s.kind
  pub entries : AreEntries (entries_of s.kind)
  pub caps : AreCaps (caps_of s.kind)
  pub back : IsReturn s.version s.back
  pub granted : AreCaps (granted_caps s.back)
