-- Kit: the parts of a layout, one after the other, and what it is to read one, for the proof of what decodes.
use Rattle.std.specs.Prelude.{◌≡◌, ℕ, ◌<◌, ◌≤◌, List, [], ◌∷◌, ◌++◌, length, All, flat_map, if◌then◌else◌, Bool, ◌+◌, ◌*◌, Option, Some, None, IfSome}
use Rattle.std.specs.Borrow.{Bor}
use Rattle.tva_base.specs.{declared.packet.Rights.Rights, Versions.AreRights, Versions.IsVersion}
use Rattle.tva_shim.specs.declared.{decoding.ShimType.ShimType, kinds.Shown.Shown, kinds.Kind.Kind}
use Rattle.tva_shim.specs.{declared.kinds.ReturnInfo.ReturnInfo, Widths.AreEntries, Widths.AreCaps}
use Rattle.tva_shim.specs.Shims.{IsKind, IsReturn, IsShown, entries_of, caps_of, granted_caps}
use Rattle.tva_shim.specs.Layout.{kind_code, return_bit, demoted_bit, rights_bytes, eight_bytes}

-- An answer of a reader: it is a part with the bytes after it, exactly where such a part stands at
-- the front of the bytes.
pub record Reads {A : Type 0} (Is : A → Type 0) (bytes_of : A → List ℕ) (bytes : List ℕ)
    (answer : Option (A × List ℕ)) : Type 0 where
  pub found : IfSome answer (λ x. Is x.0 × (bytes ≡ bytes_of x.0 ++ x.1))
  pub only : (part : A) (rest : List ℕ) → Is part → bytes ≡ bytes_of part ++ rest → answer ≡ Some (part, rest)

-- an answer with the bytes that its reference points to
abbrev pub seen : {A : Type 0} → Option (A × Bor (List ℕ)) → Option (A × List ℕ)
seen None = None
seen (Some x) = Some (x.0, x.1.now)

abbrev pub IsBelow : ℕ → ℕ → Type 0
IsBelow limit n = n < limit

abbrev pub IsAtMost : ℕ → ℕ → Type 0
IsAtMost limit n = n ≤ limit

abbrev pub one_byte : ℕ → List ℕ
one_byte n = n ∷ []

-- so many elements of a kind
abbrev pub AreSoMany : {A : Type 0} → (A → Type 0) → ℕ → List A → Type 0
AreSoMany Is count xs = All Is xs × (length xs ≡ count)

abbrev pub IsWholeShown : ℕ → Shown → Type 0
IsWholeShown version s = IsShown version s × AreCaps s.caps

-- what the first byte says, with its version and its code of a kind
pub record IsType (t : ShimType) : Type 0 where
  pub version : IsVersion t.version
  pub kind : t.kind ≤ 3

abbrev pub returns_bit : Bool → ℕ
returns_bit returns = if returns then 4 else 0

abbrev pub type_bytes : ShimType → List ℕ
type_bytes t = one_byte (t.version * 16 + demoted_bit t.demoted + returns_bit t.returns + t.kind)

-- a grant's rights and capabilities
abbrev pub IsGrant : ℕ → Rights × List ℕ → Type 0
IsGrant version grant = AreRights version grant.0 × AreCaps grant.1

abbrev pub grant_bytes : ℕ → Rights × List ℕ → List ℕ
grant_bytes version grant = one_byte (length grant.1) ++ rights_bytes version grant.0 ++ flat_map eight_bytes grant.1

-- the part of a kind and that of the return info in a version, with their bits of the first byte
pub record IsKindPart (version number : ℕ) (k : Kind) : Type 0 where
  pub kind : IsKind version k
  pub entries : AreEntries (entries_of k)
  pub caps : AreCaps (caps_of k)
  pub code : kind_code k ≡ number

pub record IsReturnPart (version number : ℕ) (b : ReturnInfo) : Type 0 where
  pub back : IsReturn version b
  pub granted : AreCaps (granted_caps b)
  pub bit : return_bit b ≡ number
