-- Product: the layout of a shim, by cases. Each number stands with its highest byte first. The versions differ in
-- the bytes of rights alone.
use Rattle.std.specs.Prelude.{◌≢◌, ℕ, ◌+◌, ◌*◌, Bool, List, [], ◌∷◌, ◌++◌, length, flat_map, if◌then◌else◌}
use Rattle.byteorder.specs.Endian.{big_bytes}
use Rattle.tva_base.specs.{declared.packet.Rights.Rights, Versions.rights_number, Versions.rights_size}
use Rattle.tva_shim.specs.declared.{entries.Entry.Entry, kinds.Shown.Shown, kinds.Kind.Kind}
use Rattle.tva_shim.specs.{declared.kinds.ReturnInfo.ReturnInfo, Shims.ShimData, Shims.IsShim}
use Rattle.tva_shim.specs.declared.kinds.Kind.TheVariants as kinds
use Rattle.tva_shim.specs.declared.kinds.ReturnInfo.TheVariants as backs

-- a number in two bytes, in six and in eight
unfoldable pub two_bytes : ℕ → List ℕ
two_bytes n = big_bytes 2 n

unfoldable pub six_bytes : ℕ → List ℕ
six_bytes n = big_bytes 6 n

unfoldable pub eight_bytes : ℕ → List ℕ
eight_bytes n = big_bytes 8 n

-- a number in the bytes that rights have in a version
unfoldable pub number_bytes : ℕ → ℕ → List ℕ
number_bytes version n = big_bytes (rights_size version) n

abbrev pub rights_bytes : ℕ → Rights → List ℕ
rights_bytes version rights = number_bytes version (rights_number version rights)

abbrev pub entry_bytes : Entry → List ℕ
entry_bytes entry = two_bytes entry.tag ++ eight_bytes entry.precap

abbrev pub shown_bytes : ℕ → Shown → List ℕ
shown_bytes version s =
    six_bytes s.nonce ++ length s.caps ∷ s.pointer ∷ [] ++ rights_bytes version s.rights ++ flat_map eight_bytes s.caps

-- the part of the kind
abbrev pub kind_bytes : ℕ → Kind → List ℕ
kind_bytes version (kinds.Request entries) = length entries ∷ flat_map entry_bytes entries
kind_bytes version (kinds.List shown) = shown_bytes version shown
kind_bytes version (kinds.Nonce nonce) = six_bytes nonce
kind_bytes version (kinds.Renewal shown) = shown_bytes version shown

abbrev pub return_bytes : ℕ → ReturnInfo → List ℕ
return_bytes version backs.Nothing = []
return_bytes version backs.Notice = 1 ∷ []
return_bytes version (backs.Grant rights caps) =
    2 ∷ length caps ∷ [] ++ rights_bytes version rights ++ flat_map eight_bytes caps

-- the lowest two bits of the first byte
abbrev pub kind_code : Kind → ℕ
kind_code (kinds.Request entries) = 0
kind_code (kinds.List shown) = 1
kind_code (kinds.Nonce nonce) = 2
kind_code (kinds.Renewal shown) = 3

-- bit 2, where there is return info
abbrev pub return_bit : ReturnInfo → ℕ
return_bit backs.Nothing = 0
return_bit _ = 4

-- bit 3, the demoted mark
abbrev pub demoted_bit : Bool → ℕ
demoted_bit demoted = if demoted then 8 else 0

-- the version in the high four bits, and the type in the low four
abbrev pub version_and_type : ShimData → ℕ
version_and_type s = s.version * 16 + demoted_bit s.demoted + return_bit s.back + kind_code s.kind

-- the bytes of a shim
unfoldable pub layout : ShimData → List ℕ
layout s = version_and_type s ∷ s.protocol ∷ [] ++ kind_bytes s.version s.kind ++ return_bytes s.version s.back

-- bytes that are the layout of no shim
abbrev pub HaveNoShim : List ℕ → Type 0
HaveNoShim bytes = (s : ShimData) → IsShim s → layout s ≢ bytes

-- how many bytes those are, by what the shim has
abbrev pub kind_size : ℕ → Kind → ℕ
kind_size version (kinds.Request entries) = 3 + 10 * length entries
kind_size version (kinds.List shown) = 10 + rights_size version + 8 * length shown.caps
kind_size version (kinds.Nonce nonce) = 8
kind_size version (kinds.Renewal shown) = 10 + rights_size version + 8 * length shown.caps

abbrev pub return_size : ℕ → ReturnInfo → ℕ
return_size version backs.Nothing = 0
return_size version backs.Notice = 1
return_size version (backs.Grant rights caps) = 2 + rights_size version + 8 * length caps

abbrev pub shim_size : ShimData → ℕ
shim_size s = kind_size s.version s.kind + return_size s.version s.back
