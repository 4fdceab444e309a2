-- Product: the text of a shim: words joined by blanks.
use Rattle.std.specs.Prelude.{◌≡◌, ◌⊎◌, ℕ, Bool, if◌then◌else◌, List, [], ◌∷◌, ◌++◌, map, flat_map, codes, decimal}
use Rattle.std.specs.List.{join_with_byte}
use Rattle.byteorder.specs.Endian.{big_bytes}
use Rattle.hex.specs.Hex.{encode_lower}
use Rattle.tva_base.specs.declared.packet.Rights.{Rights}
use Rattle.tva_shim.specs.declared.{entries.Entry.Entry, kinds.Shown.Shown, kinds.Kind.Kind}
use Rattle.tva_shim.specs.{declared.kinds.ReturnInfo.ReturnInfo, Shims.ShimData, Shims.IsShim}
use Rattle.tva_shim.specs.Layout.{HaveNoShim, layout}
use Rattle.tva_shim.specs.declared.kinds.Kind.TheVariants as kinds
use Rattle.tva_shim.specs.declared.kinds.ReturnInfo.TheVariants as backs

-- a number in so many bytes, two digits each
abbrev pub digits_of : ℕ → ℕ → List ℕ
digits_of count n = encode_lower (big_bytes count n)

-- words with a comma between them, or a dash
abbrev pub or_dash : List (List ℕ) → List ℕ
or_dash [] = codes "-"
or_dash (word ∷ words) = join_with_byte 44 (word ∷ words)

abbrev pub entry_word : Entry → List ℕ
entry_word e = digits_of 2 e.tag ++ codes ":" ++ digits_of 8 e.precap

abbrev pub entries_word : List Entry → List ℕ
entries_word entries = codes "entries=" ++ or_dash (map entry_word entries)

abbrev pub caps_word : List ℕ → List ℕ
caps_word caps = codes "caps=" ++ or_dash (map (digits_of 8) caps)

abbrev pub rights_words : Rights → List (List ℕ)
rights_words r = (codes "n=" ++ decimal r.n) ∷ (codes "t=" ++ decimal r.t) ∷ []

abbrev pub nonce_word : ℕ → List ℕ
nonce_word nonce = codes "nonce=" ++ digits_of 6 nonce

abbrev pub shown_words : Shown → List (List ℕ)
shown_words s =
    nonce_word s.nonce ∷ (codes "pointer=" ++ decimal s.pointer) ∷ rights_words s.rights ++ (caps_word s.caps ∷ [])

abbrev pub kind_name : Kind → List ℕ
kind_name (kinds.Request entries) = codes "request"
kind_name (kinds.List shown) = codes "list"
kind_name (kinds.Nonce nonce) = codes "nonce"
kind_name (kinds.Renewal shown) = codes "renewal"

abbrev pub kind_words : Kind → List (List ℕ)
kind_words (kinds.Request entries) = entries_word entries ∷ []
kind_words (kinds.List shown) = shown_words shown
kind_words (kinds.Nonce nonce) = nonce_word nonce ∷ []
kind_words (kinds.Renewal shown) = shown_words shown

abbrev pub return_words : ReturnInfo → List (List ℕ)
return_words backs.Nothing = codes "return=-" ∷ []
return_words backs.Notice = codes "return=notice" ∷ []
return_words (backs.Grant rights caps) = codes "return=grant" ∷ rights_words rights ++ (caps_word caps ∷ [])

abbrev pub demoted_word : Bool → List ℕ
demoted_word demoted = codes "demoted=" ++ (if demoted then codes "1" else codes "0")

abbrev pub head_words : ShimData → List (List ℕ)
head_words s = kind_name s.kind ∷ demoted_word s.demoted ∷ (codes "protocol=" ++ decimal s.protocol) ∷ []

-- the words of a shim, each with a blank before it
abbrev pub spaced : List (List ℕ) → List ℕ
spaced words = flat_map (λ word. 32 ∷ word) words

-- the text of a shim
unfoldable pub shim_line : ShimData → List ℕ
shim_line s = codes "v" ++ decimal s.version ++ spaced (head_words s ++ kind_words s.kind ++ return_words s.back)

-- the text of bytes: that of the shim whose layout they are, or that there is none
abbrev pub IsTextOf : List ℕ → List ℕ → Type 0
IsTextOf bytes text =
    ((s : ShimData) × IsShim s × (layout s ≡ bytes) × (text ≡ shim_line s))
    ⊎ (HaveNoShim bytes × (text ≡ codes "malformed"))
