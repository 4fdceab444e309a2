-- What is shown, a grant and a shim are read as their parts are.
use Rattle.tva_shim.proofs.Common.{◌≡◌, ℕ, ◌+◌, ◌*◌, ◌^◌, ◌≤◌, Bool, true, false, List, [], ◌∷◌, ◌++◌, length, Some, None, refl, ap, ◌∙◌, append_assoc, append-nil, arith, ◌==◌, flat_map, Rights, AreRights, ShimType, Shown, Kind, ReturnInfo, IsCap, ShimData, IsShim, six_bytes, eight_bytes, rights_bytes, shown_bytes, kind_bytes, kind_code, return_bytes, return_bit, demoted_bit, layout, Reads, IsBelow, IsAtMost, one_byte, AreSoMany, IsWholeShown, IsType, type_bytes, returns_bit, IsKindPart, IsReturnPart, IsGrant, grant_bytes}
use Rattle.tva_shim.specs.declared.kinds.ReturnInfo.TheVariants as backs
use Rattle.tva_shim.proofs.Reading.{IsBoth, both, some_pair}

-- ---- what is shown: its nonce, the count, the pointer, the rights, and the capabilities

abbrev pub ShownParts : Type 0
ShownParts = ℕ × (ℕ × (ℕ × (Rights × List ℕ)))

abbrev pub AreShownParts : ℕ → ShownParts → Type 0
AreShownParts version = IsBoth (IsBelow (2 ^ 48)) (λ nonce. IsBoth (IsAtMost 16) (λ count. IsBoth (IsAtMost count) (λ pointer. IsBoth (AreRights version) (λ rights. AreSoMany IsCap count))))

abbrev pub shown_parts : ℕ → ShownParts → List ℕ
shown_parts version = both six_bytes (λ nonce. both one_byte (λ count. both one_byte (λ pointer. both (rights_bytes version) (λ rights. flat_map eight_bytes))))

abbrev pub shown_of : ShownParts → Shown
shown_of p = record { nonce = p.0; pointer = p.1.1.0; rights = p.1.1.1.0; caps = p.1.1.1.1 }

shown-regrouped : (a : List ℕ) (n m : ℕ) (r c : List ℕ) → a ++ n ∷ m ∷ [] ++ r ++ c ≡ a ++ (n ∷ m ∷ (r ++ c))
shown-regrouped a n m r c = simp append_assoc

pub shown_there : (version : ℕ) (p : ShownParts) → AreShownParts version p → IsWholeShown version (shown_of p) × (shown_parts version p ≡ shown_bytes version (shown_of p))
unfolding both
shown_there version p are = grind (arith, flat_map, shown-regrouped)

pub shown_back : (version : ℕ) (s : Shown) → IsWholeShown version s → (p : ShownParts) × AreShownParts version p × (shown_bytes version s ≡ shown_parts version p) × (shown_of p ≡ s)
unfolding both
shown_back version s is = (
  (s.nonce, (length s.caps, (s.pointer, (s.rights, s.caps)))),
  record { first = is.0.nonce; second = record { first = is.1.few; second = record { first = is.0.pointer; second = record { first = is.0.rights; second = (is.1.each, refl) } } } },
  shown-regrouped (six_bytes s.nonce) (length s.caps) s.pointer (rights_bytes version s.rights) (flat_map eight_bytes s.caps),
  refl,
)

-- ---- a shim: the first byte, the protocol, the part of the kind, and the return info

abbrev pub ShimParts : Type 0
ShimParts = ShimType × (ℕ × (Kind × ReturnInfo))

abbrev pub AreShimParts : ShimParts → Type 0
AreShimParts = IsBoth IsType (λ first. IsBoth (IsAtMost 255) (λ protocol. IsBoth (IsKindPart first.version first.kind) (λ kind. IsReturnPart first.version (returns_bit first.returns))))

-- the parts behind the first byte are laid out in its version
abbrev pub behind_type : ShimType → ℕ × (Kind × ReturnInfo) → List ℕ
behind_type first = both one_byte (λ protocol. both (kind_bytes first.version) (λ kind. return_bytes first.version))

abbrev pub shim_parts : ShimParts → List ℕ
shim_parts = both type_bytes behind_type

abbrev pub shim_of : ShimParts → ShimData
shim_of p = record { version = p.0.version; demoted = p.0.demoted; protocol = p.1.0; kind = p.1.1.0; back = p.1.1.1 }

pub shim_there : (p : ShimParts) → AreShimParts p → IsShim (shim_of p) × (shim_parts p ≡ layout (shim_of p))
unfolding both layout
shim_there p are = grind arith

abbrev has_return : ReturnInfo → Bool
has_return backs.Nothing = false
has_return backs.Notice = true
has_return (backs.Grant rights caps) = true

return_bit-is : (back : ReturnInfo) → return_bit back ≡ returns_bit (has_return back)
return_bit-is back = grind arith

kind_code-small : (kind : Kind) → kind_code kind ≤ 3
kind_code-small kind = grind arith

pub shim_back : (s : ShimData) → IsShim s → (p : ShimParts) × AreShimParts p × (layout s ≡ shim_parts p) × (shim_of p ≡ s)
unfolding both layout
shim_back s is = (
  (record { version = s.version; demoted = s.demoted; returns = has_return s.back; kind = kind_code s.kind }, (s.protocol, (s.kind, s.back))),
  record {
    first = record { version = is.version; kind = kind_code-small s.kind };
    second = record {
      first = omega (arith, is.protocol);
      second = record {
        first = record { kind = is.kind; entries = is.entries; caps = is.caps; code = refl };
        second = record { back = is.back; granted = is.granted; bit = return_bit-is s.back };
      };
    };
  },
  ap (λ n. (s.version * 16 + demoted_bit s.demoted + n + kind_code s.kind) ∷ s.protocol ∷ (kind_bytes s.version s.kind ++ return_bytes s.version s.back)) (return_bit-is s.back),
  refl,
)

-- ---- return info that begins with the byte of a grant

-- it is a grant, whose parts begin the bytes after that one
granted : {bytes mid : List ℕ} (version form : ℕ) → form ≡ 2 → Reads (IsAtMost 255) one_byte bytes (Some (form, mid)) → (back : ReturnInfo) (rest : List ℕ) → IsReturnPart version 4 back
    → bytes ≡ return_bytes version back ++ rest → (grant : Rights × List ℕ) × IsGrant version grant × (mid ≡ grant_bytes version grant ++ rest) × (backs.Grant grant.0 grant.1 ≡ back)
granted version form form-is r backs.Nothing rest is begins = absurd (omega (arith, is.bit))
granted version form form-is r backs.Notice rest is begins = cc
granted version form form-is r (backs.Grant rights caps) rest is begins =
    let e = some_pair _ _ _ _ (r.only 2 (grant_bytes version (rights, caps) ++ rest) (omega arith) begins) in
    ((rights, caps), (is.back, is.granted), e.1, refl)

pub grant_missing : {bytes mid : List ℕ} (version : ℕ) (returns : Bool) → returns ≡ true → (form : ℕ) → form ≡ 2 → Reads (IsAtMost 255) one_byte bytes (Some (form, mid)) → Reads (IsGrant version) (grant_bytes version) mid None
    → Reads (IsReturnPart version (returns_bit returns)) (return_bytes version) bytes None
grant_missing version returns there form form-is r s = rw there record {
  found = tt;
  only = λ back rest is begins.
      let g = granted version form form-is r back rest is begins in
      let e = s.only g.0 rest g.1 g.2 in
      absurd cc;
}

pub grant_read : {bytes mid rest : List ℕ} (version : ℕ) (returns : Bool) → returns ≡ true → (form : ℕ) → form ≡ 2 → (rights : Rights) (caps : List ℕ) → Reads (IsAtMost 255) one_byte bytes (Some (form, mid))
    → Reads (IsGrant version) (grant_bytes version) mid (Some ((rights, caps), rest)) → Reads (IsReturnPart version (returns_bit returns)) (return_bytes version) bytes (Some (backs.Grant rights caps, rest))
grant_read {mid = mid} {rest = rest} version returns there form form-is rights caps r s = rw there record {
  found = (
    record { back = s.found.0.0; granted = s.found.0.1; bit = refl },
    r.found.1 ∙ ap (λ n. n ∷ mid) form-is ∙ ap (λ xs. 2 ∷ xs) s.found.1,
  );
  only = λ back tail is begins.
      let g = granted version form form-is r back tail is begins in
      let e = some_pair _ _ _ _ (s.only g.0 tail g.1 g.2) in
      let left : rest ≡ tail = e.1 in
      let same : backs.Grant rights caps ≡ back = ap (λ (p : Rights × List ℕ). backs.Grant p.0 p.1) e.0 ∙ g.3 in
      cc;
}

-- ---- bytes after a shim

pub bytes_after : {bytes rest : List ℕ} {shim : ShimData} → Reads IsShim layout bytes (Some (shim, rest)) → (length rest == 0) ≡ false → (s : ShimData) → IsShim s → layout s ≡ bytes → ⊥
bytes_after {rest = rest} r spare s is same = grind (arith, some_pair, append-nil)
