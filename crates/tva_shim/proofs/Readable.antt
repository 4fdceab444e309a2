-- Bytes are the layout of one shim, or of none: at their front each part is read, or doesn't stand there.
use Rattle.tva_shim.proofs.Common.{◌≡◌, ◌⊎◌, inl, inr, ℕ, zero, suc, ◌+◌, ◌*◌, ◌/◌, ◌%◌, ◌^◌, ◌≤◌, Bool, true, false, List, [], ◌∷◌, ◌++◌, length, drop, Option, Some, None, refl, sym, ap, ◌∙◌, append-nil, arith, ◌==◌, flat_map, drop_at, All-nil, All-cons, All-head, All-tail, big_bytes, big_number, big_number-reads_back, length-bytes_high_first, Rights, AreRights, rights_number, rights_size, seconds_max, number_fits, rights_from, same_rights, ShimType, Entry, Shown, Kind, ReturnInfo, IsCap, IsEntry, ShimData, IsShim, two_bytes, six_bytes, eight_bytes, rights_bytes, entry_bytes, shown_bytes, kind_bytes, return_bytes, demoted_bit, layout, Reads, IsBelow, IsAtMost, one_byte, AreSoMany, IsWholeShown, IsType, type_bytes, returns_bit, IsKindPart, IsReturnPart, IsGrant, grant_bytes}
use Rattle.std.proofs.lemmas.Bool.Decides.{leb_tells, eqb_tells}
use Rattle.tva_shim.specs.declared.kinds.Kind.TheVariants as kinds
use Rattle.tva_shim.specs.declared.kinds.ReturnInfo.TheVariants as backs
use Rattle.tva_shim.proofs.NumberBytes.{two_bytes-is, six_bytes-is, eight_bytes-is, number_bytes-is}
use Rattle.tva_shim.proofs.Reading.{IsBoth, both, none_some, some_pair, front_missing, back_missing, both_read, other_missing, other_read, begun_none, begun_all}
use Rattle.tva_shim.proofs.Wholes.{shown_of, shown_there, shown_back, shim_of, shim_there, shim_back, grant_missing, grant_read}

-- what stands at the front is read, or there is none
abbrev pub IsReadable : {A : Type 0} → (A → Type 0) → (A → List ℕ) → List ℕ → Type 0
IsReadable {A = A} Is bytes_of bytes = (answer : Option (A × List ℕ)) × Reads Is bytes_of bytes answer

-- ---- one part after the other, and the same bytes as another value

module _ {A B : Type 0} {IsA : A → Type 0} {IsB : A → B → Type 0} {a_bytes : A → List ℕ} (b_bytes : A → B → List ℕ) where
  with_back : {bytes : List ℕ} (x : A × List ℕ) → Reads IsA a_bytes bytes (Some (x.0, x.1))
      → (answer : Option (B × List ℕ)) → Reads (IsB x.0) (b_bytes x.0) x.1 answer
      → IsReadable (IsBoth IsA IsB) (both a_bytes b_bytes) bytes
  with_back x r None s = (None, back_missing b_bytes {mid = x.1} {a = x.0} r s)
  with_back x r (Some y) s = (Some ((x.0, y.0), y.1), both_read b_bytes {mid = x.1} {rest = y.1} {a = x.0} {b = y.0} r s)

  with_front : {bytes : List ℕ} (answer : Option (A × List ℕ)) → Reads IsA a_bytes bytes answer
      → ((a : A) (mid : List ℕ) → IsA a → IsReadable (IsB a) (b_bytes a) mid)
      → IsReadable (IsBoth IsA IsB) (both a_bytes b_bytes) bytes
  with_front None r back = (None, front_missing b_bytes r)
  with_front (Some x) r back = let s = back x.0 x.1 r.found.0 in with_back x r s.0 s.1

  both_readable : {bytes : List ℕ} → IsReadable IsA a_bytes bytes
      → ((a : A) (mid : List ℕ) → IsA a → IsReadable (IsB a) (b_bytes a) mid)
      → IsReadable (IsBoth IsA IsB) (both a_bytes b_bytes) bytes
  both_readable front back = with_front front.0 front.1 back

module _ {X Y : Type 0} {IsX : X → Type 0} {IsY : Y → Type 0} {x_bytes : X → List ℕ} {y_bytes : Y → List ℕ} (to : X → Y)
    (there : (x : X) → IsX x → IsY (to x) × (x_bytes x ≡ y_bytes (to x)))
    (back : (y : Y) → IsY y → (x : X) × IsX x × (y_bytes y ≡ x_bytes x) × (to x ≡ y)) where
  other_by : {bytes : List ℕ} (answer : Option (X × List ℕ)) → Reads IsX x_bytes bytes answer → IsReadable IsY y_bytes bytes
  other_by None r = (None, other_missing to there back r)
  other_by (Some x) r = (Some (to x.0, x.1), other_read to there back {rest = x.1} {x = x.0} r)

  other_readable : {bytes : List ℕ} → IsReadable IsX x_bytes bytes → IsReadable IsY y_bytes bytes
  other_readable front = other_by front.0 front.1

-- ---- parts of which one alone can stand there

-- a fact that is known to hold or not
abbrev IsKnown : Type 0 → Type 0
IsKnown P = P ⊎ (P → ⊥)

both_known : {P Q : Type 0} → IsKnown P → IsKnown Q → IsKnown (P × Q)
both_known h1 q = grind arith

at_most_known : (a b : ℕ) → IsKnown (a ≤ b)
at_most_known a b = elim (leb_tells a b) [ inl t ↦ inl t.1 | inr f ↦ inr (λ h. absurd (omega (arith, f.1))) ]

same_known : (xs ys : List ℕ) → IsKnown (xs ≡ ys)
same_known [] [] = inl refl
same_known [] (y ∷ ys) = inr (λ e. absurd (cc))
same_known (x ∷ xs) [] = inr (λ e. absurd (cc))
same_known (x ∷ xs) (y ∷ ys) = grind (arith, both_known, eqb_tells, same_known xs ys)

module _ {A : Type 0} {Is : A → Type 0} {bytes_of : A → List ℕ} {bytes : List ℕ} (x : A) (after : List ℕ)
    (one : (part : A) (rest : List ℕ) → Is part → bytes ≡ bytes_of part ++ rest → (x ≡ part) × (after ≡ rest)) where
  by_known : IsKnown (Is x × (bytes ≡ bytes_of x ++ after)) → IsReadable Is bytes_of bytes
  by_known (inl h) = (Some (x, after), record { found = h; only = λ part rest is begins. let same = one part rest is begins in let first = same.0 in let rest = same.1 in cc })
  by_known (inr n) = grind arith

  -- where the one that can stand there is one of those that are known
  only_readable : IsKnown (Is x) → IsReadable Is bytes_of bytes
  only_readable known = by_known (both_known known (same_known bytes (bytes_of x ++ after)))

-- ---- bytes and numbers

byte_readable : (most : ℕ) (bytes : List ℕ) → IsReadable (IsAtMost most) one_byte bytes
byte_readable most [] = (None, record { found = tt; only = λ n rest is begins. absurd (cc) })
byte_readable most (b ∷ bs) = only_readable b bs (λ n rest is begins. (cc, cc)) (at_most_known b most)

number_readable : (n limit : ℕ) (bytes_of : ℕ → List ℕ) → ((x : ℕ) → bytes_of x ≡ big_bytes n x) → limit ≡ 256 ^ n
    → (bytes : List ℕ) → IsReadable (IsBelow limit) bytes_of bytes
number_readable n limit bytes_of are top bytes =
    only_readable (big_number n bytes) (drop n bytes)
    (λ x rest below begins.
    let start : bytes ≡ big_bytes n x ++ rest = begins ∙ ap (λ ys. ys ++ rest) (are x) in (
      ap (big_number n) start ∙ big_number-reads_back n x rest (omega arith),
      ap (drop n) start ∙ drop_at (big_bytes n x) rest n (length-bytes_high_first n x),
    ))
    (at_most_known (suc (big_number n bytes)) limit)

two_readable : (bytes : List ℕ) → IsReadable (IsBelow (2 ^ 16)) two_bytes bytes
two_readable = number_readable 2 (2 ^ 16) two_bytes two_bytes-is refl

six_readable : (bytes : List ℕ) → IsReadable (IsBelow (2 ^ 48)) six_bytes bytes
six_readable = number_readable 6 (2 ^ 48) six_bytes six_bytes-is refl

eight_readable : (bytes : List ℕ) → IsReadable IsCap eight_bytes bytes
eight_readable = number_readable 8 (2 ^ 64) eight_bytes eight_bytes-is refl

rights_known : (version : ℕ) (r : Rights) → IsKnown (AreRights version r)
rights_known version r = grind (arith, both_known, at_most_known)

-- the rights that a number at the front stands for
rights_readable : (version : ℕ) (bytes : List ℕ) → IsReadable (AreRights version) (rights_bytes version) bytes
rights_readable version bytes =
    let size : ℕ = rights_size version in
    let number : ℕ = big_number size bytes in
    let weight : ℕ = seconds_max version + 1 in
    only_readable (rights_from (number / weight) (number % weight)) (drop size bytes)
    (λ r rest are begins.
    let begun : bytes ≡ big_bytes size (rights_number version r) ++ rest = begins ∙ ap (λ ys. ys ++ rest) (number_bytes-is version (rights_number version r)) in (
      same_rights version number weight r refl are (ap (big_number size) begun ∙ big_number-reads_back size (rights_number version r) rest (number_fits version r are)),
      ap (drop size) begun ∙ drop_at (big_bytes size (rights_number version r)) rest size (length-bytes_high_first size (rights_number version r)),
    ))
    (rights_known version (rights_from (number / weight) (number % weight)))

-- ---- so many of a kind

many_there : {A : Type 0} (Is : A → Type 0) (bytes_of : A → List ℕ) (n : ℕ) (p : A × List A) → IsBoth Is (λ x. AreSoMany Is n) p
    → AreSoMany Is (suc n) (p.0 ∷ p.1) × (both bytes_of (λ x. flat_map bytes_of) p ≡ flat_map bytes_of (p.0 ∷ p.1))
unfolding both
many_there Is bytes_of n p are = ((All-cons Is p.0 p.1 are.first are.second.0, omega (arith, are.second.1)), refl)

many_back : {A : Type 0} (Is : A → Type 0) (bytes_of : A → List ℕ) (n : ℕ) (ys : List A) → AreSoMany Is (suc n) ys
    → (p : A × List A) × IsBoth Is (λ x. AreSoMany Is n) p × (flat_map bytes_of ys ≡ both bytes_of (λ x. flat_map bytes_of) p) × (p.0 ∷ p.1 ≡ ys)
unfolding both
many_back Is bytes_of n [] are = absurd (omega (arith, are.1))
many_back Is bytes_of n (y ∷ ys) are =
    ((y, ys), record { first = All-head Is y ys are.0; second = (All-tail Is y ys are.0, omega (arith, are.1)) }, refl, refl)

many_readable : {A : Type 0} (Is : A → Type 0) (bytes_of : A → List ℕ) → ((bytes : List ℕ) → IsReadable Is bytes_of bytes)
    → (count : ℕ) (bytes : List ℕ) → IsReadable (AreSoMany Is count) (flat_map bytes_of) bytes
many_readable Is bytes_of each zero bytes = (Some ([], bytes), begun_all {Is = Is} {bytes_of = bytes_of} [] (begun_none {Is = Is} {bytes_of = bytes_of} bytes) refl)
many_readable Is bytes_of each (suc n) bytes =
    other_readable (λ p. p.0 ∷ p.1) (many_there Is bytes_of n) (many_back Is bytes_of n)
    (both_readable (λ x. flat_map bytes_of) (each bytes) (λ x mid is. many_readable Is bytes_of each n mid))

-- ---- entries, what is shown, and grants

entry_from : ℕ × ℕ → Entry
entry_from p = record { tag = p.0; precap = p.1 }

entry_there : (p : ℕ × ℕ) → IsBoth (IsBelow (2 ^ 16)) (λ tag. IsCap) p → IsEntry (entry_from p) × (both two_bytes (λ tag. eight_bytes) p ≡ entry_bytes (entry_from p))
unfolding both entry_from
entry_there p are = (record { tag = are.first; precap = are.second }, refl)

entry_back : (e : Entry) → IsEntry e → (p : ℕ × ℕ) × IsBoth (IsBelow (2 ^ 16)) (λ tag. IsCap) p × (entry_bytes e ≡ both two_bytes (λ tag. eight_bytes) p) × (entry_from p ≡ e)
unfolding both entry_from
entry_back e is = ((e.tag, e.precap), record { first = is.tag; second = is.precap }, refl, refl)

entry_readable : (bytes : List ℕ) → IsReadable IsEntry entry_bytes bytes
entry_readable bytes = other_readable entry_from entry_there entry_back (both_readable (λ tag. eight_bytes) (two_readable bytes) (λ tag mid is. eight_readable mid))

shown_readable : (version : ℕ) (bytes : List ℕ) → IsReadable (IsWholeShown version) (shown_bytes version) bytes
shown_readable version bytes =
    other_readable shown_of (shown_there version) (shown_back version)
    (both_readable _ (six_readable bytes) (λ nonce m1 k1.
    both_readable _ (byte_readable 16 m1) (λ count m2 k2.
    both_readable _ (byte_readable count m2) (λ pointer m3 k3.
    both_readable _ (rights_readable version m3) (λ rights m4 k4.
    many_readable IsCap eight_bytes eight_readable count m4)))))

abbrev GrantParts : Type 0
GrantParts = ℕ × (Rights × List ℕ)

abbrev AreGrantParts : ℕ → GrantParts → Type 0
AreGrantParts version = IsBoth (IsAtMost 16) (λ count. IsBoth (AreRights version) (λ rights. AreSoMany IsCap count))

abbrev grant_parts : ℕ → GrantParts → List ℕ
grant_parts version = both one_byte (λ count. both (rights_bytes version) (λ rights. flat_map eight_bytes))

grant_there : (version : ℕ) (p : GrantParts) → AreGrantParts version p → IsGrant version p.1 × (grant_parts version p ≡ grant_bytes version p.1)
unfolding both
grant_there version p are = grind (arith, flat_map)

grant_back : (version : ℕ) (grant : Rights × List ℕ) → IsGrant version grant → (p : GrantParts) × AreGrantParts version p × (grant_bytes version grant ≡ grant_parts version p) × (p.1 ≡ grant)
unfolding both
grant_back version grant is =
    ((length grant.1, grant), record { first = is.1.few; second = record { first = is.0; second = (is.1.each, refl) } }, refl, refl)

grant_readable : (version : ℕ) (bytes : List ℕ) → IsReadable (IsGrant version) (grant_bytes version) bytes
grant_readable version bytes =
    other_readable (λ p. p.1) (grant_there version) (grant_back version)
    (both_readable _ (byte_readable 16 bytes) (λ count m1 k1.
    both_readable _ (rights_readable version m1) (λ rights m2 k2.
    many_readable IsCap eight_bytes eight_readable count m2)))

-- ---- the part of a kind

abbrev RequestParts : Type 0
RequestParts = ℕ × List Entry

abbrev AreRequestParts : RequestParts → Type 0
AreRequestParts = IsBoth (IsAtMost 16) (λ count. AreSoMany IsEntry count)

abbrev request_parts : RequestParts → List ℕ
request_parts = both one_byte (λ count. flat_map entry_bytes)

request_there : (version : ℕ) (p : RequestParts) → AreRequestParts p → IsKindPart version 0 (kinds.Request p.1) × (request_parts p ≡ kind_bytes version (kinds.Request p.1))
unfolding both
request_there version p are = grind (arith, flat_map)

request_back : (version : ℕ) (k : Kind) → IsKindPart version 0 k → (p : RequestParts) × AreRequestParts p × (kind_bytes version k ≡ request_parts p) × (kinds.Request p.1 ≡ k)
unfolding both
request_back version (kinds.Request entries) is = ((length entries, entries), record { first = is.entries.few; second = (is.entries.each, refl) }, refl, refl)
request_back version _ is = absurd (omega (arith, is.code))

list_there : (version : ℕ) (s : Shown) → IsWholeShown version s → IsKindPart version 1 (kinds.List s) × (shown_bytes version s ≡ kind_bytes version (kinds.List s))
list_there version s is = (record { kind = is.0; entries = record { few = omega arith; each = All-nil IsEntry }; caps = is.1; code = refl }, refl)

list_back : (version : ℕ) (k : Kind) → IsKindPart version 1 k → (s : Shown) × IsWholeShown version s × (kind_bytes version k ≡ shown_bytes version s) × (kinds.List s ≡ k)
list_back version k is = grind arith

nonce_there : (version n : ℕ) → IsBelow (2 ^ 48) n → IsKindPart version 2 (kinds.Nonce n) × (six_bytes n ≡ kind_bytes version (kinds.Nonce n))
nonce_there version n is = grind arith

nonce_back : (version : ℕ) (k : Kind) → IsKindPart version 2 k → (n : ℕ) × IsBelow (2 ^ 48) n × (kind_bytes version k ≡ six_bytes n) × (kinds.Nonce n ≡ k)
nonce_back version k is = grind arith

renewal_there : (version : ℕ) (s : Shown) → IsWholeShown version s → IsKindPart version 3 (kinds.Renewal s) × (shown_bytes version s ≡ kind_bytes version (kinds.Renewal s))
renewal_there version s is = (record { kind = is.0; entries = record { few = omega arith; each = All-nil IsEntry }; caps = is.1; code = refl }, refl)

renewal_back : (version : ℕ) (k : Kind) → IsKindPart version 3 k → (s : Shown) × IsWholeShown version s × (kind_bytes version k ≡ shown_bytes version s) × (kinds.Renewal s ≡ k)
renewal_back version k is = grind arith

kind_readable : (version code : ℕ) → code ≤ 3 → (bytes : List ℕ) → IsReadable (IsKindPart version code) (kind_bytes version) bytes
kind_readable version zero known bytes =
    other_readable (λ p. kinds.Request p.1) (request_there version) (request_back version)
    (both_readable (λ count. flat_map entry_bytes) (byte_readable 16 bytes) (λ count mid k. many_readable IsEntry entry_bytes entry_readable count mid))
kind_readable version (suc zero) known bytes = other_readable kinds.List (list_there version) (list_back version) (shown_readable version bytes)
kind_readable version (suc (suc zero)) known bytes = other_readable kinds.Nonce (nonce_there version) (nonce_back version) (six_readable bytes)
kind_readable version (suc (suc (suc zero))) known bytes = other_readable kinds.Renewal (renewal_there version) (renewal_back version) (shown_readable version bytes)
kind_readable version (suc (suc (suc (suc n)))) known bytes = absurd (omega arith)

-- ---- the return info

no_return : (version : ℕ) (bytes : List ℕ) (part : ReturnInfo) (rest : List ℕ) → IsReturnPart version 0 part → bytes ≡ return_bytes version part ++ rest → (backs.Nothing ≡ part) × (bytes ≡ rest)
no_return version bytes part rest is begins = grind arith

form_missing : (version : ℕ) (part : ReturnInfo) (rest : List ℕ) → IsReturnPart version 4 part → [] ≡ return_bytes version part ++ rest → ⊥
form_missing version part rest is begins = grind arith

notice_only : (version form : ℕ) (mid : List ℕ) → form ≡ 1 → (part : ReturnInfo) (rest : List ℕ) → IsReturnPart version 4 part → form ∷ mid ≡ return_bytes version part ++ rest → (backs.Notice ≡ part) × (mid ≡ rest)
notice_only version form mid one part rest is begins = grind arith

no_form : (version form : ℕ) (mid : List ℕ) → (form ≡ 1 → ⊥) → (form ≡ 2 → ⊥) → (part : ReturnInfo) (rest : List ℕ) → IsReturnPart version 4 part → form ∷ mid ≡ return_bytes version part ++ rest → ⊥
no_form version form mid one two part rest is begins = grind arith

granted_by : (version form : ℕ) (mid : List ℕ) → form ≡ 2 → (answer : Option ((Rights × List ℕ) × List ℕ)) → Reads (IsGrant version) (grant_bytes version) mid answer
    → IsReadable (IsReturnPart version (returns_bit true)) (return_bytes version) (form ∷ mid)
granted_by version form mid two answer r = by answer r
  where
    begun : Reads (IsAtMost 255) one_byte (form ∷ mid) (Some (form, mid))
    begun = record { found = (omega arith, refl); only = λ n rest is begins. cc }

    by : (answer : Option ((Rights × List ℕ) × List ℕ)) → Reads (IsGrant version) (grant_bytes version) mid answer
        → IsReadable (IsReturnPart version (returns_bit true)) (return_bytes version) (form ∷ mid)
    by None s = (None, grant_missing version true refl form two begun s)
    by (Some x) s = (Some (backs.Grant x.0.0 x.0.1, x.1), grant_read version true refl form two x.0.0 x.0.1 begun s)

form_readable : (version form : ℕ) (mid : List ℕ) → IsReadable (IsReturnPart version (returns_bit true)) (return_bytes version) (form ∷ mid)
form_readable version form mid =
    elim (eqb_tells form 1) [
      | inl one ↦ only_readable backs.Notice mid (notice_only version form mid one.1)
          (inl (record { back = tt; granted = record { few = omega arith; each = All-nil IsCap }; bit = refl }))
      | inr other ↦ elim (eqb_tells form 2) [
        | inl two ↦ (let g = grant_readable version mid in granted_by version form mid two.1 g.0 g.1)
        | inr more ↦ (None, record { found = tt; only = λ part rest is begins. absurd (no_form version form mid other.1 more.1 part rest is begins) })
      ]
    ]

return_readable : (version : ℕ) (returns : Bool) (bytes : List ℕ) → IsReadable (IsReturnPart version (returns_bit returns)) (return_bytes version) bytes
return_readable version false bytes =
    only_readable backs.Nothing bytes (no_return version bytes)
    (inl (record { back = tt; granted = record { few = omega arith; each = All-nil IsCap }; bit = refl }))
return_readable version true [] = (None, record { found = tt; only = λ part rest is begins. absurd (form_missing version part rest is begins) })
return_readable version true (form ∷ mid) = form_readable version form mid

-- ---- the first byte

type_from : ℕ → Bool → Bool → ℕ → ShimType
type_from version demoted returns kind = record { version = version; demoted = demoted; returns = returns; kind = kind }

-- what a byte says
type_in : ℕ → ShimType
type_in n = type_from (n / 16) (n / 8 % 2 == 1) (n / 4 % 2 == 1) (n % 4)

type_same : (version v : ℕ) (demoted d returns r : Bool) (kind k : ℕ) → version ≡ v → demoted ≡ d → returns ≡ r → kind ≡ k
    → type_from version demoted returns kind ≡ type_from v d r k
type_same version v demoted d returns r kind k ev ed er ek = cc

bit_at : (n k b : ℕ) → n / k % 2 ≡ b → (n / k % 2 == 1) ≡ (b == 1)
bit_at n k b e = ap (λ x. x == 1) e

type_again : (version : ℕ) (demoted returns : Bool) (kind : ℕ) → kind ≤ 3
    → type_in (version * 16 + demoted_bit demoted + returns_bit returns + kind) ≡ type_from version demoted returns kind
unfolding type_in
type_again v demoted returns k few = grind (arith, type_same, bit_at)

type_is : (t : ShimType) → type_from t.version t.demoted t.returns t.kind ≡ t
unfolding type_from
type_is t = refl

type_known : (n : ℕ) → IsKnown (IsType (type_in n))
unfolding type_in type_from
type_known byte = grind (arith, both_known, at_most_known)

type_readable : (bytes : List ℕ) → IsReadable IsType type_bytes bytes
type_readable [] = (None, record { found = tt; only = λ t rest is begins. absurd (cc) })
type_readable (n ∷ mid) =
    only_readable (type_in n) mid
    (λ t rest is begins.
    let number : n ≡ t.version * 16 + demoted_bit t.demoted + returns_bit t.returns + t.kind = cc in
    (ap type_in number ∙ type_again t.version t.demoted t.returns t.kind is.kind ∙ type_is t, cc))
    (type_known n)

-- ---- shims

shim_readable : (bytes : List ℕ) → IsReadable IsShim layout bytes
shim_readable bytes =
    other_readable shim_of shim_there shim_back
    (both_readable _ (type_readable bytes) (λ first m1 k1.
    both_readable _ (byte_readable 255 m1) (λ protocol m2 k2.
    both_readable _ (kind_readable first.version first.kind k1.kind m2) (λ kind m3 k3.
    return_readable first.version first.returns m3))))

whole_or_none : (bytes : List ℕ) (answer : Option (ShimData × List ℕ)) → Reads IsShim layout bytes answer
    → ((s : ShimData) × IsShim s × (layout s ≡ bytes)) ⊎ ((s : ShimData) → IsShim s → layout s ≡ bytes → ⊥)
whole_or_none bytes None r = inr (λ s is same. none_some (r.only s [] is (sym same ∙ sym (append-nil (layout s)))))
whole_or_none bytes (Some x) r = by x.0 x.1 r
  where
    by : (shim : ShimData) (rest : List ℕ) → Reads IsShim layout bytes (Some (shim, rest))
        → ((s : ShimData) × IsShim s × (layout s ≡ bytes)) ⊎ ((s : ShimData) → IsShim s → layout s ≡ bytes → ⊥)
    by shim [] r = inl (shim, r.found.0, sym (r.found.1 ∙ append-nil (layout shim)))
    by shim (b ∷ bs) r = inr (λ s is same.
        let e = some_pair _ _ _ _ (r.only s [] is (sym same ∙ sym (append-nil (layout s)))) in
        let more : b ∷ bs ≡ [] = e.1 in
        absurd (cc))

-- bytes are the layout of a shim, or of none
pub shim_or_none : (bytes : List ℕ) → ((s : ShimData) × IsShim s × (layout s ≡ bytes)) ⊎ ((s : ShimData) → IsShim s → layout s ≡ bytes → ⊥)
shim_or_none bytes = let r = shim_readable bytes in whole_or_none bytes r.0 r.1

-- two shims of the same bytes are one
pub one_shim : (a b : ShimData) → IsShim a → IsShim b → layout a ≡ layout b → a ≡ b
one_shim a b x y same =
    let r = (shim_readable (layout a)).1 in
    let first = r.only a [] x (sym (append-nil (layout a))) in
    let other = r.only b [] y (same ∙ sym (append-nil (layout b))) in
    (some_pair _ _ _ _ (sym first ∙ other)).0

-- no shim has no bytes
pub some_bytes : (s : ShimData) → layout s ≡ [] → ⊥
unfolding layout
some_bytes s e = absurd cc
