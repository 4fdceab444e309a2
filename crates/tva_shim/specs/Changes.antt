-- Product: what a request's tags say, and the changes that a router makes to a shim.
use Rattle.std.specs.Prelude.{ℕ, ◌+◌, ◌<◌, true, List, [], ◌∷◌, ◌++◌, length, map, filter, nat_lt, slice_set}
use Rattle.tva_shim.specs.declared.{entries.Entry.Entry, kinds.Shown.Shown, kinds.Kind.Kind}
use Rattle.tva_shim.specs.Shims.{ShimData, entries_of}
use Rattle.tva_shim.specs.declared.kinds.Kind.TheVariants as kinds

abbrev pub IsRequest : Kind → Type 0
IsRequest (kinds.Request entries) = Unit {0}
IsRequest (kinds.List shown) = ⊥
IsRequest (kinds.Nonce nonce) = ⊥
IsRequest (kinds.Renewal shown) = ⊥

-- the tags of entries that aren't 0, in order
abbrev pub nonzero_tags : List Entry → List ℕ
nonzero_tags entries = filter (nat_lt 0) (map (λ e. e.tag) entries)

-- the last of the numbers, or 0 where there is none
abbrev pub last_or_zero : List ℕ → ℕ
last_or_zero [] = 0
last_or_zero (n ∷ []) = n
last_or_zero (n ∷ m ∷ ns) = last_or_zero (m ∷ ns)

-- the last of the numbers but one, or 0 where there are fewer than two
abbrev pub last_but_one_or_zero : List ℕ → ℕ
last_but_one_or_zero [] = 0
last_but_one_or_zero (n ∷ []) = 0
last_but_one_or_zero (n ∷ m ∷ []) = n
last_but_one_or_zero (n ∷ m ∷ k ∷ ns) = last_but_one_or_zero (m ∷ k ∷ ns)

-- the last nonzero tag, else 0
abbrev pub last_tag : List Entry → ℕ
last_tag entries = last_or_zero (nonzero_tags entries)

-- the last nonzero tag but one, else 0
abbrev pub tag_before : List Entry → ℕ
tag_before entries = last_but_one_or_zero (nonzero_tags entries)

-- the request with that entry after its own
abbrev pub with_entry : Entry → ShimData → ShimData
with_entry entry s = record s { kind = kinds.Request (entries_of s.kind ++ entry ∷ []) }

-- a list or a renewal whose pointer is at a capability
abbrev pub PointsAtOne : Kind → Type 0
PointsAtOne (kinds.Request entries) = ⊥
PointsAtOne (kinds.List shown) = shown.pointer < length shown.caps
PointsAtOne (kinds.Nonce nonce) = ⊥
PointsAtOne (kinds.Renewal shown) = shown.pointer < length shown.caps

-- the kind with a change of the capabilities that it shows
abbrev pub on_shown : (Shown → Shown) → Kind → Kind
on_shown change (kinds.List shown) = kinds.List (change shown)
on_shown change (kinds.Renewal shown) = kinds.Renewal (change shown)
on_shown change kind = kind

-- the shim with its pointer one further
abbrev pub with_next_pointer : ShimData → ShimData
with_next_pointer s = record s { kind = on_shown (λ x. record x { pointer = x.pointer + 1 }) s.kind }

-- the shim with that pre-capability in place of the capability at the pointer
abbrev pub with_fresh : ℕ → ShimData → ShimData
with_fresh precap s = record s { kind = on_shown (λ x. record x { caps = slice_set x.caps x.pointer precap }) s.kind }

-- the shim with the demoted mark
abbrev pub with_mark : ShimData → ShimData
with_mark s = record s { demoted = true }
