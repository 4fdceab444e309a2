-- Crate: where the entry of a flow stands, and what was shown for the grant of an entry.
use Rattle.std.specs.Prelude.{◌≡◌, ◌<◌, ℕ, Bool, true, List, length, slice_index_or, Option, Some, None, MatchOption, All}
use Rattle.tva_base.specs.declared.packet.Flow.{Flow}
use Rattle.tva_base.specs.declared.packet.Grant.{Grant}
use Rattle.tva_flow.specs.declared.kept.Entry.{Entry}
use Rattle.tva_flow.specs.Stands.{entry_of}

-- the flow's entry stands at that place, or it has none
abbrev pub IsPlaceOf : List Entry → Flow → Option ℕ → Type 0
IsPlaceOf entries f at = MatchOption at (entry_of f entries ≡ None) (λ i.
    (i < length entries) × ((e : Entry) → e ≡ slice_index_or entries i e → e.grant.flow ≡ f))

-- the entry at that place has this grant, and this capability that was shown for it; none where there is no place
abbrev pub IsShownAt : List Entry → Option ℕ → Option (Grant × ℕ) → Type 0
IsShownAt entries at shown = MatchOption at (shown ≡ None) (λ i.
    (e : Entry) → e ≡ slice_index_or entries i e → shown ≡ Some (e.grant, e.cap))

-- of each entry, the test holds of its grant and the capability that was shown for it
abbrev pub AreShown : (Grant → ℕ → Bool) → List Entry → Type 0
AreShown test entries = All (λ e. test e.grant e.cap ≡ true) entries

-- some entry has this grant, and this capability that was shown for it
abbrev pub IsShown : Grant → ℕ → List Entry → Type 0
IsShown grant cap entries = (i : ℕ) × (i < length entries)
    × ((e : Entry) → e ≡ slice_index_or entries i e → (e.grant ≡ grant) × (e.cap ≡ cap))
