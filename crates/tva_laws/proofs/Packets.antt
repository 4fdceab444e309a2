-- What a router makes of a packet stays within the sizes of a network.
use Rattle.tva_laws.proofs.Common.{◌≡◌, ℕ, ◌+◌, ◌^◌, ◌≤◌, ◌<◌, Bool, true, false, cond, eqb, List, [], ◌∷◌, ◌++◌, length, slice_set, Option, Some, None, Ok, All, refl, arith, length-append, length-set, find, option_map_or, IfSome, nat_tests, All-head, All-nil, All-push, All-set, All-tail, slice_get_within, IsRouterPlan, Grant, RouterPlan, Shown, Kind, IsEntry, IsCap, AreEntries, AreCaps, ShimData, IsShown, IsKind, IsShim, entries_of, caps_of, PointsAtOne, on_shown, with_entry, with_next_pointer, PacketData, IsWithinWidths, IsSizedPacket, packet_length, carried_fits, packet_within, precap_of-lt, Charge, Answer, tag_of, second_of, fresh_for, answer_to_cap, answer_to_shown, answer_to_nonce, judged_by, judged_request, judged_kind, judged_shim, PortLogs, handle}
use Rattle.std.proofs.Common.{◌==◌, slice_get}
use Rattle.tva_shim.specs.declared.entries.Entry as entries
use Rattle.tva_shim.specs.declared.kinds.Kind.TheVariants as kinds
use Rattle.tva_shim.specs.declared.packets.Carried.TheVariants as carried
use Rattle.tva_router.specs.declared.judged.Arrival.{Arrival}

-- a packet has 20 to 2,048 bytes
pub sized_length : (p : PacketData) → IsSizedPacket p → (20 ≤ packet_length p) × (packet_length p ≤ 2048)
sized_length p s = (omega arith, omega (arith, packet_within p s))

-- ## shims

-- a kind has the widths of a version
record FitsVersion (version : ℕ) (kind : Kind) : Type 0 where
  shows : IsKind version kind
  entries : AreEntries (entries_of kind)
  caps : AreCaps (caps_of kind)

own_kind : (s : ShimData) → IsShim s → FitsVersion s.version s.kind
own_kind s h = record { shows = h.kind; entries = h.entries; caps = h.caps }

-- a shim with another kind that has its widths
kind_fits : (s : ShimData) (kind : Kind) → IsShim s → FitsVersion s.version kind → IsShim (record s { kind = kind })
kind_fits s kind h k = record { version = h.version; protocol = h.protocol; kind = k.shows; entries = k.entries; caps = k.caps; back = h.back; granted = h.granted }

kind_next : (version : ℕ) (kind : Kind) → PointsAtOne kind → FitsVersion version kind → FitsVersion version (on_shown (λ (x : Shown). record x { pointer = x.pointer + 1 }) kind)
kind_next version kind at k = grind (arith, nat_tests)

next_fits : (s : ShimData) → PointsAtOne s.kind → IsShim s → IsShim (with_next_pointer s)
next_fits s at h = kind_fits s (on_shown (λ (x : Shown). record x { pointer = x.pointer + 1 }) s.kind) h (kind_next s.version s.kind at (own_kind s h))

caps_set : (caps : List ℕ) (i precap : ℕ) → precap < 2 ^ 64 → AreCaps caps → AreCaps (slice_set caps i precap)
caps_set caps i precap p k = record { few = omega (arith, length-set caps i precap, k.few); each = All-set IsCap caps i precap p k.each }

shown_fresh : (version precap : ℕ) (x : Shown) → IsShown version x → IsShown version (record x { caps = slice_set x.caps x.pointer precap })
shown_fresh version precap x k = record { nonce = k.nonce; pointer = omega (arith, length-set x.caps x.pointer precap, k.pointer); rights = k.rights }

-- with another capability in its place, the pointer is at one as before
fresh_points : (precap : ℕ) (kind : Kind) → PointsAtOne kind → PointsAtOne (on_shown (λ (x : Shown). record x { caps = slice_set x.caps x.pointer precap }) kind)
fresh_points precap kind at = grind (arith, nat_tests, length-set)

has_room : (n : ℕ) → n ≤ 16 → eqb n 16 ≡ false → n < 16
has_room n l e = grind (arith, nat_tests)

entry_fits : (entry : entries.Entry) (s : ShimData) → IsEntry entry → IsShim s → eqb (length (entries_of s.kind)) 16 ≡ false → IsShim (with_entry entry s)
entry_fits entry s is h e = kind_fits s (kinds.Request (entries_of s.kind ++ entry ∷ [])) h (record {
  shows = tt;
  entries = record {
    few = omega (arith, length-append (entries_of s.kind) (entry ∷ []), has_room (length (entries_of s.kind)) h.entries.few e);
    each = All-push IsEntry (entries_of s.kind) entry h.entries.each is;
  };
  caps = record { few = omega arith; each = All-nil IsCap };
})

-- ## judgements

tag_in : (o : Option (ℕ × ℕ)) → IfSome o (λ i. i.1 < 2 ^ 16) → option_map_or (λ (pair : ℕ × ℕ). pair.1) o 0 < 2 ^ 16
tag_in o k = grind (arith, nat_tests)

found_all : {X : Type 0} (P : X → Type 0) (test : X → Bool) (xs : List X) → All P xs → IfSome (find test xs) P
found_all P test [] a = tt
found_all P test (x ∷ xs) a =
    elim (test x) as (λ b. IfSome (cond b (Some x) (find test xs)) P) [ true ↦ All-head P x xs a | false ↦ found_all P test xs (All-tail P x xs a) ]

tag_fits : (plan : RouterPlan) (from : Option ℕ) → IsRouterPlan plan → tag_of plan from < 2 ^ 16
tag_fits plan None v = v.edge_tag
tag_fits plan (Some link) v = tag_in (find (λ pair. pair.0 == link) plan.incoming) (found_all (λ (i : ℕ × ℕ). i.1 < 2 ^ 16) (λ pair. pair.0 == link) plan.incoming v.tags)

fresh_few : (plan : RouterPlan) (a : Arrival) → fresh_for plan a < 2 ^ 64
fresh_few plan a = precap_of-lt plan.master a.flow (second_of plan a)

by_answer : (shim changed : ShimData) (a : Answer) → IsShim shim → ((g : Grant) → a ≡ Ok g → IsShim changed) → IsWithinWidths (judged_by shim changed a).carried
by_answer shim changed a h k = grind (arith, nat_tests)

by_request : (plan : RouterPlan) (a : Arrival) (shim : ShimData) → IsRouterPlan plan → IsShim shim → IsWithinWidths (judged_request plan a shim).carried
by_request plan a shim v h = grind (arith, nat_tests, tag_fits, fresh_few, entry_fits)

-- where what is shown is taken, the pointer is at a capability
cap_there : (plan : RouterPlan) (h : List Charge) (a : Arrival) (shown : Shown) (o : Option ℕ) (g : Grant) → slice_get shown.caps shown.pointer ≡ o → answer_to_cap plan h a shown.rights o ≡ Ok g
    → shown.pointer < length shown.caps
cap_there plan h a shown o g s e = grind (arith, nat_tests, slice_get_within)

points_at : (plan : RouterPlan) (h : List Charge) (a : Arrival) (shown : Shown) (g : Grant) → answer_to_shown plan h a shown ≡ Ok g → shown.pointer < length shown.caps
unfolding answer_to_shown
points_at plan h a shown g e = cap_there plan h a shown (slice_get shown.caps shown.pointer) g refl e

by_kind : (plan : RouterPlan) (h : List Charge) (a : Arrival) (shim : ShimData) (kind : Kind) → IsRouterPlan plan → IsShim shim → shim.kind ≡ kind → IsWithinWidths (judged_kind plan h a shim kind).carried
by_kind plan h a shim (kinds.Request entries) v f e = by_request plan a shim v f
by_kind plan h a shim (kinds.List shown) v f e = grind (arith, nat_tests, by_answer, points_at)
by_kind plan h a shim (kinds.Nonce nonce) v f e = by_answer shim shim (answer_to_nonce plan h a nonce) f (λ g t. f)
by_kind plan h a shim (kinds.Renewal shown) v f e = grind (arith, nat_tests, by_answer, fresh_points, points_at, fresh_few, kind_fits, slice_set, own_kind, shown_fresh, caps_set)

by_shim : (plan : RouterPlan) (h : List Charge) (a : Arrival) (shim : ShimData) → IsRouterPlan plan → IsShim shim → IsWithinWidths (judged_shim plan h a shim).carried
unfolding judged_shim
by_shim plan h a shim v f = grind (arith, nat_tests, by_kind)

-- ## the packet as it goes on

pub onward_sized : (plan : RouterPlan) (h : List Charge) (logs : PortLogs) (now : ℕ) (from : Option ℕ) (p : PacketData) → IsRouterPlan plan → IsSizedPacket p → IsSizedPacket (handle plan h logs now from p).onward
unfolding handle
onward_sized plan h logs now from p v s = grind (arith, nat_tests, carried_fits, by_shim)
