-- Product: what a router makes of a packet before it looks for a link.
use Rattle.std.specs.Prelude.{ℕ, ◌==◌, if◌then◌else◌, List, length, slice_get, Option, Some, None, Result, Ok, Err}
use Rattle.std.specs.List.{find}
use Rattle.std.specs.Option.{option_map_or}
use Rattle.tva_base.specs.Clock.{router_second}
use Rattle.tva_base.specs.declared.packet.Rights.{Rights}
use Rattle.tva_base.specs.declared.packet.Grant.{Grant}
use Rattle.tva_base.specs.declared.packet.Class.{Class}
use Rattle.tva_base.specs.declared.packet.Class.TheVariants as class
use Rattle.tva_base.specs.declared.packet.Cause.{Cause}
use Rattle.tva_base.specs.declared.packet.Cause.TheVariants as cause
use Rattle.tva_base.specs.declared.plan.RouterPlan.{RouterPlan}
use Rattle.tva_shim.specs.declared.kinds.Shown.{Shown}
use Rattle.tva_shim.specs.declared.kinds.Kind.{Kind}
use Rattle.tva_shim.specs.declared.kinds.Kind.TheVariants as kinds
use Rattle.tva_shim.specs.declared.packets.Carried.{Carried}
use Rattle.tva_shim.specs.declared.packets.Carried.TheVariants as carried
use Rattle.tva_shim.specs.Shims.{ShimData, entries_of}
use Rattle.tva_shim.specs.Changes.{with_entry, with_next_pointer, with_fresh, with_mark}
use Rattle.tva_caps.specs.Formula.{precap_of}
use Rattle.tva_caps.specs.Check.{check_of}
use Rattle.tva_caps.specs.declared.minters.Checked.{Checked}
use Rattle.tva_caps.specs.declared.minters.Checked.TheVariants as checks
use Rattle.tva_flow.specs.declared.verdicts.Verdict.{Verdict}
use Rattle.tva_flow.specs.declared.verdicts.Verdict.TheVariants as verdict
use Rattle.tva_flow.specs.Charges.{Charge}
use Rattle.tva_flow.specs.Verdicts.{list_verdict, nonce_verdict}
use Rattle.tva_router.specs.declared.judged.Arrival.{Arrival}
use Rattle.tva_router.specs.declared.judged.Judged.{Judged}

-- the tag of the link that a packet came in on, or 0 where there is none; one from the trace has the router's own
abbrev pub tag_of : RouterPlan → Option ℕ → ℕ
tag_of plan None = plan.edge_tag
tag_of plan (Some link) = option_map_or (λ pair. pair.1) (find (λ pair. pair.0 == link) plan.incoming) 0

-- the router second of an arrival
abbrev pub second_of : RouterPlan → Arrival → ℕ
second_of plan a = router_second plan.clock_offset a.time.0

-- the pre-capability that the router mints for an arrival
abbrev pub fresh_for : RouterPlan → Arrival → ℕ
fresh_for plan a = precap_of plan.master a.flow (second_of plan a)

-- what is answered to a packet that shows something: it is authorised by a grant, or refused for a cause
abbrev pub Answer : Type 0
Answer = Result Grant Cause

abbrev pub answer_of : Verdict → Answer
answer_of (verdict.Authorised grant) = Ok grant
answer_of verdict.Expired = Err cause.Expired
answer_of verdict.OverN = Err cause.OverN
answer_of verdict.UnknownNonce = Err cause.UnknownNonce
answer_of verdict.CacheFull = Err cause.CacheFull
answer_of verdict.Superseded = Err cause.Superseded

-- the answer by the check of a capability, over the charges so far
abbrev pub answer_to_checked : RouterPlan → List Charge → Arrival → Checked → Answer
answer_to_checked plan h a (checks.Valid grant) = answer_of (list_verdict plan.slots h a.time.0 grant a.bytes)
answer_to_checked plan h a checks.Expired = Err cause.Expired
answer_to_checked plan h a checks.BadHash = Err cause.BadHash

-- the answer by the capability at the pointer: there is none, or it is checked
abbrev pub answer_to_cap : RouterPlan → List Charge → Arrival → Rights → Option ℕ → Answer
answer_to_cap plan h a rights None = Err cause.NoCapability
answer_to_cap plan h a rights (Some cap) =
    answer_to_checked plan h a (check_of plan.master (second_of plan a) a.flow cap rights)

-- the answer to an arrival that shows capabilities
unfoldable pub answer_to_shown : RouterPlan → List Charge → Arrival → Shown → Answer
answer_to_shown plan h a shown = answer_to_cap plan h a shown.rights (slice_get shown.caps shown.pointer)

-- the answer to one that shows a nonce alone
unfoldable pub answer_to_nonce : RouterPlan → List Charge → Arrival → ℕ → Answer
answer_to_nonce plan h a nonce = answer_of (nonce_verdict plan.clock_offset h a.time.0 a.flow nonce a.bytes)

abbrev pub judged : Class → Option Cause → Option Grant → Carried → Judged
judged class cause charge carries = record { class = class; cause = cause; charge = charge; carried = carries }

-- a packet that isn't what it claims to be gets the mark
abbrev pub marked : ShimData → Cause → Judged
marked shim cause = judged class.Legacy (Some cause) None (carried.Shim (with_mark shim))

-- an authorised packet is regular, and goes on with a changed shim
abbrev pub judged_by : ShimData → ShimData → Answer → Judged
judged_by shim changed (Ok grant) = judged class.Regular None (Some grant) (carried.Shim changed)
judged_by shim changed (Err cause) = marked shim cause

-- a request gets an entry, where it has room
abbrev pub judged_request : RouterPlan → Arrival → ShimData → Judged
judged_request plan a shim =
    if length (entries_of shim.kind) == 16 then marked shim cause.PathFull
    else judged class.Request None None
    (carried.Shim (with_entry (record { tag = tag_of plan a.from; precap = fresh_for plan a }) shim))

-- an unmarked shim by its kind
abbrev pub judged_kind : RouterPlan → List Charge → Arrival → ShimData → Kind → Judged
judged_kind plan h a shim (kinds.Request entries) = judged_request plan a shim
judged_kind plan h a shim (kinds.List shown) = judged_by shim (with_next_pointer shim) (answer_to_shown plan h a shown)
judged_kind plan h a shim (kinds.Nonce nonce) = judged_by shim shim (answer_to_nonce plan h a nonce)
judged_kind plan h a shim (kinds.Renewal shown) =
    judged_by shim (with_next_pointer (with_fresh (fresh_for plan a) shim)) (answer_to_shown plan h a shown)

unfoldable pub judged_shim : RouterPlan → List Charge → Arrival → ShimData → Judged
judged_shim plan h a shim =
    if shim.demoted then judged class.Legacy None None (carried.Shim shim) else judged_kind plan h a shim shim.kind

-- what the router makes of an arrival by what it carries, over the charges so far: without a shim, or
-- with a marked or malformed one, it is legacy as it came
abbrev pub judge : RouterPlan → List Charge → Arrival → Carried → Judged
judge plan h a carried.Nothing = judged class.Legacy None None carried.Nothing
judge plan h a (carried.Malformed size) = judged class.Legacy (Some cause.Malformed) None (carried.Malformed size)
judge plan h a (carried.Shim shim) = judged_shim plan h a shim
