-- Product: what a host makes of the packets that it receives.
use Rattle.std.specs.Prelude.{ℕ, ◌+◌, ◌==◌, Bool, true, false, ◌&&◌, if◌then◌else◌, List, [], ◌∷◌, ◌++◌, length, map, is_some, Option, Some, None}
use Rattle.std.specs.Option.{option_map_or}
use Rattle.tva_base.specs.declared.{addresses.Address.Address, packet.Rights.Rights, packet.Upper.Upper, plan.HostPlan.HostPlan, event.WhatKind.WhatKind, event.BackKind.BackKind}
use Rattle.tva_base.specs.declared.packet.Upper.TheVariants as upper
use Rattle.tva_base.specs.declared.event.WhatKind.TheVariants as what
use Rattle.tva_base.specs.declared.event.BackKind.TheVariants as became
use Rattle.tva_shim.specs.declared.{kinds.Kind.Kind, kinds.ReturnInfo.ReturnInfo, packets.Carried.Carried}
use Rattle.tva_shim.specs.{Shows.back_in, Changes.nonzero_tags, Layout.return_size}
use Rattle.tva_shim.specs.Packets.{PacketData, upper_size}
use Rattle.tva_shim.specs.declared.kinds.Kind.TheVariants as kinds
use Rattle.tva_shim.specs.declared.kinds.ReturnInfo.TheVariants as backs
use Rattle.tva_shim.specs.declared.packets.Carried.TheVariants as carried
use Rattle.tva_caps.specs.Formula.{capability_of}
use Rattle.tva_policy.specs.Grants.{Deed, Decided, grant_decision}
use Rattle.tva_sender.specs.{Contacts.Contact, Contacts.Taken, Contacts.Notice, Contacts.takes, Book.of_peer}
use Rattle.tva_host.specs.{declared.made.Made.Made, declared.made.Receipt.Receipt, History.History}
use Rattle.tva_host.specs.Sending.{shim_of, next_shape, next_made, with_made}

abbrev pub taken_or_ignored : Bool → BackKind
taken_or_ignored is_taken = if is_taken then became.Grant else became.Ignored

-- first, what becomes of the return info: a grant is taken where the source's last ask isn't
-- answered and the rights are within the version of the host's shims
abbrev pub became_of : ℕ → List (Address × Contact) → Address → ReturnInfo → BackKind
became_of version contacts src backs.Nothing = became.Nothing
became_of version contacts src backs.Notice = became.Notice
became_of version contacts src (backs.Grant rights caps) =
    taken_or_ignored (takes version (of_peer src contacts) rights)

-- and what the host's sender met by it
abbrev pub met_by : ℕ → List (Address × Contact) → Address → ReturnInfo → List (Address × Contact)
met_by version contacts src backs.Nothing = []
met_by version contacts src backs.Notice = (src, Notice) ∷ []
met_by version contacts src (backs.Grant rights caps) =
    if takes version (of_peer src contacts) rights then (src, Taken rights caps) ∷ [] else []

abbrev pub after_back : ℕ → Address → ReturnInfo → History → History
after_back version src back h = record h { contacts = h.contacts ++ met_by version h.contacts src back }

-- second, what the packet is, by its mark and then by its kind
abbrev pub what_kind : Kind → WhatKind
what_kind (kinds.Request entries) = what.Request
what_kind (kinds.Renewal shown) = what.Renewal
what_kind _ = what.Regular

abbrev pub what_came : Carried → WhatKind
what_came (carried.Shim shim) = if shim.demoted then what.Demoted else what_kind shim.kind
what_came _ = what.Legacy

-- a packet's claim on a grant: the tags that are judged, and the pre-capabilities
pub record ClaimData : Type 0 where
  pub tags : List ℕ
  pub precaps : List ℕ

-- a request claims one with its nonzero tags, and a renewal that passed all its routers with none
abbrev pub claim_of : Kind → Option ClaimData
claim_of (kinds.Request entries) =
    Some (record { tags = nonzero_tags entries; precaps = map (λ e. e.precap) entries })
claim_of (kinds.Renewal shown) =
    if shown.pointer == length shown.caps then Some (record { tags = []; precaps = shown.caps }) else None
claim_of _ = None

-- a marked packet claims nothing
abbrev pub claim_in : Carried → Option ClaimData
claim_in (carried.Shim shim) = if shim.demoted then None else claim_of shim.kind
claim_in _ = None

-- the kind shows what was granted
abbrev pub shows_grant : Kind → Bool
shows_grant (kinds.Request entries) = false
shows_grant _ = true

abbrev pub is_nothing : ReturnInfo → Bool
is_nothing backs.Nothing = true
is_nothing _ = false

-- a marked packet that shows a grant is answered with a notice, where it has no return info
abbrev pub notice_for : Carried → Option ReturnInfo
notice_for (carried.Shim shim) =
    if shim.demoted && shows_grant shim.kind && is_nothing shim.back then Some backs.Notice else None
notice_for _ = None

-- a grant has the capability of each pre-capability
abbrev pub granted : Option Rights → List ℕ → Option ReturnInfo
granted None precaps = None
granted (Some rights) precaps = Some (backs.Grant rights (map (λ p. capability_of p rights) precaps))

-- third, what the host answers: to a claim, by its policy
abbrev pub answer_to_claim : HostPlan → List Deed → Address → Carried → Option ClaimData → Option ReturnInfo
answer_to_claim plan deeds src carries None = notice_for carries
answer_to_claim plan deeds src carries (Some claim) =
    granted (grant_decision plan.policy deeds src claim.tags) claim.precaps

abbrev pub decided_on : HostPlan → List Deed → Address → Option ClaimData → List Deed
decided_on plan deeds src None = []
decided_on plan deeds src (Some claim) = Decided src (is_some (grant_decision plan.policy deeds src claim.tags)) ∷ []

abbrev pub after_answer : HostPlan → Address → Carried → History → History
after_answer plan src carries h = record h { deeds = h.deeds ++ decided_on plan h.deeds src (claim_in carries) }

-- an upper part that is to be answered rides on that reply; where there is none, it has one of its own without
-- return info
abbrev pub brought_by : Upper → Option ReturnInfo → Option ReturnInfo
brought_by above (Some back) = Some back
brought_by upper.Nothing None = None
brought_by _ None = Some backs.Nothing

-- a reply's body: the bytes of its return info and those of its upper part
abbrev pub body_of : ℕ → ReturnInfo → Upper → ℕ
body_of version back above = return_size version back + upper_size above

-- fourth, the reply that brings the answer to the source. Its payload is its upper part
abbrev pub reply_of : ℕ → HostPlan → History → ℕ → Address → Option ReturnInfo → Upper → Option Made
reply_of node plan h now src None above = None
reply_of node plan h now src (Some back) above =
    Some (next_made node plan h src (upper_size above)
    (carried.Shim (shim_of plan.version (next_shape plan h now src (body_of plan.version back above)) back)) above
    (next_shape plan h now src (body_of plan.version back above)))

-- the upper part of a reply, if there is one
abbrev pub upper_of : Option Made → Upper
upper_of reply = option_map_or (λ made. made.packet.upper) reply upper.Nothing

abbrev pub after_reply : HostPlan → ℕ → Address → Option ReturnInfo → Upper → History → History
after_reply plan now src None above h = h
after_reply plan now src (Some back) above h = with_made plan now src (body_of plan.version back above) h

-- what is told of a packet for another host, of which nothing comes
abbrev pub stray : Receipt
stray = record { what = what.Stray; back = became.Nothing; reply = None }

-- the history when the reply is made
abbrev pub before_reply : HostPlan → Address → Carried → History → History
before_reply plan src carries h = after_answer plan src carries (after_back plan.version src (back_in carries) h)

-- what a host tells of a packet for it
abbrev pub received : ℕ → HostPlan → History → ℕ → Address → Carried → Upper → Receipt
received node plan h now src carries above = record {
  what = what_came carries;
  back = became_of plan.version h.contacts src (back_in carries);
  reply = reply_of node plan (before_reply plan src carries h) now src
      (brought_by above (answer_to_claim plan h.deeds src carries (claim_in carries))) above;
}

-- the receipt of a packet with an upper part that is to be answered, over what the host did and met
unfoldable pub receipt_of : ℕ → HostPlan → History → ℕ → PacketData → Upper → Receipt
receipt_of node plan h now p above =
    if p.flow.dst.0 == plan.address.0 then received node plan h now p.flow.src p.carried above else stray

unfoldable pub after_receipt : HostPlan → History → ℕ → PacketData → Upper → History
after_receipt plan h now p above =
    if p.flow.dst.0 == plan.address.0
    then after_reply plan now p.flow.src
    (brought_by above (answer_to_claim plan h.deeds p.flow.src p.carried (claim_in p.carried))) above
    (before_reply plan p.flow.src p.carried h)
    else h
