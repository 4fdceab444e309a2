-- What a host makes stays within the sizes of a network, where what came to it was.
use Rattle.tva_laws.proofs.Common.{ℕ, ◌+◌, ◌^◌, ◌<◌, ◌≤◌, Bool, true, false, cond, eqb, List, [], ◌∷◌, ◌++◌, map, Option, Some, None, sym, subst, arith, append-nil, option_or, option_map, option_and_then, IfSome, AllByRecursion, length-map, All-map, All-weaker, Address, Flow, Rights, Upper, HostPlan, IsHostPlan, AreRights, IsVersion, ReturnInfo, Carried, IsEntry, IsCap, AreEntries, AreCaps, IsShown, IsReturn, IsShim, granted_caps, back_in, PacketData, Fills, IsWithinWidths, IsSizedPacket, IsUpper, upper_size, carried_fits, capability_of, capability_of-lt, Deed, Held, Shape, Contact, Taken, Notice, Taking, taking_in, last_taking, unless_given_up, grant_of, grant_held, fits, held, under_grant, by_grant, may_ask, length_of, of_peer, Made, History, next_nonce, with_deed, held_shown, shim_of, next_packet, next_shape, next_with, with_made, intended, after_intending, met_by, ClaimData, granted, answer_to_claim, reply_of, after_reply, before_reply, receipt_of, after_receipt, Call, Intended, Injected, after_call, Files, RowWhat, made_for, sent_with, each-append, IsSizedWhat, nat_tests}
use Rattle.std.proofs.Math.Nat.{mod-lt}
use Rattle.tva_shim.proofs.Nothing.{no_caps, no_entries}
use Rattle.tva_base.specs.declared.packet.Upper.TheVariants as upper
use Rattle.tva_shim.specs.declared.entries.Entry.{Entry}
use Rattle.tva_shim.specs.declared.kinds.ReturnInfo.TheVariants as backs
use Rattle.tva_shim.specs.declared.packets.Carried.TheVariants as carried
use Rattle.tva_policy.specs.Grants.{Sent}
use Rattle.tva_sender.specs.declared.shape.Shape.TheVariants as shape
use Rattle.tva_sender.specs.declared.grant.Grant.{Grant}
use Rattle.tva_sender.specs.Contacts.{Prepared}
use Rattle.tva_sender.specs.Showable.{IsShowableHeld, IsShowable, IsShowableContact, AreShowable}
use Rattle.tva_sender.proofs.Showing.{showable_peer, showable_grant, showable_shape}
use Rattle.tva_host.specs.Calls.{Received}
use Rattle.tva_host.proofs.Standing.{showable-push, showable-granted}
use Rattle.tva_laws.proofs.Transfers.{AreSizedFiles, due_upper, first_upper, upper_few, upper_fills}

-- ## what a host met

-- the capabilities of a grant that was taken have their widths
abbrev HasCaps : Contact → Type 0
HasCaps (Prepared time s bytes) = Unit {0}
HasCaps (Taken rights caps) = AreCaps caps
HasCaps Notice = Unit {0}

abbrev HaveCaps : List (Address × Contact) → Type 0
HaveCaps h = AllByRecursion (λ c. HasCaps c.1) h

-- a shim of that version could carry what was prepared and taken
pub record AreMet (version : ℕ) (h : List (Address × Contact)) : Type 0 where
  pub showable : AreShowable version h
  pub caps : HaveCaps h

caps_peer : (a : Address) (h : List (Address × Contact)) → HaveCaps h → AllByRecursion HasCaps (of_peer a h)
caps_peer a [] k = tt
caps_peer a (c ∷ cs) k = elim (eqb a.0 c.0.0) as (λ b. AllByRecursion HasCaps (cond b (c.1 ∷ of_peer a cs) (of_peer a cs))) [ true ↦ (k.0, caps_peer a cs k.1) | false ↦ caps_peer a cs k.1 ]

either : {X : Type 0} (P : X → Type 0) (x y : Option X) → IfSome x P → IfSome y P → IfSome (option_or x y) P
either P x y k l = grind (arith, nat_tests)

abbrev HasCapsTaken : Taking → Type 0
HasCapsTaken t = AreCaps t.caps

taking_caps : (before : List Contact) (c : Contact) (cs : List Contact) → HasCaps c → IfSome (taking_in before c cs) HasCapsTaken
taking_caps before c cs k = grind (arith, nat_tests)

last_caps : (before cs : List Contact) → AllByRecursion HasCaps cs → IfSome (last_taking before cs) HasCapsTaken
last_caps before [] k = tt
last_caps before (c ∷ cs) k = either HasCapsTaken (last_taking (before ++ c ∷ []) cs) (taking_in before c cs) (last_caps (before ++ c ∷ []) cs k.1) (taking_caps before c cs k.0)

abbrev HasCapsHeld : Grant → Type 0
HasCapsHeld g = AreCaps g.caps

held_caps : (o : Option Taking) → IfSome o HasCapsTaken → IfSome (option_map grant_of (option_and_then unless_given_up o)) HasCapsHeld
held_caps o k = grind (arith, nat_tests)

grant_caps : (h : List Contact) → AllByRecursion HasCaps h → IfSome (grant_held h) HasCapsHeld
grant_caps h k = held_caps (last_taking [] h) (last_caps [] h k)

-- ## shapes

abbrev ShowsCaps : Shape → Type 0
ShowsCaps shape.Request = Unit {0}
ShowsCaps (shape.List held) = AreCaps held.caps
ShowsCaps (shape.NonceOnly nonce) = Unit {0}
ShowsCaps (shape.Renewal held) = AreCaps held.caps
ShowsCaps shape.Legacy = Unit {0}

choice : (b : Bool) (x y : Shape) → ShowsCaps x → ShowsCaps y → ShowsCaps (cond b x y)
choice b x y k l = grind (arith, nat_tests)

caps_under : (margin version : ℕ) (may_ask : Bool) (g : Grant) (now body offered : ℕ) → HasCapsHeld g → ShowsCaps (under_grant margin version may_ask g now body offered)
unfolding under_grant
caps_under margin version may_ask g now body offered k = grind (arith, nat_tests, choice)

caps_by : (margin version : ℕ) (may_ask : Bool) (o : Option Grant) (now body offered : ℕ) → IfSome o HasCapsHeld → ShowsCaps (by_grant margin version may_ask o now body offered)
caps_by margin version may_ask o now body offered k = grind (arith, nat_tests, choice, caps_under)

-- a shim of that version can carry the shape
record FitsShape (version : ℕ) (s : Shape) : Type 0 where
  showable : IsShowable version s
  caps : ShowsCaps s

offered_fits : (plan : HostPlan) (h : History) → next_nonce plan h < 2 ^ 48
offered_fits plan h = mod-lt (plan.nonce + h.prepared) (omega arith)

shape_fits : (plan : HostPlan) (h : History) (now : ℕ) (dst : Address) (body : ℕ) → AreMet plan.version h.contacts → FitsShape plan.version (next_shape plan h now dst body)
shape_fits plan h now dst body k = grind (arith, nat_tests, showable_shape, showable_grant, showable_peer, caps_by, grant_caps, caps_peer)

-- ## packets

-- a shim of that version can carry the return info
record FitsBack (version : ℕ) (back : ReturnInfo) : Type 0 where
  fits : IsReturn version back
  caps : AreCaps (granted_caps back)

nothing_fits : (version : ℕ) → FitsBack version backs.Nothing
nothing_fits version = record { fits = tt; caps = no_caps }

shown_fits : (version : ℕ) (held : Held) → IsShowableHeld version held → IsShown version (held_shown held)
shown_fits version held k = record { nonce = k.nonce; pointer = omega arith; rights = k.rights }

shim_fits : (version : ℕ) (s : Shape) (back : ReturnInfo) → IsVersion version → FitsShape version s → FitsBack version back → IsShim (shim_of version s back)
shim_fits version s back v k b = grind (arith, nat_tests, no_entries, no_caps, shown_fits)

with_sized : (node : ℕ) (h : History) (flow : Flow) (payload : ℕ) (c : Carried) (above : Upper) → payload ≤ 1600 → IsWithinWidths c → IsUpper above → Fills above payload → IsSizedPacket (next_with node h flow payload c above)
with_sized node h flow payload c above l s u f = record { packet = record { hops = omega arith; payload = l; carried = carried_fits c s; upper = u; fills = f }; widths = s }

next_sized : (node : ℕ) (h : History) (flow : Flow) (payload : ℕ) (c : Carried) → payload ≤ 1600 → IsWithinWidths c → IsSizedPacket (next_packet node h flow payload c)
next_sized node h flow payload c l s = with_sized node h flow payload c upper.Nothing l s tt tt

intended_sized : (node : ℕ) (plan : HostPlan) (h : History) (now : ℕ) (dst : Address) (payload : ℕ) (above : Upper) → payload ≤ 1600 → IsUpper above → Fills above payload → IsHostPlan plan → AreMet plan.version h.contacts
    → IsSizedPacket (intended node plan h now dst payload above).packet
unfolding intended
intended_sized node plan h now dst payload above l u f v k = grind (arith, nat_tests, shape_fits plan h now dst payload k)

abbrev pub IsSizedMade : Made → Type 0
IsSizedMade made = IsSizedPacket made.packet

upper_fits : (above : Upper) → IsUpper above → upper_size above ≤ 1600
upper_fits above u = omega (arith, upper_few above u)

-- the packet that brings a segment
segment_sized : (node : ℕ) (plan : HostPlan) (h : History) (now : ℕ) (dst : Address) (above : Upper) → IsUpper above → IsHostPlan plan → AreMet plan.version h.contacts → IsSizedMade (sent_with node plan h now dst above)
segment_sized node plan h now dst above u v k = intended_sized node plan h now dst (upper_size above) above (upper_fits above u) u (upper_fills above) v k

due_sized : (node : ℕ) (plan : HostPlan) (h : History) (now : ℕ) (dst : Address) (due : Option Upper) → IfSome due IsUpper → IsHostPlan plan → AreMet plan.version h.contacts → IfSome (option_map (sent_with node plan h now dst) due) IsSizedMade
due_sized node plan h now dst due u v k = grind (arith, nat_tests, segment_sized)

-- what a host makes for a row
pub made_sized : (node : ℕ) (plan : HostPlan) (h : History) (known : Files) (now : ℕ) (what : RowWhat) → IsSizedWhat what → IsHostPlan plan → AreMet plan.version h.contacts → AreSizedFiles known
    → IfSome (made_for node plan h known now what) IsSizedMade
made_sized node plan h known now what s v k f = grind (arith, nat_tests, intended_sized, segment_sized, first_upper, due_sized, due_upper)

-- ## replies

-- the pre-capabilities of a claim have their widths
abbrev HasCapsClaimed : ClaimData → Type 0
HasCapsClaimed claim = AreCaps claim.precaps

entries_claimed : (es : List Entry) → AreEntries es → AreCaps (map (λ e. e.precap) es)
entries_claimed es k = record {
  few = omega (arith, length-map es (λ (x : Entry). x.precap), k.few);
  each = All-map IsCap (λ (x : Entry). x.precap) es (All-weaker IsEntry (λ (x : Entry). IsCap x.precap) (λ x e. e.precap) es k.each);
}

granted_fits : (version : ℕ) (rights : Option Rights) (precaps : List ℕ) → IfSome rights (AreRights version) → AreCaps precaps → IfSome (granted rights precaps) (FitsBack version)
granted_fits version None precaps r k = tt
granted_fits version (Some rights) precaps r k = record {
  fits = r;
  caps = record {
    few = omega (arith, length-map precaps (λ p. capability_of p rights), k.few);
    each = All-map IsCap (λ p. capability_of p rights) precaps (All-weaker IsCap (λ p. IsCap (capability_of p rights)) (λ p w. capability_of-lt p rights w) precaps k.each);
  };
}

answer_fits : (plan : HostPlan) (deeds : List Deed) (src : Address) (c : Carried) (claim : Option ClaimData) → IsHostPlan plan → IfSome claim HasCapsClaimed → IfSome (answer_to_claim plan deeds src c claim) (FitsBack plan.version)
answer_fits plan deeds src c claim v k = grind (arith, nat_tests, granted_fits)

reply_sized : (node : ℕ) (plan : HostPlan) (h : History) (now : ℕ) (src : Address) (answer : Option ReturnInfo) (above : Upper) → IsHostPlan plan → AreMet plan.version h.contacts → IfSome answer (FitsBack plan.version)
    → IsUpper above → IfSome (reply_of node plan h now src answer above) IsSizedMade
reply_sized node plan h now src answer above v k b u = grind (arith, nat_tests, shape_fits, with_sized, upper_fits, shim_fits, upper_fills)

-- return info that came fits a shim of the greatest version
back_fits : (c : Carried) → IsWithinWidths c → FitsBack 2 (back_in c)
back_fits c f = grind (arith, nat_tests, nothing_fits 2)

caps_more : (h more : List (Address × Contact)) → HaveCaps h → HaveCaps more → HaveCaps (h ++ more)
caps_more h more a b = each-append (λ (c : Address × Contact). HasCaps c.1) h more a b

met_more : (version : ℕ) (h : List (Address × Contact)) (a : Address) (c : Contact) → IsShowableContact version c → HasCaps c → AreMet version h → AreMet version (h ++ (a, c) ∷ [])
met_more version h a c s k met = record { showable = showable-push version h a c met.showable s; caps = caps_more h ((a, c) ∷ []) met.caps (k, tt) }

met_back : (version : ℕ) (h : List (Address × Contact)) (src : Address) (back : ReturnInfo) → IsVersion version → FitsBack 2 back → AreMet version h → AreMet version (h ++ met_by version h src back)
met_back version h src backs.Nothing v b k = subst (AreMet version) (sym (append-nil h)) k
met_back version h src backs.Notice v b k = met_more version h src Notice tt tt k
met_back version h src (backs.Grant rights caps) v b k = grind (arith, nat_tests, showable-granted, caps_more)

before_met : (plan : HostPlan) (h : History) (src : Address) (c : Carried) → IsHostPlan plan → AreMet plan.version h.contacts → IsWithinWidths c → AreMet plan.version (before_reply plan src c h).contacts
before_met plan h src c v k f = met_back plan.version h.contacts src (back_in c) v.version (back_fits c f) k

-- what a host answers to a packet
pub receipt_sized : (node : ℕ) (plan : HostPlan) (h : History) (now : ℕ) (p : PacketData) (above : Upper) → IsHostPlan plan → AreMet plan.version h.contacts → IsSizedPacket p → IsUpper above
    → IfSome (receipt_of node plan h now p above).reply IsSizedMade
unfolding receipt_of
receipt_sized node plan h now p above v k s u = grind (arith, nat_tests, reply_sized, before_met, answer_fits, entries_claimed)

-- ## one more call

abbrev pub IsSizedCall : Call → Type 0
IsSizedCall (Intended now dst payload above) = Unit {0}
IsSizedCall (Injected flow payload c) = Unit {0}
IsSizedCall (Received now p above) = IsSizedPacket p

made_met : (plan : HostPlan) (now : ℕ) (dst : Address) (body : ℕ) (h : History) → AreMet plan.version h.contacts → AreMet plan.version (with_made plan now dst body h).contacts
made_met plan now dst body h k =
    let shape : Shape = next_shape plan h now dst body in
    met_more plan.version h.contacts dst (Prepared now shape (length_of plan.version shape body)) (shape_fits plan h now dst body k).showable tt k

replied_met : (plan : HostPlan) (now : ℕ) (src : Address) (answer : Option ReturnInfo) (above : Upper) (h : History) → AreMet plan.version h.contacts → AreMet plan.version (after_reply plan now src answer above h).contacts
replied_met plan now src answer above h k = grind (arith, nat_tests, made_met)

intending_met : (plan : HostPlan) (h : History) (now : ℕ) (dst : Address) (payload : ℕ) → AreMet plan.version h.contacts → AreMet plan.version (after_intending plan h now dst payload).contacts
unfolding after_intending
intending_met plan h now dst payload k = made_met plan now dst payload (with_deed (Sent dst) h) k

receiving_met : (plan : HostPlan) (h : History) (now : ℕ) (p : PacketData) (above : Upper) → IsHostPlan plan → IsSizedPacket p → AreMet plan.version h.contacts → AreMet plan.version (after_receipt plan h now p above).contacts
unfolding after_receipt
receiving_met plan h now p above v s k = grind (arith, nat_tests, replied_met, before_met)

pub call_met : (plan : HostPlan) (h : History) (c : Call) → IsHostPlan plan → IsSizedCall c → AreMet plan.version h.contacts → AreMet plan.version (after_call plan h c).contacts
call_met plan h c v s k = grind (arith, nat_tests, intending_met, receiving_met)
