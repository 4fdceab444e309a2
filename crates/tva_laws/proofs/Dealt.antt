-- What a host's log tells of a peer is what the host's history has of it.
use Rattle.tva_laws.proofs.Common.{IfSome, ◌≡◌, ℕ, ◌+◌, Bool, true, false, cond, eqb, List, [], ◌∷◌, ◌++◌, map, Option, Some, None, refl, ap, ap₂, sym, ◌∙◌, arith, append_assoc, append-nil, Address, HostPlan, Kind, ReturnInfo, Carried, return_size, PacketData, packet_length, upper_size, back_in, Shape, Contact, length_of, of_peer, Made, Receipt, History, after_call, is_legacy, shim_of, carried_by, next_shape, next_made, intended, after_intending, became_of, met_by, claim_in, answer_to_claim, reply_of, after_reply, before_reply, stray, receipt_of, after_receipt, brought_by, body_of, RowWhat, Send, Inject, File, Tick, call_of_row, made_for, sent_with, Deal, Prepared, Granted, Noticed, sent_for, brought, replied, Files, Upper, nat_tests}
use Rattle.tva_shim.specs.declared.kinds.Kind.TheVariants as kinds
use Rattle.tva_shim.specs.declared.kinds.ReturnInfo.TheVariants as backs
use Rattle.tva_shim.specs.declared.packets.Carried.TheVariants as carried
use Rattle.tva_sender.specs.declared.shape.Shape.TheVariants as shapes
use Rattle.tva_sender.specs.Contacts as contact
use Rattle.tva_sender.specs.Played.{AreNext}
use Rattle.tva_sender.proofs.Standing.{of_peer-push}
use Rattle.tva_host.specs.Receiving as receiving
use Rattle.tva_host.proofs.Lengths.{made-length}
use Rattle.tva_base.specs.declared.packet.Upper.TheVariants as upper

-- ## the contact of a deal

abbrev pub shape_of_kind : Kind → Shape
shape_of_kind (kinds.Request entries) = shapes.Request
shape_of_kind (kinds.List shown) = shapes.List (record { nonce = shown.nonce; rights = shown.rights; caps = shown.caps })
shape_of_kind (kinds.Nonce nonce) = shapes.NonceOnly nonce
shape_of_kind (kinds.Renewal shown) = shapes.Renewal (record { nonce = shown.nonce; rights = shown.rights; caps = shown.caps })

abbrev pub shape_in : Carried → Shape
shape_in carried.Nothing = shapes.Legacy
shape_in (carried.Shim shim) = cond shim.demoted shapes.Legacy (shape_of_kind shim.kind)
shape_in (carried.Malformed size) = shapes.Legacy

-- a sender counts no legacy packet
abbrev pub counted : PacketData → ℕ
counted p = cond (is_legacy (shape_in p.carried)) 0 (packet_length p)

abbrev pub contact_of : Deal → Contact
contact_of (Prepared time p) = contact.Prepared time (shape_in p.carried) (counted p)
contact_of (Granted rights caps) = contact.Taken rights caps
contact_of Noticed = contact.Notice

-- ## what a host makes in a shape

shape_of_shim : (version : ℕ) (s : Shape) (back : ReturnInfo) → shape_in (carried.Shim (shim_of version s back)) ≡ s
shape_of_shim version s back = grind (arith, nat_tests)

shape_of_sent : (version : ℕ) (s : Shape) → shape_in (carried_by version s) ≡ s
shape_of_sent version s = grind (arith, nat_tests)

-- with a body of its payload and its return info
length_with : (version : ℕ) (s : Shape) (back : ReturnInfo) (p : PacketData) → is_legacy s ≡ false
    → p.carried ≡ carried.Shim (shim_of version s back) → counted p ≡ length_of version s (p.payload + return_size version back)
length_with version s back p counts e = grind (arith, nat_tests, shape_of_shim, made-length)

length_of_shim : (version : ℕ) (s : Shape) (back : ReturnInfo) (p : PacketData) → p.carried ≡ carried.Shim (shim_of version s back)
    → counted p ≡ length_of version s (p.payload + return_size version back)
length_of_shim version s back p e = grind (arith, nat_tests, length_with)

bare : (version payload : ℕ) → payload + return_size version backs.Nothing ≡ payload
bare version payload = omega arith

length_of_sent : (version : ℕ) (s : Shape) (p : PacketData) → p.carried ≡ carried_by version s
    → counted p ≡ length_of version s p.payload
length_of_sent version shapes.Request p e = search (length_with version shapes.Request backs.Nothing p refl e, bare version p.payload)
length_of_sent version (shapes.List held) p e = search (length_with version (shapes.List held) backs.Nothing p refl e, bare version p.payload)
length_of_sent version (shapes.NonceOnly nonce) p e = search (length_with version (shapes.NonceOnly nonce) backs.Nothing p refl e, bare version p.payload)
length_of_sent version (shapes.Renewal held) p e = search (length_with version (shapes.Renewal held) backs.Nothing p refl e, bare version p.payload)
length_of_sent version shapes.Legacy p e = ap (λ (c : Carried). cond (is_legacy (shape_in c)) 0 (packet_length p)) e

-- ## one more contact

push_cond : (b : Bool) (xs : List Contact) (x : Contact) → cond b (xs ++ x ∷ []) xs ≡ xs ++ cond b (x ∷ []) []
push_cond b xs x = grind (arith, nat_tests, append-nil)

pub peer_more : (peer : Address) (h : List (Address × Contact)) (a : Address) (x : Contact)
    → of_peer peer (h ++ (a, x) ∷ []) ≡ of_peer peer h ++ cond (eqb peer.0 a.0) (x ∷ []) []
peer_more peer h a x = of_peer-push peer h (a, x) ∙ push_cond (eqb peer.0 a.0) (of_peer peer h) x

one_deal : (b : Bool) (d : Deal) (x : Contact) → contact_of d ≡ x → cond b (x ∷ []) [] ≡ map contact_of (cond b (d ∷ []) [])
one_deal b d x e = grind (arith, nat_tests)

prepared_is : (now : ℕ) (p : PacketData) (s : Shape) (bytes : ℕ) → shape_in p.carried ≡ s → counted p ≡ bytes
    → contact_of (Prepared now p) ≡ contact.Prepared now s bytes
prepared_is now p s bytes e k = ap₂ (contact.Prepared now) e k

nothing_more : (xs : List Contact) (b : Bool) (ds : List Deal) → ds ≡ [] → xs ≡ xs ++ map contact_of (cond b ds [])
nothing_more xs b ds e = grind (arith, nat_tests, append-nil)

-- ## rows

-- a packet that is sent to a destination with an upper part
intended_deal : (number : ℕ) (plan : HostPlan) (h : History) (peer : Address) (now : ℕ) (dst : Address) (payload : ℕ) (above : Upper)
    → of_peer peer (after_intending plan h now dst payload).contacts ≡ of_peer peer h.contacts ++ map contact_of
    (cond (eqb peer.0 dst.0) (Prepared now (intended number plan h now dst payload above).packet ∷ []) [])
unfolding intended after_intending
intended_deal number plan h peer now dst payload above =
    let s : Shape = next_shape plan h now dst payload in
    let p : PacketData = (next_made number plan h dst payload (carried_by plan.version s) above s).packet in
    let bytes : ℕ = length_of plan.version s payload in
    let x : Contact = contact.Prepared now s bytes in
    grind (arith, nat_tests, prepared_is now p s bytes (shape_of_sent plan.version s) (length_of_sent plan.version s p refl), shape_of_sent plan.version s, length_of_sent plan.version s p refl, peer_more peer h.contacts dst x)

with_deal : (number : ℕ) (plan : HostPlan) (h : History) (peer : Address) (now : ℕ) (dst : Address) (above : Upper)
    → of_peer peer (after_intending plan h now dst (sent_with number plan h now dst above).packet.payload).contacts
    ≡ of_peer peer h.contacts ++ map contact_of
    (cond (eqb peer.0 dst.0) (Prepared now (sent_with number plan h now dst above).packet ∷ []) [])
unfolding intended
with_deal number plan h peer now dst above = intended_deal number plan h peer now dst (upper_size above) above

-- what a row that something is sent for adds
pub row_deal : (number : ℕ) (plan : HostPlan) (h : History) (known : Files) (peer : Address) (now : ℕ) (what : RowWhat)
    → IfSome (made_for number plan h known now what) (λ (made : Made).
    of_peer peer (after_call plan h (call_of_row now what made.packet)).contacts ≡ of_peer peer h.contacts ++ map contact_of
    (sent_for peer now what made.packet))
row_deal number plan h known peer now (Send dst payload) = intended_deal number plan h peer now dst payload upper.Nothing
row_deal number plan h known peer now (Inject flow payload carries) = sym (append-nil (of_peer peer h.contacts))
row_deal number plan h known peer now (File dst size segment) = search (arith, nat_tests, with_deal)
row_deal number plan h known peer now (Tick dst) = grind (arith, nat_tests, with_deal)

-- ## receipts

met_deal : (plan : HostPlan) (h : List (Address × Contact)) (peer src : Address) (back : ReturnInfo)
    → of_peer peer (h ++ met_by plan.version h src back) ≡ of_peer peer h ++ map contact_of (cond (eqb peer.0 src.0)
    (brought (became_of plan.version h src back) back) [])
met_deal plan h peer src back = grind (arith, nat_tests, append-nil, nothing_more, peer_more, one_deal)

reply_deal : (number : ℕ) (plan : HostPlan) (h : History) (peer : Address) (now : ℕ) (src : Address) (answer : Option ReturnInfo)
    (above : Upper)
    → of_peer peer (after_reply plan now src answer above h).contacts ≡ of_peer peer h.contacts ++ map contact_of (cond (eqb peer.0 src.0)
    (replied now (reply_of number plan h now src answer above)) [])
reply_deal number plan h peer now src None above = nothing_more (of_peer peer h.contacts) (eqb peer.0 src.0) [] refl
reply_deal number plan h peer now src (Some back) above =
    let size : ℕ = body_of plan.version back above in
    let s : Shape = next_shape plan h now src size in
    let p : PacketData = (next_made number plan h src (upper_size above) (carried.Shim (shim_of plan.version s back)) above s).packet in
    let bytes : ℕ = length_of plan.version s size in
    let x : Contact = contact.Prepared now s bytes in
    grind (arith, nat_tests, shape_of_shim plan.version s back, length_of_shim plan.version s back p refl, peer_more peer h.contacts src x)

pub map_more : (xs ys : List Deal) → map contact_of xs ++ map contact_of ys ≡ map contact_of (xs ++ ys)
map_more [] ys = refl
map_more (x ∷ xs) ys = ap (λ (cs : List Contact). contact_of x ∷ cs) (map_more xs ys)

both_deals : (b : Bool) (cs : List Contact) (xs ys : List Deal)
    → (cs ++ map contact_of (cond b xs [])) ++ map contact_of (cond b ys []) ≡ cs ++ map contact_of (cond b (xs ++ ys) [])
both_deals b cs xs ys = grind (arith, nat_tests, append_assoc, map_more, append-nil)

pub receipt_deal : (number : ℕ) (plan : HostPlan) (h : History) (peer : Address) (now : ℕ) (p : PacketData) (above : Upper)
    → of_peer peer (after_receipt plan h now p above).contacts ≡ of_peer peer h.contacts
    ++ map contact_of (cond (eqb peer.0 p.flow.src.0)
    (brought (receipt_of number plan h now p above).back (back_in p.carried)
    ++ replied now (receipt_of number plan h now p above).reply) [])
unfolding receipt_of after_receipt
receipt_deal number plan h peer now p above =
    let src : Address = p.flow.src in
    let met : History = before_reply plan src p.carried h in
    let answer : Option ReturnInfo = brought_by above (answer_to_claim plan h.deeds src p.carried (claim_in p.carried)) in
    let r : Receipt = receiving.received number plan h now src p.carried above in
    elim (eqb p.flow.dst.0 plan.address.0) as (λ b. of_peer peer
    (cond b (after_reply plan now src answer above met) h).contacts ≡ of_peer peer h.contacts
    ++ map contact_of (cond (eqb peer.0 src.0)
    (brought (cond b r stray).back (back_in p.carried) ++ replied now (cond b r stray).reply) [])) [
      | true ↦
          reply_deal number plan met peer now src answer above
          ∙ (ap
          (λ (cs : List Contact). cs ++ map contact_of (cond (eqb peer.0 src.0)
          (replied now (reply_of number plan met now src answer above)) [])) (met_deal plan h.contacts peer src (back_in p.carried))
          ∙ both_deals (eqb peer.0 src.0) (of_peer peer h.contacts)
          (brought (became_of plan.version h.contacts src (back_in p.carried)) (back_in p.carried))
          (replied now (reply_of number plan met now src answer above)))
      | false ↦ nothing_more (of_peer peer h.contacts) (eqb peer.0 src.0) [] refl
    ]

-- ## what is played begins with what is played

pub played_front : (margin retry version : ℕ) (before cs : List Contact) (c : Contact) (ds : List Contact)
    → AreNext margin retry version before (cs ++ c ∷ ds) → AreNext margin retry version before (cs ++ c ∷ [])
played_front margin retry version before [] c ds k = (k.0, tt)
played_front margin retry version before (x ∷ cs) c ds k = (k.0, played_front margin retry version (before ++ x ∷ []) cs c ds k.1)

pub map_place : (before : List Deal) (d : Deal) (after : List Deal)
    → map contact_of (before ++ d ∷ after) ≡ map contact_of before ++ contact_of d ∷ map contact_of after
map_place [] d after = refl
map_place (x ∷ xs) d after = ap (λ (cs : List Contact). contact_of x ∷ cs) (map_place xs d after)
