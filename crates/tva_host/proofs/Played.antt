-- Each peer's contacts in a host's history are such as a sender can have.
use Rattle.tva_host.proofs.Common.{◌≡◌, ℕ, ◌≤◌, Bool, true, false, cond, eqb, List, [], ◌∷◌, ◌++◌, Option, Some, None, refl, arith, append-nil, and_parts, Address, Rights, Upper, HostPlan, ReturnInfo, PacketData, Sent, Contact, Prepared, Taken, Notice, awaits, is_within, takes, length_of, of_peer, History, beginning, with_deed, next_nonce, next_shape, with_made, after_intending, back_in, met_by, claim_in, answer_to_claim, brought_by, body_of, after_reply, before_reply, after_receipt, Call, Intended, Injected, Received, after_call, history_of, last_time, NeverFall}
use Rattle.std.proofs.lemmas.List.Elements.{All-nil}
use Rattle.tva_shim.specs.declared.kinds.ReturnInfo.TheVariants as backs
use Rattle.tva_sender.specs.Played.{IsUpTo, NoneLater, IsNext, IsPlayed}
use Rattle.tva_sender.proofs.Playing.{none-later, none-push, next-push, next-prepared}
use Rattle.tva_sender.proofs.Standing.{each-more}
use Rattle.tva_host.proofs.Calls.{history_from}

-- each peer's contacts are played, and none is later than that
pub record ArePlayed (plan : HostPlan) (time : ℕ) (contacts : List (Address × Contact)) : Type 0 where
  pub played : (a : Address) → IsPlayed plan.margin plan.retry plan.version (of_peer a contacts)
  pub times : (a : Address) → NoneLater time (of_peer a contacts)

later : (plan : HostPlan) (time now : ℕ) (contacts : List (Address × Contact)) → time ≤ now → ArePlayed plan time contacts → ArePlayed plan now contacts
later plan time now contacts l k = record { played = k.played; times = λ a. none-later time now (of_peer a contacts) l (k.times a) }

-- one more contact
more : (plan : HostPlan) (time : ℕ) (contacts : List (Address × Contact)) (a : Address) (c : Contact) → ArePlayed plan time contacts
    → IsNext plan.margin plan.retry plan.version (of_peer a contacts) c → IsUpTo time c → ArePlayed plan time (contacts ++ (a, c) ∷ [])
more plan time contacts a c k next up_to = record {
  played = each-more (IsPlayed plan.margin plan.retry plan.version) contacts a c k.played (next-push plan.margin plan.retry plan.version [] (of_peer a contacts) c (k.played a) next);
  times = each-more (NoneLater time) contacts a c k.times (none-push time (of_peer a contacts) c (k.times a) up_to);
}

-- a packet was prepared and made
made : (plan : HostPlan) (h : History) (now : ℕ) (dst : Address) (body : ℕ) → ArePlayed plan now h.contacts → ArePlayed plan now (with_made plan now dst body h).contacts
made plan h now dst body k =
    let shape = next_shape plan h now dst body in
    let same : now ≤ now = omega arith in
    more plan now h.contacts dst (Prepared now shape (length_of plan.version shape body)) k
    (next-prepared plan.margin plan.retry plan.version now (of_peer dst h.contacts) now body (next_nonce plan h) shape same (k.times dst) refl) same

-- return info was taken or ignored
taken : (plan : HostPlan) (time : ℕ) (contacts : List (Address × Contact)) (src : Address) (rights : Rights) (caps : List ℕ) (opens : Bool) → takes plan.version (of_peer src contacts) rights ≡ opens
    → ArePlayed plan time contacts → ArePlayed plan time (contacts ++ cond opens ((src, Taken rights caps) ∷ []) [])
taken plan time contacts src rights caps true is k =
    more plan time contacts src (Taken rights caps) k (and_parts (awaits (of_peer src contacts)) (is_within plan.version rights) is) tt
taken plan time contacts src rights caps false is k = rw (append-nil contacts) k

met : (plan : HostPlan) (time : ℕ) (contacts : List (Address × Contact)) (src : Address) (back : ReturnInfo) → ArePlayed plan time contacts
    → ArePlayed plan time (contacts ++ met_by plan.version contacts src back)
met plan time contacts src backs.Nothing k = rw (append-nil contacts) k
met plan time contacts src backs.Notice k = more plan time contacts src Notice k tt tt
met plan time contacts src (backs.Grant rights caps) k = taken plan time contacts src rights caps (takes plan.version (of_peer src contacts) rights) refl k

replied : (plan : HostPlan) (h : History) (now : ℕ) (src : Address) (answer : Option ReturnInfo) (above : Upper) → ArePlayed plan now h.contacts → ArePlayed plan now (after_reply plan now src answer above h).contacts
replied plan h now src None above k = k
replied plan h now src (Some back) above k = made plan h now src (body_of plan.version back above) k

intending : (plan : HostPlan) (h : History) (now : ℕ) (dst : Address) (payload : ℕ) → ArePlayed plan now h.contacts → ArePlayed plan now (after_intending plan h now dst payload).contacts
unfolding after_intending
intending plan h now dst payload k = made plan (with_deed (Sent dst) h) now dst payload k

receiving : (plan : HostPlan) (h : History) (now : ℕ) (p : PacketData) (above : Upper) → ArePlayed plan now h.contacts → ArePlayed plan now (after_receipt plan h now p above).contacts
unfolding after_receipt
receiving plan h now p above k =
    let before = before_reply plan p.flow.src p.carried h in
    let heard : ArePlayed plan now before.contacts = met plan now h.contacts p.flow.src (back_in p.carried) k in
    let answer = brought_by above (answer_to_claim plan h.deeds p.flow.src p.carried (claim_in p.carried)) in
    elim (eqb p.flow.dst.0 plan.address.0) as (λ b. ArePlayed plan now (cond b (after_reply plan now p.flow.src answer above before) h).contacts)
    [ true ↦ replied plan before now p.flow.src answer above heard | false ↦ k ]

pub played-from : (plan : HostPlan) (from : ℕ) (h : History) (cs : List Call) → NeverFall from cs → ArePlayed plan from h.contacts → ArePlayed plan (last_time from cs) (history_from plan h cs).contacts
played-from plan from h [] order k = k
played-from plan from h (Intended now dst payload above ∷ cs) order k = grind (arith, intending, played-from plan now (after_call plan h (Intended now dst payload above)) cs order.1 (intending plan h now dst payload (later plan from now h.contacts order.0 k)))
played-from plan from h (Injected flow payload carries ∷ cs) order k = played-from plan from (after_call plan h (Injected flow payload carries)) cs order k
played-from plan from h (Received now p above ∷ cs) order k =
    played-from plan now (after_call plan h (Received now p above)) cs order.1 (receiving plan h now p above (later plan from now h.contacts order.0 k))

none : (plan : HostPlan) → ArePlayed plan 0 []
none plan = record { played = λ a. tt; times = λ a. All-nil (IsUpTo 0) }

pub played : (plan : HostPlan) (cs : List Call) → NeverFall 0 cs → ArePlayed plan (last_time 0 cs) (history_of plan cs).contacts
played plan cs order = played-from plan 0 beginning cs order (none plan)
