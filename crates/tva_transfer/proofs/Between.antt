-- What passes between couriers.
use Rattle.tva_transfer.proofs.Common.{◌≡◌, ◌≢◌, ℕ, ◌+◌, ◌≤◌, true, List, [], ◌∷◌, ◌++◌, Some, length, sym, ap, subst, ◌∙◌, append_assoc, arith, Contains, slice_get, cases_Bool, eqb-true, slice_get_within, Address, Flow, Upper, Nothing, Data, Ack, DataLine, PacketData, Transfer, Files, Act, Came, after_act, files_of, heard, is_addressed_to, next_of, AreFrom, IsSent, IsWithin, Step, acts_at, files_at, ranges_of, sent_by}
use Rattle.tva_transfer.proofs.Acts.{acts_at-step, step_at}
use Rattle.tva_transfer.proofs.History.{HasCome, next_of-rises, ranges_came}
use Rattle.tva_transfer.proofs.Sent.{IsKept, IsOf, address_is, acked_came, sent_ack, sent_data, stays}
use Rattle.tva_transfer.proofs.Standing.{files_of-push}

-- what is heard is of a packet for the host
heard_is : (home : Address) (p : PacketData) (above : Upper) → above ≢ Nothing → heard home p ≡ above → (is_addressed_to home p ≡ true) × (p.upper ≡ above)
heard_is home p above some e = grind (arith, cases_Bool)

-- a courier sent with a flow to the host what came in at it
pub record IsSentTo (home : ℕ → Address) (steps : List Step) (sender receiver : ℕ) (above : Upper) : Type 0 where
  pub earlier : List Step
  pub later : List Step
  pub act : Act
  pub flow : Flow
  pub is : steps ≡ earlier ++ record { at = sender; act = act } ∷ later
  pub to : flow.dst ≡ home receiver
  pub sent : sent_by (home sender) (files_at home sender earlier) act ≡ Some (flow, above)

sent_before : (home : ℕ → Address) (steps : List Step) (receiver sender : ℕ) (above : Upper) (p : PacketData) (before after : List Step) → steps ≡ before ++ record { at = receiver; act = Came p } ∷ after → p.flow.dst ≡ home receiver → p.upper ≡ above → IsSent home before sender p.flow p.upper → IsSentTo home steps sender receiver above
sent_before home steps receiver sender above p before after is dst same sent = grind (arith, append_assoc)

pub came_from : (home : ℕ → Address) (steps : List Step) (receiver sender : ℕ) (above : Upper) → above ≢ Nothing → AreFrom home steps → HasCome (home receiver) (acts_at receiver steps) (home sender) above → IsSentTo home steps sender receiver above
came_from home steps receiver sender above some fromall h =
    let s = step_at steps receiver h.before (Came h.packet) h.after h.is in
    let heard_so = heard_is (home receiver) h.packet above some h.brings in
    let dst = address_is h.packet.flow.dst (home receiver) (eqb-true h.packet.flow.dst.0 (home receiver).0 heard_so.0) in
    sent_before home steps receiver sender above h.packet s.earlier s.later s.is dst heard_so.1
    (fromall s.earlier s.later receiver h.packet s.is heard_so.0 sender (address_is h.packet.flow.src (home sender) h.from) (λ none. some (sym heard_so.1 ∙ none)))

-- ## after a step

files_at-step : (home : ℕ → Address) (number : ℕ) (steps earlier later : List Step) (act : Act) → steps ≡ earlier ++ record { at = number; act = act } ∷ later → files_at home number steps ≡ files_of (home number) ((acts_at number earlier ++ act ∷ []) ++ acts_at number later)
files_at-step home number steps earlier later act is = grind (arith, acts_at-step, append_assoc)

pub stays_at : (home : ℕ → Address) (number : ℕ) (steps earlier later : List Step) (act : Act) (place : ℕ) (t : Transfer) → steps ≡ earlier ++ record { at = number; act = act } ∷ later → slice_get (after_act (home number) (files_at home number earlier) act).transfers place ≡ Some t → IsKept (files_at home number steps).transfers place t
stays_at home number steps earlier later act place t is at =
    subst (λ (files : Files). IsKept files.transfers place t) (sym (files_at-step home number steps earlier later act is))
    (stays (home number) (acts_at number earlier ++ act ∷ []) (acts_at number later) place t
    (subst (λ (files : Files). slice_get files.transfers place ≡ Some t) (sym (files_of-push (home number) (acts_at number earlier) act)) at))

pub rises_at : (home : ℕ → Address) (number : ℕ) (steps earlier later : List Step) (act : Act) (source : Address) (transfer : ℕ) → steps ≡ earlier ++ record { at = number; act = act } ∷ later → next_of (after_act (home number) (files_at home number earlier) act) source transfer ≤ next_of (files_at home number steps) source transfer
rises_at home number steps earlier later act source transfer is =
    subst (λ (files : Files). next_of (after_act (home number) (files_at home number earlier) act) source transfer ≤ next_of files source transfer) (sym (files_at-step home number steps earlier later act is))
    (subst (λ (files : Files). next_of files source transfer ≤ next_of (files_of (home number) ((acts_at number earlier ++ act ∷ []) ++ acts_at number later)) source transfer) (files_of-push (home number) (acts_at number earlier) act)
    (next_of-rises (home number) (acts_at number earlier ++ act ∷ []) (acts_at number later) source transfer))

-- ## the laws

within : (dst to : Address) (ts : List Transfer) (transfer : ℕ) (r : DataLine) (d : IsOf ts to transfer r.first r.bytes) (all : List Transfer) → to ≡ dst → IsKept all d.place d.transfer → length all ≤ 65536 → IsWithin dst r (slice_get all transfer)
within dst to ts transfer r d all same k few = grind (arith, slice_get_within, slice_get)

sent_within : (home : ℕ → Address) (steps : List Step) (receiver sender transfer : ℕ) (r : DataLine) → length (files_at home sender steps).transfers ≤ 65536 → IsSentTo home steps sender receiver (Data transfer r.first r.bytes) → IsWithin (home receiver) r (slice_get (files_at home sender steps).transfers transfer)
sent_within home steps receiver sender transfer r few s =
    let d = sent_data (home sender) (files_at home sender s.earlier) s.act s.flow transfer r.first r.bytes s.sent in
    within (home receiver) s.flow.dst (after_act (home sender) (files_at home sender s.earlier) s.act).transfers transfer r d (files_at home sender steps).transfers s.to
    (stays_at home sender steps s.earlier s.later s.act d.place d.transfer s.is d.at) few

sent_delivered : (home : ℕ → Address) (steps : List Step) (receiver sender transfer next : ℕ) → IsSentTo home steps receiver sender (Ack transfer next) → next ≤ next_of (files_at home receiver steps) (home sender) transfer
sent_delivered home steps receiver sender transfer next s = grind (arith, sent_ack, rises_at)

pub are_within : (home : ℕ → Address) (steps : List Step) (receiver sender transfer : ℕ) (r : DataLine) → AreFrom home steps → length (files_at home sender steps).transfers ≤ 65536 → Contains (ranges_of (files_at home receiver steps) (home sender) transfer) r → IsWithin (home receiver) r (slice_get (files_at home sender steps).transfers transfer)
are_within home steps receiver sender transfer r fromall few c = grind (arith, sent_within, came_from, ranges_came)

pub is_delivered : (home : ℕ → Address) (steps : List Step) (receiver sender transfer : ℕ) (t : Transfer) → AreFrom home steps → slice_get (files_at home sender steps).transfers transfer ≡ Some t → t.dst ≡ home receiver → t.acked ≤ next_of (files_at home receiver steps) (home sender) transfer
is_delivered home steps receiver sender transfer t fromall at to = grind (arith, sent_delivered, came_from, acked_came)

-- what holds at each place holds before
pub prefix : (home : ℕ → Address) (steps later : List Step) → AreFrom home (steps ++ later) → AreFrom home steps
prefix home steps later fromall before after number p is = fromall before (after ++ later) number p (ap (λ xs. xs ++ later) is ∙ append_assoc before (record { at = number; act = Came p } ∷ after) later)
