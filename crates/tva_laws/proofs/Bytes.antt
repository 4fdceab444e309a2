-- Each segment that a host sends has a byte at least, where each row of a file has bytes.
use Rattle.tva_laws.proofs.Common.{◌≡◌, ℕ, ◌-◌, ◌≤◌, min, List, [], ◌∷◌, ◌++◌, Option, Some, None, refl, arith, fold, AllByRecursion, cons_option, position, option_and_then, option_map, cases_Bool, eqb-true, position-Some, get_or_from_slice_get, some_pair_parts, Address, Flow, Upper, Data, HostPlan, RouterPlan, PacketData, Charge, Config, IsConfig, Transfer, Files, Act, Filed, Came, after_act, after_upper, answer_to, is_due, segment_due, segment_of, sent_by, Row, RowWhat, File, Site, Entry, act_of, acts, files, Logs, log_at, site_at, IsRunTo, at_place, nat_tests}
use Rattle.std.specs.List.{slice_get}
use Rattle.tva_router.specs.Handling as handling
use Rattle.tva_transfer.specs.Files.{Ticked}
use Rattle.tva_transfer.proofs.Places.{slice_get-push, slice_get-set}
use Rattle.tva_laws.proofs.PathWalks.{IsEntryGood, all_good}

-- ## what has bytes

-- a row that begins a file says how many bytes, and how many in a segment
abbrev pub HasBytes : RowWhat → Type 0
HasBytes w = (dst : Address) (size segment : ℕ) → w ≡ File dst size segment → (1 ≤ size) × (1 ≤ segment)

abbrev IsAct : Act → Type 0
IsAct (Filed dst size segment) = (1 ≤ size) × (1 ≤ segment)
IsAct (Ticked dst) = Unit {0}
IsAct (Came p) = Unit {0}

-- the segments of each transfer
abbrev AreCut : List Transfer → Type 0
AreCut ts = (place : ℕ) (t : Transfer) → slice_get ts place ≡ Some t → 1 ≤ t.segment

-- ## what stays so

upper_cut : (known : Files) (source : Address) (above : Upper) → AreCut known.transfers → AreCut (after_upper known source above).transfers
unfolding after_upper
upper_cut known source above k = grind (arith, nat_tests, slice_get-set, eqb-true, cases_Bool)

-- ## what is sent

of_segment : (place : ℕ) (t : Transfer) (number first bytes : ℕ) → 1 ≤ t.segment → 1 ≤ t.size - t.acked → segment_of place t ≡ Data number first bytes → 1 ≤ bytes
of_segment place t number first bytes cut left e = let is : min t.segment (t.size - t.acked) ≡ bytes = cc in omega (arith, is, cut, left)

due_some : (known : Files) (dst : Address) (number first bytes : ℕ) → AreCut known.transfers → (o : Option ℕ)
    → position (is_due dst) known.transfers ≡ o
    → option_and_then (λ place. option_map (segment_of place) (slice_get known.transfers place)) o ≡ Some (Data number first bytes) → 1 ≤ bytes
due_some known dst number first bytes k None e h = absurd (cc)
due_some known dst number first bytes k (Some place) e h = go (slice_get known.transfers place) refl h
  where
    go : (o : Option Transfer) → slice_get known.transfers place ≡ o → option_map (segment_of place) o ≡ Some (Data number first bytes) → 1 ≤ bytes
    go None g h = absurd (cc)
    go (Some t) g h = grind (arith, nat_tests, position-Some (is_due dst) known.transfers place t e, get_or_from_slice_get known.transfers place t t g)

answer_some : (known : Files) (source : Address) (above : Upper) (number first bytes : ℕ) → AreCut known.transfers
    → answer_to known source above ≡ Data number first bytes → 1 ≤ bytes
unfolding answer_to
answer_some known source above number first bytes k h = grind (arith, nat_tests)

sent_some : (home : Address) (known : Files) (a : Act) (flow : Flow) (number first bytes : ℕ) → IsAct a → AreCut known.transfers
    → sent_by home known a ≡ Some (flow, Data number first bytes) → 1 ≤ bytes
unfolding segment_due
sent_some home known a flow number first bytes own k h = grind (arith, nat_tests, some_pair_parts, due_some, answer_some)

-- ## along a log

-- of what comes in nothing is known but the rows
abbrev AnyPacket : PacketData → Type 0
AnyPacket p = Unit {0}

abbrev pub IsFull : Entry → Type 0
IsFull e = IsEntryGood AnyPacket HasBytes e

entry_act : (e : Entry) (a : Act) → IsFull e → act_of e ≡ Some a → IsAct a
entry_act e a h h3 = grind (arith, nat_tests)

log_cut : (home : Address) (known : Files) (log : List Entry) → AllByRecursion IsFull log → AreCut known.transfers
    → AreCut (fold (after_act home) known (acts log)).transfers
log_cut home known [] h k = k
log_cut home known (e ∷ es) h k = go (act_of e) refl (λ now j. log_cut home now es h.1 j)
  where
    go : (o : Option Act) → act_of e ≡ o → ((now : Files) → AreCut now.transfers → AreCut (fold (after_act home) now (acts es)).transfers)
        → AreCut (fold (after_act home) known (cons_option o (acts es))).transfers
    go o is next = grind (arith, nat_tests, entry_act, slice_get-push, cases_Bool, upper_cut)

front : (xs ys : List Entry) → AllByRecursion IsFull (xs ++ ys) → AllByRecursion IsFull xs
front [] ys h = tt
front (x ∷ xs) ys h = (h.0, front xs ys h.1)

-- at each place of such a log
pub some_sent : (plan : HostPlan) (log before : List Entry) (e : Entry) (rest : List Entry) → AllByRecursion IsFull log → log ≡ before ++ e ∷ rest
    → (a : Act) → act_of e ≡ Some a → (flow : Flow) (number first bytes : ℕ)
    → sent_by plan.address (files plan before) a ≡ Some (flow, Data number first bytes) → 1 ≤ bytes
some_sent plan log before e rest h split a is flow number first bytes sent = grind (arith, nat_tests, sent_some, entry_act, at_place, log_cut, front)

-- ## in a run

any_onward : (plan : RouterPlan) (h : List Charge) (links : handling.PortLogs) (now : ℕ) (from : Option ℕ) (p : PacketData) → AnyPacket p
    → AnyPacket (handling.handle plan h links now from p).onward
any_onward plan h links now from p k = tt

pub all_full : (config : Config) (rows : List Row) (until : ℕ) (logs : Logs) → IsConfig config → AllByRecursion (λ (row : Row). HasBytes row.what) rows
    → IsRunTo config rows until logs → (node : ℕ) (site : Site) → site_at config node ≡ Some site → AllByRecursion IsFull (log_at logs node)
all_full config rows until logs valid bytes run node site is =
    all_good AnyPacket HasBytes any_onward config rows until logs valid run bytes (λ m there at before input c rest split e given p made. tt) node site is
