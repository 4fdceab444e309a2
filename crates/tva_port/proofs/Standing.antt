-- A port goes on to stand for its log, and stays within its limits.
use Rattle.tva_port.proofs.Common.{◌≡◌, false, ℕ, ◌-◌, ◌≤◌, List, [], ◌∷◌, ◌++◌, refl, sym, ap, subst, arith, append-nil, ◌+◌, LinkLimits, Class, Request, Regular, Legacy, PacketData, packet_length, Offered, Decision, Start, WaitUntil, Idle, start, debt, cap, Entry, Queued, Started, request_starts, Waiting, waiting_after, queue_answer, queued_by, is_queued, decision, decide_on, credit_after, started_by, IsStarted, PortData, port_data, StandsFor, grown, put_leaves, decision_leaves, paid, freed, Fair, limits_in, RequestQueues, LegacyData, IsSound, nat_tests}
use Rattle.tva_drr.specs.declared.offered.Offered.TheVariants as offers
use Rattle.tva_port.proofs.Debts.{debt-later, debt-push}
use Rattle.tva_port.proofs.Logs.{later-push, later-weaker, starts_by, starts-push, starts-same, free-queued, free-started, goes_on-push}
use Rattle.tva_port.proofs.Legality.{few_started, debt_capped}
use Rattle.tva_port.proofs.Waits.{puts_or, waits-queued, waits-started}

-- the running credit is the credit after the log, at every later time
pub credit_is : (v : PortData) (log : List Entry) (now : ℕ) → StandsFor v log → v.last ≤ now → grown v.limits v.credit (now - v.last) ≡ credit_after v.limits log now
credit_is v log now s h =
    omega (arith, s.credit, debt_capped v.limits log s.legal v.last s.past, debt-later v.limits (request_starts log) v.last now (starts_by v.last log s.past) h)

pub decision_is : (v : PortData) (log : List Entry) (now : ℕ) → StandsFor v log → v.last ≤ now → decide_on v.limits v.waiting (grown v.limits v.credit (now - v.last)) now ≡ decision v.limits log now
unfolding decision
decision_is v log now s h = grind (arith, nat_tests, credit_is)

-- time goes on
pub stands-later : (v : PortData) (log : List Entry) (now : ℕ) → StandsFor v log → v.last ≤ now → StandsFor (port_data v.limits now (grown v.limits v.credit (now - v.last)) v.free_at v.waiting) log
stands-later v log now s h = grind (arith, nat_tests, later-weaker, credit_is)

stands-nothing : (v : PortData) (log more : List Entry) → more ≡ [] → StandsFor v log → StandsFor v (log ++ more)
stands-nothing v log more e s = subst (λ z. StandsFor v (log ++ z)) (sym e) (subst (λ z. StandsFor v z) (sym (append-nil log)) s)

stands-queued : (v : PortData) (log : List Entry) (class : Class) (key : ℕ) (p : PacketData) → StandsFor v log → (20 ≤ packet_length p) × (packet_length p ≤ 2048) → queue_answer v.limits (waiting_after v.limits log) class key p ≡ offers.Queued
    → StandsFor (port_data v.limits v.last v.credit v.free_at (put_leaves v.limits v.waiting class key p)) (log ++ Queued v.last class key p ∷ [])
stands-queued v log class key p s z e = grind (arith, nat_tests, later-push, goes_on-push, waits-queued, few_started, free-queued, starts-same)

-- after a queueing at the last time
pub stands-put : (v : PortData) (log : List Entry) (class : Class) (key : ℕ) (p : PacketData) → StandsFor v log → (20 ≤ packet_length p) × (packet_length p ≤ 2048)
    → StandsFor (port_data v.limits v.last v.credit v.free_at (put_leaves v.limits v.waiting class key p)) (log ++ queued_by (queue_answer v.limits (waiting_after v.limits log) class key p) v.last class key p)
stands-put v log class key p s z = grind (arith, puts_or v.limits (waiting_after v.limits log) class key p, stands-queued v log class key p s z, append-nil log)

-- what a start pays
credit-started : (l : LinkLimits) (log : List Entry) (time : ℕ) (class : Class) (p : PacketData) → IsStarted l log time class p → paid l (credit_after l log time) (Start class p) ≡ credit_after l (log ++ Started time class p ∷ []) time
credit-started l log time Request p f = grind (arith, nat_tests, (debt-push l (request_starts log) (start time (packet_length p)) time (starts_by time log f.order) (omega arith)), (starts_by time log f.order), (starts-push log (Started time Request p)))
credit-started l log time Regular p f = ap (λ ss. cap l - debt l ss time) (sym (starts-same log (Started time Regular p) refl))
credit-started l log time Legacy p f = ap (λ ss. cap l - debt l ss time) (sym (starts-same log (Started time Legacy p) refl))

-- after a decision at the last time
pub stands-decided : (v : PortData) (log : List Entry) (d : Decision) → StandsFor v log → v.free_at ≤ v.last → d ≡ decision v.limits log v.last
    → StandsFor (port_data v.limits v.last (paid v.limits v.credit d) (freed v.limits v.free_at v.last d) (decision_leaves d v.waiting)) (log ++ started_by d v.last)
stands-decided v log (Start class p) s h e = grind (arith, nat_tests, later-push, goes_on-push, waits-started, free-started, credit-started)
stands-decided v log (WaitUntil u) s h e = stands-nothing v log [] refl s
stands-decided v log Idle s h e = stands-nothing v log [] refl s

-- ## the calls, from what the parts answer and leave

-- the decision of a port that stands for the log
pub decided : (v z : PortData) (log : List Entry) (now credit : ℕ) (d : Decision) → v ≡ z → StandsFor z log → z.last ≤ now → credit ≡ grown v.limits v.credit (now - v.last) → d ≡ decide_on v.limits v.waiting credit now → d ≡ decision z.limits log now
decided v z log now credit d e s h g k = grind (arith, decision_is v log now)

pub stands_by_decide : (v z : PortData) (log : List Entry) (now credit left free : ℕ) (w : Waiting) (d : Decision) → v ≡ z → StandsFor z log → z.last ≤ now → z.free_at ≤ now → credit ≡ grown v.limits v.credit (now - v.last) → d ≡ decide_on v.limits v.waiting credit now
    → left ≡ paid v.limits credit d → free ≡ freed v.limits v.free_at now d → w ≡ decision_leaves d v.waiting → StandsFor (port_data v.limits now left free w) (log ++ started_by d now)
stands_by_decide v z log now credit left free w d e s h f g k m n o = grind (arith, stands-decided (port_data v.limits now (grown v.limits v.credit (now - v.last)) v.free_at v.waiting) log d, stands-later v log now, decided v v log now credit d refl)

pub stands_by_queue : (v z : PortData) (log : List Entry) (now credit : ℕ) (w : Waiting) (a : Offered PacketData) (class : Class) (key : ℕ) (p : PacketData) → v ≡ z → StandsFor z log → z.last ≤ now → credit ≡ grown v.limits v.credit (now - v.last)
    → (20 ≤ packet_length p) × (packet_length p ≤ 2048) → a ≡ queue_answer v.limits v.waiting class key p → w ≡ put_leaves v.limits v.waiting class key p → StandsFor (port_data v.limits now credit v.free_at w) (log ++ queued_by a now class key p)
stands_by_queue v z log now credit w a class key p e s h g u k o = grind (arith, stands-put (port_data v.limits now (grown v.limits v.credit (now - v.last)) v.free_at v.waiting) log class key p, stands-later v log now)

-- the answer of a port that stands for the log
pub answered : (v z : PortData) (log : List Entry) (a : Offered PacketData) (class : Class) (key : ℕ) (p : PacketData) → v ≡ z → StandsFor z log → a ≡ queue_answer v.limits v.waiting class key p → a ≡ queue_answer z.limits (waiting_after z.limits log) class key p
answered v z log a class key p e s k = grind (arith, s.waiting)

-- a refusal leaves what waits
pub refused_leaves : (l : LinkLimits) (w : Waiting) (class : Class) (key : ℕ) (p : PacketData) → is_queued (queue_answer l w class key p) ≡ false → put_leaves l w class key p ≡ w
refused_leaves l w class key p e = grind (arith, puts_or l w class key p)

pub sound-later : (l : LinkLimits) (last c free now d done : ℕ) (rs ss : RequestQueues) (gs hs : Fair PacketData) (w v : LegacyData)
    → IsSound l last c free rs gs w → d ≤ cap l → done ≤ now + 2048000000 → limits_in ss ≡ limits_in rs → hs.limits ≡ gs.limits
    → (v.places ≡ w.places) × (v.most ≡ w.most) → IsSound l now d done ss hs v
sound-later l last c free now d done rs ss gs hs w v s e f g h k = grind (arith, s.limits, s.requests, s.regulars, s.places, s.most)

pub paid_less : (l : LinkLimits) (credit : ℕ) (d : Decision) → paid l credit d ≤ credit
paid_less l credit d = grind arith
