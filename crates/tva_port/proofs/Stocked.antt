-- How many packets wait at a port: one more once one is queued, one less once one starts, and never more than there
-- are places. So a port for packets by value has memory for each that it takes, and room for each that it gives.
use Rattle.tva_port.proofs.Common.{◌≡◌, ℕ, suc, ◌+◌, ◌-◌, ◌*◌, ◌≤◌, Bool, true, false, cond, leb, List, [], ◌∷◌, ◌++◌, length, drop, Some, refl, sym, ap, ◌∙◌, subst, inl, inr, length-append, arith, Option, None, append-nil, mul-le-mul_right, add-mul, leb_tells, sum_by-cons, sum_by_push, DrrLimits, LinkLimits, Class, Request, Regular, Legacy, PacketData, packet_length, inner_key_of, Offered, Queue, queue, Fair, fair, first, head, bytes_in, queue_bytes, all_bytes, lacks_queue, lacks_room, offer_answer, offer_leaves, refilled, popped, settled, front_settled, taken, AreQueues, IsFair, first_bytes, head_bytes, all_bytes-put, Group, Hier, group, inner_limits, fair_of, group_bytes, all_group_bytes, next, lacks_group, lacks_place, lacks_space, answer_to_offer, left_by_offer, group_refilled, group_settled, groups_taken, AreGroups, IsHier, none_true, bytes-changed, offered_is, left_queued, RequestQueues, OneLevel, TwoLevels, Decision, Start, WaitUntil, Idle, next_in, request_answer, request_leaves, request_taken, none_under, Waiting, lacks_legacy_room, queue_answer, is_queued, waiting_after, queued_by, decide_on, decision, started_by, credit_after, AreWithin, IsWithinLimits, put_leaves, start_leaves, decision_leaves, AreLinkLimits, Answer, AreOneAnswer, AreOneDecision, answer_by, decision_by, IsLegal, Entry, PortData, StandsFor, nat_tests}
use Rattle.tva_drr.specs.declared.offered.Offered.TheVariants as offers
use Rattle.tva_port.specs.Counts.{one, count_of, request_count, waiting_count, queued_count, started_count, request_places, places_in, hand_count, StockData}
use Rattle.tva_port.proofs.Deciding.{next_of, start_is, covered_pays}
use Rattle.tva_port.proofs.Standing.{refused_leaves}
use Rattle.tva_port.specs.declared.hand.Answer.TheVariants as answers
use Rattle.tva_port.specs.declared.hand.Next.{Next}
use Rattle.tva_port.specs.declared.hand.Next.TheVariants as nexts
use Rattle.tva_port.specs.Stocked.{IsStocked}
use Rattle.tva_port.proofs.Legality.{few_started}
use Rattle.tva_port.proofs.Limits.{stays_within}
use Rattle.tva_port.proofs.Waits.{puts_or, waits-queued, waits-started}

-- an offer that is queued passed both tests
pub queued_tests : {T : Type 0} (b c : Bool) (x : T) → cond b (offers.NoQueue x) (cond c (offers.QueueFull x) offers.Queued) ≡ offers.Queued → (b ≡ false) × (c ≡ false)
queued_tests b c x e = grind (arith, nat_tests)

-- ## sums by one measure, where another decides what offers and takes leave

module _ {T : Type 0} (measure count : T → ℕ) where
  sum-refilled : (quantum : ℕ) (qs : List (Queue T)) → all_bytes count (refilled quantum qs) ≡ all_bytes count qs
  sum-refilled quantum [] = refl
  sum-refilled quantum (q ∷ qs) = omega (arith, sum_by-cons (queue_bytes count) q qs, sum_by-cons (queue_bytes count) (queue q.key (q.deficit + quantum) q.items) qs)

  sum-settled : (quantum key deficit : ℕ) (xs : List T) (qs : List (Queue T)) → all_bytes count (settled measure quantum key deficit xs qs) ≡ bytes_in count xs + all_bytes count qs
  sum-settled quantum key deficit [] qs = omega (arith, sum-refilled quantum qs)
  sum-settled quantum key deficit (x ∷ xs) qs =
      let q : Queue T = queue key deficit (x ∷ xs) in
      elim (leb_tells (suc deficit) (measure x)) [
        | inl h ↦ subst (λ t. all_bytes count (cond t (refilled quantum (qs ++ q ∷ [])) (q ∷ qs)) ≡ bytes_in count (x ∷ xs) + all_bytes count qs) (sym h.0)
            (omega (arith, sum-refilled quantum (qs ++ q ∷ []), sum_by_push (queue_bytes count) qs q))
        | inr h ↦ subst (λ t. all_bytes count (cond t (refilled quantum (qs ++ q ∷ [])) (q ∷ qs)) ≡ bytes_in count (x ∷ xs) + all_bytes count qs) (sym h.0)
            (sum_by-cons (queue_bytes count) q qs)
      ]

  sum-served : (quantum key deficit : ℕ) (xs : List T) (qs : List (Queue T)) (x : T) → first xs ≡ Some x
      → all_bytes count (front_settled measure quantum (popped measure key deficit xs ∷ qs)) + count x ≡ all_bytes count (queue key deficit xs ∷ qs)
  sum-served quantum key deficit [] qs x e = absurd (cc)
  sum-served quantum key deficit (y ∷ ys) qs x e = grind (arith, nat_tests, (sum-settled quantum key (deficit - measure y) ys qs), (sum_by-cons (queue_bytes count) (queue key deficit (y ∷ ys)) qs), (sum_by-cons count y ys))

  pub sum-taken : (quantum : ℕ) (qs : List (Queue T)) (x : T) → head qs ≡ Some x → all_bytes count (taken measure quantum qs) + count x ≡ all_bytes count qs
  sum-taken quantum [] x e = absurd (cc)
  sum-taken quantum (q ∷ qs) x e = sum-served quantum q.key q.deficit q.items qs x e

  pub sum-offered : (f : Fair T) (key : ℕ) (x : T) → lacks_queue f key ≡ false → lacks_room measure f key x ≡ false → all_bytes count (offer_leaves measure f key x).queues ≡ all_bytes count f.queues + count x
  sum-offered f key x h r = ap (λ (z : Fair T). all_bytes count z.queues) (offered_is measure f key x h r) ∙ all_bytes-put count f.limits.quantum key x f.queues

  groups-refilled : (quantum : ℕ) (gs : List (Group T)) → all_group_bytes count (group_refilled quantum gs) ≡ all_group_bytes count gs
  groups-refilled quantum [] = refl
  groups-refilled quantum (g ∷ gs) = omega (arith, sum_by-cons (group_bytes count) g gs, sum_by-cons (group_bytes count) (group g.key (g.deficit + quantum) g.queues) gs)

  groups-settled : (quantum key deficit : ℕ) (m : DrrLimits) (qs : List (Queue T)) (gs : List (Group T)) → all_group_bytes count (group_settled measure quantum (group key deficit (fair m qs)) qs gs) ≡ all_bytes count qs + all_group_bytes count gs
  groups-settled quantum key deficit m [] gs = omega (arith, groups-refilled quantum gs)
  groups-settled quantum key deficit m (q ∷ qs) gs =
      let g : Group T = group key deficit (fair m (q ∷ qs)) in
      elim (leb_tells (suc deficit) (first_bytes measure q.items)) [
        | inl t ↦ subst (λ z. all_group_bytes count (cond z (group_refilled quantum (gs ++ g ∷ [])) (g ∷ gs)) ≡ all_bytes count (q ∷ qs) + all_group_bytes count gs) (sym t.0)
            (omega (arith, groups-refilled quantum (gs ++ g ∷ []), sum_by_push (group_bytes count) gs g))
        | inr t ↦ subst (λ z. all_group_bytes count (cond z (group_refilled quantum (gs ++ g ∷ [])) (g ∷ gs)) ≡ all_bytes count (q ∷ qs) + all_group_bytes count gs) (sym t.0)
            (sum_by-cons (group_bytes count) g gs)
      ]

  pub sum-groups_taken : (quantum : ℕ) (gs : List (Group T)) (x : T) → next gs ≡ Some x → all_group_bytes count (groups_taken measure quantum gs) + count x ≡ all_group_bytes count gs
  sum-groups_taken quantum [] x e = absurd (cc)
  sum-groups_taken quantum (g ∷ gs) x e = grind (arith, nat_tests, (groups-settled quantum g.key (g.deficit - head_bytes measure g.queues.queues) g.queues.limits (taken measure g.queues.limits.quantum g.queues.queues) gs), (sum-taken g.queues.limits.quantum g.queues.queues x e), (sum_by-cons (group_bytes count) g gs))

  pub sum-offered_under : (h : Hier T) (outer inner : ℕ) (x : T) → answer_to_offer measure h outer inner x ≡ offers.Queued → all_group_bytes count (left_by_offer measure h outer inner x).groups ≡ all_group_bytes count h.groups + count x
  sum-offered_under h outer inner x e =
      let t = queued_tests (lacks_place h outer inner) (lacks_space measure h outer inner x) x e in
      let q = none_true (lacks_group h outer) (lacks_queue (fair_of h outer) inner) t.0 in
      let r = none_true (lacks_room measure (fair_of h outer) inner x) (leb (suc h.limits.class_bytes) (all_group_bytes measure h.groups + measure x)) t.1 in
      ap (λ (z : Hier T). all_group_bytes count z.groups) (left_queued measure h outer inner x e)
      ∙ bytes-changed count (λ f. offer_leaves measure f inner x) (inner_limits h.limits h.inner) h.limits.quantum outer (count x) h.groups (sum-offered (fair_of h outer) inner x q.1 r.0)

-- ## a packet that is queued

request-queued : (rs : RequestQueues) (key : ℕ) (p : PacketData) → request_answer rs key p ≡ offers.Queued → request_count (request_leaves rs key p) ≡ request_count rs + 1
request-queued (OneLevel f) key p e = grind (arith, nat_tests, (queued_tests (lacks_queue f key) (lacks_room packet_length f key p) p e), (sum-offered packet_length one f key p))
request-queued (TwoLevels h) key p e = sum-offered_under packet_length one h key (inner_key_of p) p e

queued_is : (a : Offered PacketData) → is_queued a ≡ true → a ≡ offers.Queued
queued_is a e = grind arith

none_queued : (a : Offered PacketData) → is_queued a ≡ false → queued_count a ≡ 0
none_queued a e = grind arith

request-put : (l : LinkLimits) (w : Waiting) (key : ℕ) (p : PacketData) (b : Bool) → is_queued (request_answer w.requests key p) ≡ b → waiting_count (put_leaves l w Request key p) ≡ waiting_count w + queued_count (request_answer w.requests key p)
request-put l w key p true e = grind (arith, nat_tests, queued_is, request-queued)
request-put l w key p false e = omega (arith, ap (λ z. waiting_count z) (refused_leaves l w Request key p e), none_queued (request_answer w.requests key p) e)

regular-put : (l : LinkLimits) (w : Waiting) (key : ℕ) (p : PacketData) (b : Bool) → is_queued (offer_answer packet_length w.regulars key p) ≡ b → waiting_count (put_leaves l w Regular key p) ≡ waiting_count w + queued_count (offer_answer packet_length w.regulars key p)
regular-put l w key p true e = grind (arith, nat_tests, (queued_is (offer_answer packet_length w.regulars key p) e), (queued_tests (lacks_queue w.regulars key) (lacks_room packet_length w.regulars key p) p), (sum-offered packet_length one w.regulars key p))
regular-put l w key p false e = omega (arith, ap (λ z. waiting_count z) (refused_leaves l w Regular key p e), none_queued (offer_answer packet_length w.regulars key p) e)

legacy-put : (b : Bool) (xs : List PacketData) (p : PacketData) → length (cond b xs (xs ++ p ∷ [])) ≡ length xs + queued_count (cond b (offers.QueueFull p) offers.Queued)
legacy-put true xs p = omega arith
legacy-put false xs p = length-append xs (p ∷ [])

-- what waits after an offer is what did, and the packet that is queued
pub count-put : (l : LinkLimits) (w : Waiting) (class : Class) (key : ℕ) (p : PacketData) → waiting_count (put_leaves l w class key p) ≡ waiting_count w + queued_count (queue_answer l w class key p)
count-put l w Request key p = request-put l w key p _ refl
count-put l w Regular key p = regular-put l w key p _ refl
count-put l w Legacy key p = omega (arith, legacy-put (lacks_legacy_room l w.legacy p) w.legacy p)

-- ## a packet that starts

request-started : (rs : RequestQueues) (p : PacketData) → next_in rs ≡ Some p → request_count (request_taken rs) + 1 ≡ request_count rs
request-started (OneLevel f) p e = sum-taken packet_length one f.limits.quantum f.queues p e
request-started (TwoLevels h) p e = sum-groups_taken packet_length one h.limits.quantum h.groups p e

legacy-started : (xs : List PacketData) (p : PacketData) → first xs ≡ Some p → length (drop 1 xs) + 1 ≡ length xs
legacy-started [] p e = absurd (cc)
legacy-started (x ∷ xs) p e = omega arith

class-started : (l : LinkLimits) (w : Waiting) (credit : ℕ) (class : Class) (p : PacketData) → next_of l w credit class ≡ Some p → waiting_count (start_leaves class w) + 1 ≡ waiting_count w
class-started l w credit class p e = grind (arith, covered_pays l credit (next_in w.requests) p, request-started w.requests p, sum-taken packet_length one w.regulars.limits.quantum w.regulars.queues p, legacy-started w.legacy p)

-- what waits after a decision, with what starts, is what waited
pub count-started : (l : LinkLimits) (w : Waiting) (credit now : ℕ) (d : Decision) → d ≡ decide_on l w credit now → waiting_count (decision_leaves d w) + started_count d ≡ waiting_count w
count-started l w credit now (Start class p) e = class-started l w credit class p (start_is l w credit now class p (sym e))
count-started l w credit now (WaitUntil time) e = omega arith
count-started l w credit now Idle e = omega arith

-- ## the places

length-counts : (xs : List PacketData) → bytes_in one xs ≡ length xs
length-counts [] = refl
length-counts (x ∷ xs) = omega (arith, sum_by-cons one x xs, length-counts xs)

queues-few : (l : DrrLimits) (qs : List (Queue PacketData)) → AreQueues packet_length l qs → all_bytes one qs ≤ length qs * l.ring
queues-few l [] a = omega arith
queues-few l (q ∷ qs) a = omega (arith, queues-few l qs a.2, a.0.ring, length-counts q.items, sum_by-cons (queue_bytes one) q qs, add-mul 1 (length qs) l.ring)

pub fair-few : (f : Fair PacketData) → IsFair packet_length f → count_of f ≤ f.limits.queues * f.limits.ring
fair-few f h = omega (arith, queues-few f.limits f.queues h.queues.each, mul-le-mul_right f.limits.ring h.queues.few)

groups-few : (l : DrrLimits) (inner : ℕ) (gs : List (Group PacketData)) → AreGroups packet_length l inner gs → all_group_bytes one gs ≤ length gs * (inner * l.ring)
groups-few l inner [] a = omega arith
groups-few l inner (g ∷ gs) a =
    let few : count_of g.queues ≤ inner * l.ring = subst (λ (z : DrrLimits). count_of g.queues ≤ z.queues * z.ring) a.0.limits (fair-few g.queues a.0.fair) in
    omega (arith, few, groups-few l inner gs a.2, sum_by-cons (group_bytes one) g gs, add-mul 1 (length gs) (inner * l.ring))

pub hier-few : (h : Hier PacketData) → IsHier packet_length h → all_group_bytes one h.groups ≤ h.limits.queues * (h.inner * h.limits.ring)
hier-few h i = omega (arith, groups-few h.limits h.inner h.groups i.groups.each, mul-le-mul_right (h.inner * h.limits.ring) i.groups.few)

pub request-few : (l : LinkLimits) (rs : RequestQueues) → AreWithin l rs → request_count rs ≤ request_places l
request-few l rs w = grind (arith, nat_tests, fair-few, hier-few)

pub regular-few : (l : LinkLimits) (f : Fair PacketData) → IsFair packet_length f → f.limits ≡ l.regular → count_of f ≤ l.regular.queues * l.regular.ring
regular-few l f h e = subst (λ (z : DrrLimits). count_of f ≤ z.queues * z.ring) e (fair-few f h)

-- what waits within the limits of each class has a place
pub count-few : (l : LinkLimits) (w : Waiting) → IsWithinLimits l w → waiting_count w ≤ places_in l
count-few l w h = omega (arith, request-few l w.requests h.requests, regular-few l w.regulars h.regulars.0 h.regulars.1, h.legacy.0)

-- ## what waits after a log

no_count : (d : DrrLimits) (inner : Option ℕ) → request_count (none_under d inner) ≡ 0
no_count d None = refl
no_count d (Some n) = refl

-- nothing before the first entry
pub waits_none : (l : LinkLimits) → waiting_count (waiting_after l []) ≡ 0
waits_none l = omega (arith, no_count l.request l.request_inner)

-- a packet more where it is queued
pub waits_more : (l : LinkLimits) (log : List Entry) (now : ℕ) (class : Class) (key : ℕ) (p : PacketData) → IsLegal l log
    → waiting_count (waiting_after l (log ++ queued_by (queue_answer l (waiting_after l log) class key p) now class key p))
    ≡ waiting_count (waiting_after l log) + queued_count (queue_answer l (waiting_after l log) class key p)
waits_more l log now class key p legal = grind (arith, nat_tests, (puts_or l (waiting_after l log) class key p), (waits-queued l log now class key p (few_started l log legal)), (few_started l log legal), (count-put l (waiting_after l log) class key p), (append-nil log))

-- one less where it starts
pub waits_less : (l : LinkLimits) (log : List Entry) (now : ℕ) (d : Decision) → d ≡ decision l log now
    → waiting_count (waiting_after l (log ++ started_by d now)) + started_count d ≡ waiting_count (waiting_after l log)
unfolding decision
waits_less l log now (Start class p) e =
    omega (arith, count-started l (waiting_after l log) (credit_after l log now) now (Start class p) e, ap (λ (w : Waiting). waiting_count w) (waits-started l log now class p))
waits_less l log now (WaitUntil time) e = omega (arith, ap (λ (es : List Entry). waiting_count (waiting_after l es)) (append-nil log))
waits_less l log now Idle e = omega (arith, ap (λ (es : List Entry). waiting_count (waiting_after l es)) (append-nil log))

-- and never more than there are places
pub waits_few : (l : LinkLimits) (log : List Entry) → AreLinkLimits l → IsLegal l log → waiting_count (waiting_after l log) ≤ places_in l
waits_few l log ok legal = count-few l (waiting_after l log) (stays_within l log ok legal log [] (sym (append-nil log)))

-- ## what a hand holds

pub hand_offered : (answer : Answer) (hand : Option PacketData) → AreOneAnswer answer hand → hand_count hand + queued_count (answer_by answer hand) ≡ 1
hand_offered answer hand h = grind arith

pub hand_decided : (next : Next) (hand : Option PacketData) → AreOneDecision next hand → hand_count hand ≡ started_count (decision_by next hand)
hand_decided next hand h = grind arith

-- ## the stock

count_is : (v : PortData) (log : List Entry) → StandsFor v log → waiting_count v.waiting ≡ waiting_count (waiting_after v.limits log)
count_is v log s = ap (λ (w : Waiting). waiting_count w) s.waiting

-- it is never empty
pub has_hand : (v : PortData) (stock : StockData) → IsStocked v stock → 1 ≤ stock.count
has_hand v stock s = omega (arith, s.count, count_is v s.log s.stands, waits_few v.limits s.log s.limits s.stands.legal)

-- memory is kept with a packet that is queued
pub stocked_queued : (v z : PortData) (now : ℕ) (class : Class) (key : ℕ) (p : PacketData) (a : Offered PacketData) (stock left : StockData)
    → IsStocked v stock → z.limits ≡ v.limits
    → ((log : List Entry) → StandsFor v log → a ≡ queue_answer v.limits (waiting_after v.limits log) class key p)
    → ((log : List Entry) → StandsFor v log → StandsFor z (log ++ queued_by a now class key p))
    → left.count + queued_count a ≡ stock.count → left.room ≡ stock.room → IsStocked z left
stocked_queued v z now class key p a stock left s e answer stands g h =
    let l = v.limits in
    let a-is = answer s.log s.stands in
    let new = stands s.log s.stands in
    let more : waiting_count z.waiting ≡ waiting_count v.waiting + queued_count a =
    count_is z (s.log ++ queued_by a now class key p) new
    ∙ (ap (λ (m : LinkLimits). waiting_count (waiting_after m (s.log ++ queued_by a now class key p))) e
    ∙ (subst (λ (x : Offered PacketData). waiting_count (waiting_after l (s.log ++ queued_by x now class key p)) ≡ waiting_count (waiting_after l s.log) + queued_count x) (sym a-is)
    (waits_more l s.log now class key p s.stands.legal)
    ∙ ap (λ (n : ℕ). n + queued_count a) (sym (count_is v s.log s.stands)))) in
    record {
      log = s.log ++ queued_by a now class key p;
      stands = new;
      limits = subst AreLinkLimits (sym e) s.limits;
      count = omega (arith, s.count, g, more, ap places_in e);
      room = omega (arith, s.room, h, ap places_in e);
    }

-- and comes back when it starts
pub stocked_decided : (v z : PortData) (now : ℕ) (d : Decision) (stock left : StockData)
    → IsStocked v stock → z.limits ≡ v.limits
    → ((log : List Entry) → StandsFor v log → d ≡ decision v.limits log now)
    → ((log : List Entry) → StandsFor v log → StandsFor z (log ++ started_by d now))
    → left.count ≡ stock.count + started_count d → left.room ≡ stock.room → IsStocked z left
stocked_decided v z now d stock left s e decides stands g h = grind (arith, nat_tests, count_is, waits_less)

-- there is room for what starts
pub has_room : (v : PortData) (now : ℕ) (d : Decision) (stock : StockData) → IsStocked v stock
    → ((log : List Entry) → StandsFor v log → d ≡ decision v.limits log now) → stock.count + started_count d ≤ stock.room
has_room v now d stock s decides =
    omega (arith, s.count, s.room, waits_less v.limits s.log now d (decides s.log s.stands), count_is v s.log s.stands)
