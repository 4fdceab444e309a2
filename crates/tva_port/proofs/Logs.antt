-- What one more entry changes of what a log comes to.
use Rattle.tva_port.proofs.Common.{◌≡◌, ℕ, ◌+◌, ◌*◌, ◌≤◌, ◌<◌, false, cond, ltb, List, [], ◌∷◌, ◌++◌, length, drop, refl, sym, ap, ◌∙◌, subst, zero, suc, arith, append-nil, append_assoc, fold, filter_map, count_by, drop-append-le, sum_by_push, filter_map-append, filter-append, All-nil, All-cons, All-head, All-tail, All-push, All-weaker, LinkLimits, Class, Legacy, PacketData, packet_length, Fair, fair, offer_leaves, take_leaves, RequestQueues, no_requests, Entry, Queued, Started, entry_time, NoneLater, entries_before, request_start, request_starts, free_from, request_step, regular_step, class_step, queued_legacy, is_legacy_start, legacy_after, Follows, AllFollow, IsLegal, nat_tests}
use Rattle.tva_port.specs.Requests.{Start}
use Rattle.tva_port.proofs.Debts.{AreBy}

-- ## times

pub later-push : (time : ℕ) (log : List Entry) (e : Entry) → NoneLater time log → entry_time e ≤ time → NoneLater time (log ++ e ∷ [])
later-push time log e n h = All-push (λ (x : Entry). entry_time x ≤ time) log e n h

pub later-weaker : (time now : ℕ) (log : List Entry) → time ≤ now → NoneLater time log → NoneLater now log
later-weaker time now log h n = All-weaker (λ (x : Entry). entry_time x ≤ time) (λ (x : Entry). entry_time x ≤ now) (λ x q. omega arith) log n

pub later-front : (time : ℕ) (log : List Entry) (e : Entry) → NoneLater time (log ++ e ∷ []) → NoneLater time log × (entry_time e ≤ time)
later-front time [] e n = (All-nil (λ (x : Entry). entry_time x ≤ time), All-head (λ (x : Entry). entry_time x ≤ time) e [] n)
later-front time (d ∷ ds) e n =
    let r = later-front time ds e (All-tail (λ (x : Entry). entry_time x ≤ time) d (ds ++ e ∷ []) n) in
    (All-cons (λ (x : Entry). entry_time x ≤ time) d ds (All-head (λ (x : Entry). entry_time x ≤ time) d (ds ++ e ∷ []) n) r.0, r.1)

starts_one : (time : ℕ) (e : Entry) (ss : List Start) → entry_time e ≤ time → AreBy time ss → AreBy time (request_starts (e ∷ []) ++ ss)
starts_one time e ss h b = grind arith

pub starts_by : (time : ℕ) (log : List Entry) → NoneLater time log → AreBy time (request_starts log)
starts_by time [] n = tt
starts_by time (e ∷ es) n =
    subst (λ ss. AreBy time ss) (sym (filter_map-append request_start (e ∷ []) es))
    (starts_one time e (request_starts es) (All-head (λ (x : Entry). entry_time x ≤ time) e es n) (starts_by time es (All-tail (λ (x : Entry). entry_time x ≤ time) e es n)))

-- all entries are before a later time
pub entries_before-all : (time until : ℕ) (log : List Entry) → time < until → NoneLater time log → entries_before until log ≡ log
entries_before-all time until [] h n = refl
entries_before-all time until (e ∷ es) h n = grind (arith, nat_tests, All-head (λ (x : Entry). entry_time x ≤ time) e es n, entries_before-all time until es h (All-tail (λ (x : Entry). entry_time x ≤ time) e es n))

-- an entry that is no earlier is cut away
pub entries_before-push : (until : ℕ) (log : List Entry) (e : Entry) → until ≤ entry_time e → entries_before until (log ++ e ∷ []) ≡ entries_before until log
entries_before-push until log e h = grind (arith, nat_tests, filter-append (λ (x : Entry). ltb (entry_time x) until) log (e ∷ []), append-nil (entries_before until log))

-- ## sums

pub starts-push : (log : List Entry) (e : Entry) → request_starts (log ++ e ∷ []) ≡ request_starts log ++ request_starts (e ∷ [])
starts-push log e = filter_map-append request_start log (e ∷ [])

pub starts-same : (log : List Entry) (e : Entry) → request_starts (e ∷ []) ≡ [] → request_starts (log ++ e ∷ []) ≡ request_starts log
starts-same log e h = starts-push log e ∙ (ap (λ (z : List Start). request_starts log ++ z) h ∙ append-nil (request_starts log))

pub free-queued : (l : LinkLimits) (free : ℕ) (log : List Entry) (t : ℕ) (c : Class) (k : ℕ) (p : PacketData) → free_from l free (log ++ Queued t c k p ∷ []) ≡ free_from l free log
free-queued l free [] t c k p = refl
free-queued l free (Queued u d j q ∷ es) t c k p = free-queued l free es t c k p
free-queued l free (Started u d q ∷ es) t c k p = free-queued l (u + packet_length q * l.ns_per_byte) es t c k p

pub free-started : (l : LinkLimits) (free : ℕ) (log : List Entry) (t : ℕ) (c : Class) (p : PacketData) → free_from l free (log ++ Started t c p ∷ []) ≡ t + packet_length p * l.ns_per_byte
free-started l free [] t c p = refl
free-started l free (Queued u d j q ∷ es) t c p = free-started l free es t c p
free-started l free (Started u d q ∷ es) t c p = free-started l (u + packet_length q * l.ns_per_byte) es t c p

-- ## what waits

-- the fair queues of a class after one more entry
abbrev pub fair_step : Class → Fair PacketData → Entry → Fair PacketData
fair_step c queues e = class_step c (offer_leaves packet_length) (take_leaves packet_length) queues e

pub fold-push : {A : Type 0} (step : A → Entry → A) (begin : A) (log : List Entry) (e : Entry)
    → fold step begin (log ++ e ∷ []) ≡ step (fold step begin log) e
fold-push step begin [] e = refl
fold-push step begin (d ∷ ds) e = fold-push step (step begin d) ds e

abbrev pub requests_after : LinkLimits → List Entry → RequestQueues
requests_after l log = fold request_step (no_requests l) log

abbrev pub regulars_after : LinkLimits → List Entry → Fair PacketData
regulars_after l log = fold regular_step (fair l.regular []) log

pub requests-push : (l : LinkLimits) (log : List Entry) (e : Entry)
    → requests_after l (log ++ e ∷ []) ≡ request_step (requests_after l log) e
requests-push l log e = fold-push request_step (no_requests l) log e

pub regulars-push : (l : LinkLimits) (log : List Entry) (e : Entry)
    → regulars_after l (log ++ e ∷ []) ≡ regular_step (regulars_after l log) e
regulars-push l log e = fold-push regular_step (fair l.regular []) log e

-- no more legacy packets started than were queued
abbrev pub FewStarted : List Entry → Type 0
FewStarted log = count_by is_legacy_start log ≤ length (filter_map queued_legacy log)

pub count-push : (log : List Entry) (e : Entry) → count_by is_legacy_start (log ++ e ∷ []) ≡ count_by is_legacy_start log + cond (is_legacy_start e) 1 0
count-push log e = sum_by_push (λ (x : Entry). cond (is_legacy_start x) 1 0) log e

pub queued-push : (log : List Entry) (e : Entry) → filter_map queued_legacy (log ++ e ∷ []) ≡ filter_map queued_legacy log ++ filter_map queued_legacy (e ∷ [])
queued-push log e = filter_map-append queued_legacy log (e ∷ [])

pub legacy-same : (log : List Entry) (e : Entry) → is_legacy_start e ≡ false → filter_map queued_legacy (e ∷ []) ≡ [] → legacy_after (log ++ e ∷ []) ≡ legacy_after log
legacy-same log e n q = grind (arith, count-push log e, queued-push log e, append-nil (filter_map queued_legacy log))

pub legacy-queued : (log : List Entry) (t k : ℕ) (p : PacketData) → FewStarted log → legacy_after (log ++ Queued t Legacy k p ∷ []) ≡ legacy_after log ++ p ∷ []
legacy-queued log t k p f = grind (arith, count-push log (Queued t Legacy k p), queued-push log (Queued t Legacy k p), drop-append-le (count_by is_legacy_start log) (filter_map queued_legacy log) (p ∷ []))

drop_more : {A : Type 0} (n : ℕ) (xs : List A) → drop (suc n) xs ≡ drop 1 (drop n xs)
drop_more zero xs = refl
drop_more (suc n) [] = refl
drop_more (suc n) (x ∷ xs) = drop_more n xs

pub legacy-started : (log : List Entry) (t : ℕ) (p : PacketData) → legacy_after (log ++ Started t Legacy p ∷ []) ≡ drop 1 (legacy_after log)
legacy-started log t p = grind (arith, count-push log (Started t Legacy p), queued-push log (Started t Legacy p), append-nil (filter_map queued_legacy log), drop_more (count_by is_legacy_start log) (filter_map queued_legacy log))

-- ## legal logs

pub goes_on-push : (l : LinkLimits) (before log : List Entry) (e : Entry) → AllFollow l before log → Follows l (before ++ log) e → AllFollow l before (log ++ e ∷ [])
goes_on-push l before [] e g f = (subst (λ z. Follows l z e) (append-nil before) f, tt)
goes_on-push l before (d ∷ ds) e g f =
    (g.0, goes_on-push l (before ++ d ∷ []) ds e g.1 (subst (λ z. Follows l z e) (sym (append_assoc before (d ∷ []) ds)) f))

-- what each entry keeps is true of every legal log
along : (l : LinkLimits) (P : List Entry → Type 0) → ((before : List Entry) (e : Entry) → Follows l before e → P before → P (before ++ e ∷ [])) → (before es : List Entry) → P before → AllFollow l before es → P (before ++ es)
along l P s before [] b g = subst P (sym (append-nil before)) b
along l P s before (e ∷ es) b g = subst P (append_assoc before (e ∷ []) es) (along l P s (before ++ e ∷ []) es (s before e g.0 b) g.1)

pub legal-all : (l : LinkLimits) (P : List Entry → Type 0) → P [] → ((before : List Entry) (e : Entry) → Follows l before e → P before → P (before ++ e ∷ [])) → (log : List Entry) → IsLegal l log → P log
legal-all l P b s log g = along l P s [] log b g

-- the entries before any place of a legal log are legal, and the entry there follows them
pub legal-front : (l : LinkLimits) (before log rest : List Entry) → AllFollow l before (log ++ rest) → AllFollow l before log
legal-front l before [] rest g = tt
legal-front l before (e ∷ es) rest g = (g.0, legal-front l (before ++ e ∷ []) es rest g.1)

pub legal-here : (l : LinkLimits) (before log : List Entry) (e : Entry) (rest : List Entry) → AllFollow l before (log ++ e ∷ rest) → Follows l (before ++ log) e
legal-here l before [] e rest g = subst (λ z. Follows l z e) (sym (append-nil before)) g.0
legal-here l before (d ∷ ds) e rest g = subst (λ z. Follows l z e) (append_assoc before (d ∷ []) ds) (legal-here l (before ++ d ∷ []) ds e rest g.1)
