-- Links that have not decided yet at a time: each is asked then, or knows when it decides next.
use Rattle.tva_node.proofs.Common.{nat_tests, ◌≡◌, ℕ, ◌<◌, ◌≤◌, List, [], ◌∷◌, ◌++◌, map, All, Option, Some, None, false, refl, ap, arith, inr, append-nil, leb-false, All-map, All-weaker, filter_map-append, LinkPlan, Input, Site, Content, Entry, Took, content_at, port_logs, content_told, Link, asked_by, is_asked, link_pair, KnowsNext, queued_on, Waits}
use Rattle.tva_port.specs.Log as port

pub some_is : (a b : ℕ) → Some a ≡ Some b → a ≡ b
some_is a b e = cc

-- ## what is asked

pub not_asked : (next : Option ℕ) (now t : ℕ) → next ≡ Some t → is_asked next now ≡ false → now < t
not_asked next now t f g = grind (arith, nat_tests, some_is, leb-false)

-- one that is not asked knows when it decides next
pub unasked_knows : (site : Site) (log : List Entry) (now : ℕ) (l : Link) → is_asked l.next now ≡ false → Waits site log now l → KnowsNext site log now l
unasked_knows site log now l e w = grind (arith, nat_tests)

-- ## what goes on waiting

-- a link that knows when it decides next waits
pub all_wait : (site : Site) (log : List Entry) (now : ℕ) (ls : List Link) → All (KnowsNext site log now) ls → All (λ (l : Link). 0 ≤ l.number → Waits site log now l) ls
all_wait site log now ls h = All-weaker (KnowsNext site log now) (λ (l : Link). 0 ≤ l.number → Waits site log now l) (λ l k a. inr k) ls h

-- where the log of its port stays as it is, a link waits as before
pub waits_on : (site : Site) (log log' : List Entry) (now : ℕ) (l : Link) → port_logs log' l.number ≡ port_logs log l.number → Waits site log now l → Waits site log' now l
waits_on site log log' now l e w = grind (arith, nat_tests)

no_content : (made : Content) (k time : ℕ) → (queued_on (content_told made) ≡ Some k → ⊥) → content_at k time made ≡ None
no_content made k time n = grind (arith, nat_tests)

-- where an input is taken, the link on which it queues a packet is asked, and each other one waits as before
asked_waits : (site : Site) (log : List Entry) (now : ℕ) (input : Input) (made : Content) (queued : Option ℕ) (l : Link) → queued ≡ queued_on (content_told made) → Waits site log now l
    → Waits site (log ++ Took input made ∷ []) now (asked_by queued now l)
asked_waits site log now input made queued l e w = grind (arith, nat_tests, waits_on, some_is, filter_map-append, no_content, append-nil)

pub asked_all : (site : Site) (log : List Entry) (now : ℕ) (input : Input) (made : Content) (queued : Option ℕ) (ls : List Link) → queued ≡ queued_on (content_told made) → All (λ (l : Link). 0 ≤ l.number → Waits site log now l) ls
    → All (λ (l : Link). 0 ≤ l.number → Waits site (log ++ Took input made ∷ []) now l) (map (asked_by queued now) ls)
asked_all site log now input made queued ls e h =
    let P : Link → Type 0 = λ l. 0 ≤ l.number → Waits site (log ++ Took input made ∷ []) now l in
    All-map P (asked_by queued now) ls (All-weaker (λ (l : Link). 0 ≤ l.number → Waits site log now l) (λ (l : Link). P (asked_by queued now l)) (λ l w a. asked_waits site log now input made queued l e (w a)) ls h)

-- links stay links where one of them is asked
pub asked_pairs : (queued : Option ℕ) (now : ℕ) (ls : List Link) → map link_pair (map (asked_by queued now) ls) ≡ map link_pair ls
asked_pairs queued now [] = refl
asked_pairs queued now (l ∷ ls) = ap (λ (xs : List (ℕ × LinkPlan)). link_pair l ∷ xs) (asked_pairs queued now ls)
