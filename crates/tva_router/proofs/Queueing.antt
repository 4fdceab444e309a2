-- A packet that is queued at the port of its link.
use Rattle.tva_router.proofs.Common.{◌≡◌, ℕ, List, [], ◌++◌, get_or, set, Option, Some, eqb, cond, refl, sym, ap, ◌∙◌, subst, find, position, AreDistinct, links_of, LinkLimits, Class, PacketData, Offered, Entry, waiting_after, queue_answer, queued_by, PortData, key_of, AreOneAnswer, answer_by, kept_by, PortLogs, offered, outcome_of, sent, queued, kept_after, StandForLogs, ◌with◌, ArePorts, arith, rules, nat_tests, common_steps}
use Rattle.tva_port.specs.Stands.{StandsFor}
use Rattle.tva_port.specs.declared.hand.Answer.{Answer}
use Rattle.tva_port.specs.declared.hand.Answer.TheVariants as answers
use Rattle.tva_router.proofs.Links.{is_at, at_within, at_link, find_there}
use Rattle.tva_router.proofs.Ports.{ports-length, port-get, stands-get, stands-set, same_link}

-- what is found is the link with its limits
pub found : (os : List (ℕ × LinkLimits)) (i link : ℕ) (d : ℕ × LinkLimits) → position (λ o. eqb o.0 link) os ≡ Some i → find (λ o. eqb o.0 link) os ≡ Some (link, (get_or os i d).1)
found os i link d h =
    find_there (λ (o : ℕ × LinkLimits). eqb o.0 link) os i d h
    ∙ ap (λ (z : ℕ). Some (z, (get_or os i d).1)) (same_link (get_or os i d).0 link (at_link os i link d (is_at os i link h)))

-- the answer of the link's port to a packet, for logs for which the ports stand
pub answered : (os : List (ℕ × LinkLimits)) (last : ℕ) (ps : List PortData) (logs : PortLogs) (i link : ℕ) (d : ℕ × LinkLimits) (p : PortData) (class : Class) (key : ℕ) (packet : PacketData) (r : Offered PacketData)
    → position (λ o. eqb o.0 link) os ≡ Some i → ArePorts os last ps → StandForLogs os ps logs → p ≡ get_or ps i p → key ≡ key_of class packet
    → ((log : List Entry) → StandsFor p log → r ≡ queue_answer p.limits (waiting_after p.limits log) class key packet)
    → r ≡ offered (get_or os i d).1 (logs link) class packet
answered os last ps logs i link d p class key packet r h a s here k answer =
    let at = is_at os i link h in
    answer (logs link) (stands-get os ps logs i link p s at (ports-length os last ps a) here)
    ∙ ap (λ (z : LinkLimits). queue_answer z (waiting_after z (logs link)) class key packet) (port-get os last ps i p d a (at_within os i link at) here).0
    ∙ ap (λ (z : ℕ). queue_answer (get_or os i d).1 (waiting_after (get_or os i d).1 (logs link)) class z packet) k

pub sent-at : (logs : PortLogs) (class : Class) (packet : PacketData) (link : ℕ) (limits : LinkLimits) (way : Option (ℕ × LinkLimits)) (r : Offered PacketData)
    → way ≡ Some (link, limits) → r ≡ offered limits (logs link) class packet → outcome_of link r ≡ sent logs class packet way
sent-at logs class packet link limits way r f e = ap (outcome_of link) e ∙ sym (ap (sent logs class packet) f)

queued-at : (logs : PortLogs) (now : ℕ) (class : Class) (key : ℕ) (packet : PacketData) (link : ℕ) (limits : LinkLimits) (way : Option (ℕ × LinkLimits)) (r : Offered PacketData)
    → way ≡ Some (link, limits) → r ≡ offered limits (logs link) class packet → key ≡ key_of class packet
    → queued logs now class packet way ≡ (λ k. cond (eqb k link) (queued_by r now class key packet) [])
queued-at logs now class key packet link limits way r f e same = grind arith

-- the ports then stand for the logs with what was queued
pub stands-queued : (os : List (ℕ × LinkLimits)) (last : ℕ) (ps : List PortData) (logs : PortLogs) (i link : ℕ) (d : ℕ × LinkLimits) (p new : PortData) (now : ℕ) (class : Class) (key : ℕ) (packet : PacketData) (r : Offered PacketData)
    → AreDistinct (links_of os) → position (λ o. eqb o.0 link) os ≡ Some i → ArePorts os last ps → StandForLogs os ps logs → p ≡ get_or ps i p → key ≡ key_of class packet
    → ((log : List Entry) → StandsFor p log → r ≡ queue_answer p.limits (waiting_after p.limits log) class key packet)
    → ((log : List Entry) → StandsFor p log → StandsFor new (log ++ queued_by r now class key packet))
    → new.limits ≡ p.limits
    → StandForLogs os (set ps i new) (logs with queued logs now class packet (find (λ o. eqb o.0 link) os))
stands-queued os last ps logs i link d p new now class key packet r apart h a s here k answer stands l =
    let at = is_at os i link h in
    subst (λ (z : PortLogs). StandForLogs os (set ps i new) (logs with z))
    (sym (queued-at logs now class key packet link (get_or os i d).1 (find (λ o. eqb o.0 link) os) r (found os i link d h) (answered os last ps logs i link d p class key packet r h a s here k answer) k))
    (stands-set os ps logs i link new (queued_by r now class key packet) d apart at s
    (l ∙ (port-get os last ps i p d a (at_within os i link at) here).0)
    (stands (logs link) (stands-get os ps logs i link p s at (ports-length os last ps a) here)))

-- ## what the hand holds then

pub kept_agrees : (answer : Answer) (p : PacketData) → AreOneAnswer answer (kept_by answer p)
kept_agrees answer p = grind arith

pub kept_by_outcome : (link : ℕ) (answer : Answer) (p : PacketData) → kept_by answer p ≡ kept_after (outcome_of link (answer_by answer (kept_by answer p))) p
kept_by_outcome link answer p = grind arith
