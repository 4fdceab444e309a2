-- What is known of the log of an outgoing link, where a router stands for it.
use Rattle.tva_router.proofs.Common.{◌≡◌, ℕ, ◌≤◌, max, Bool, true, false, cond, eqb, leb, List, [], ◌∷◌, ◌++◌, Option, Some, None, refl, sym, ap, ◌∙◌, subst, arith, append-nil, All, find, nat_tests, All-head, All-tail, AreLinkLimits, LinkLimits, Class, RouterPlan, PacketData, Charge, Decision, Entry, NoneLater, free_after, queued_by, started_by, MissesNone, NoneDueBefore, IsLegal, PortData, later-weaker, misses_offered, judge, key_of, PortLogs, outgoing_link, offered, queued, goes_on, arrival, way_to, stopped, forwarded, handle, RouterData, StandForLogs, StandsFor, free_in, free_of, started_on, ◌with◌, rules, common_steps}
use Rattle.tva_port.specs.Stands as port

-- the port of a link: it has the link's limits, and stands for the link's log
record IsPort (last : ℕ) (limits : LinkLimits) (log : List Entry) (end : ℕ) (p : PortData) : Type 0 where
  limits_are : p.limits ≡ limits
  stands : port.StandsFor p log
  early : p.last ≤ last
  end_is : end ≡ p.free_at

port_for : (os : List (ℕ × LinkLimits)) (last : ℕ) (ps : List PortData) (logs : PortLogs) (link : ℕ) (limits : LinkLimits) → StandForLogs os ps logs → All (λ (p : PortData). p.last ≤ last) ps
    → find (λ o. eqb o.0 link) os ≡ Some (link, limits) → (p : PortData) × IsPort last limits (logs link) (free_in os ps link) p
port_for [] last ps logs link limits s e f = absurd (cc)
port_for (o ∷ os) last [] logs link limits s e f = absurd s
port_for (o ∷ os) last (p ∷ ps) logs link limits s e f =
    (elim (eqb o.0 link) as (λ b. cond b (Some o) (find (λ z. eqb z.0 link) os) ≡ Some (link, limits) → (q : PortData) × IsPort last limits (logs link) (cond b p.free_at (free_in os ps link)) q) [
      | true ↦ λ g.
          let same : o ≡ (link, limits) = cc in (
            p,
            record {
              limits_are = s.0 ∙ ap (λ (z : ℕ × LinkLimits). z.1) same;
              stands = subst (λ (z : ℕ × LinkLimits). port.StandsFor p (logs z.0)) same s.1;
              early = All-head (λ (q : PortData). q.last ≤ last) p ps e;
              end_is = refl;
            },
          )
      | false ↦ λ g. port_for os last ps logs link limits s.2 (All-tail (λ (q : PortData). q.last ≤ last) p ps e) g
    ]) f

limits_valid : (os : List (ℕ × LinkLimits)) (link : ℕ) (limits : LinkLimits) → All (λ (o : ℕ × LinkLimits). AreLinkLimits o.1) os → find (λ o. eqb o.0 link) os ≡ Some (link, limits) → AreLinkLimits limits
limits_valid [] link limits a f = absurd (cc)
limits_valid (o ∷ os) link limits a f =
    (elim (eqb o.0 link) as (λ b. cond b (Some o) (find (λ z. eqb z.0 link) os) ≡ Some (link, limits) → AreLinkLimits limits) [
      | true ↦ λ g. let same : o ≡ (link, limits) = cc in subst (λ (z : ℕ × LinkLimits). AreLinkLimits z.1) same (All-head (λ (z : ℕ × LinkLimits). AreLinkLimits z.1) o os a)
      | false ↦ λ g. limits_valid os link limits (All-tail (λ (z : ℕ × LinkLimits). AreLinkLimits z.1) o os a) g
    ]) f

-- the limits of a link are valid, and its log is legal, with no entry later than that
pub record IsKnown (limits : LinkLimits) (log : List Entry) (now : ℕ) : Type 0 where
  pub valid : AreLinkLimits limits
  pub legal : IsLegal limits log
  pub later : NoneLater now log

pub known : (v : RouterData) (h : List Charge) (logs : PortLogs) (link : ℕ) (limits : LinkLimits) (now : ℕ) → StandsFor v h logs → outgoing_link v.plan link ≡ Some (link, limits) → v.last ≤ now → IsKnown limits (logs link) now
known v h logs link limits now s f le =
    let q = port_for v.plan.outgoing v.last v.ports logs link limits s.links s.plan.ports f in
    record {
      valid = limits_valid v.plan.outgoing link limits s.plan.valid.limits f;
      legal = subst (λ (l : LinkLimits). IsLegal l (logs link)) q.1.limits_are q.1.stands.legal;
      later = later-weaker q.0.last now (logs link) (omega (arith, q.1.early, le)) q.1.stands.past;
    }

-- a link is free at the end of its last start
pub free_is : (v : RouterData) (h : List Charge) (logs : PortLogs) (link : ℕ) (limits : LinkLimits) → StandsFor v h logs → outgoing_link v.plan link ≡ Some (link, limits) → free_of v link ≡ free_after limits (logs link)
free_is v h logs link limits s f =
    let q = port_for v.plan.outgoing v.last v.ports logs link limits s.links s.plan.ports f in
    q.1.end_is ∙ q.1.stands.free ∙ ap (λ (l : LinkLimits). free_after l (logs link)) q.1.limits_are

same : (k : ℕ) → eqb k k ≡ true
same k = grind (arith, nat_tests)

-- what a decision adds to the log of its own link
pub started_here : (link : ℕ) (d : Decision) (now : ℕ) → started_on link d now link ≡ started_by d now
started_here link d now = ap (λ (b : Bool). cond b (started_by d now) []) (same link)

-- after a decision its link is free at the end of the last start
pub free_then : (v : RouterData) (h : List Charge) (logs : PortLogs) (link : ℕ) (limits : LinkLimits) (d : Decision) (now : ℕ) → StandsFor v h (logs with started_on link d now) → outgoing_link v.plan link ≡ Some (link, limits)
    → free_of v link ≡ free_after limits (logs link ++ started_by d now)
free_then v h logs link limits d now s f =
    free_is v h (logs with started_on link d now) link limits s f ∙ ap (λ (z : List Entry). free_after limits (logs link ++ z)) (started_here link d now)

pub due_then : (v : RouterData) (h : List Charge) (logs : PortLogs) (link : ℕ) (limits : LinkLimits) (d : Decision) (now until : ℕ) → StandsFor v h (logs with started_on link d now) → outgoing_link v.plan link ≡ Some (link, limits)
    → NoneDueBefore d (free_of v link) until → NoneDueBefore d (free_after limits (logs link ++ started_by d now)) until
due_then v h logs link limits d now until s f i = subst (λ (n : ℕ). NoneDueBefore d n until) (free_then v h logs link limits d now s f) i

-- ## an arrival

missed_added : (limits : LinkLimits) (logs : PortLogs) (link until now : ℕ) (class : Class) (p : PacketData) (way : Option (ℕ × LinkLimits)) → NoneLater now (logs link) → until ≤ max now (free_after limits (logs link)) → MissesNone limits until (logs link)
    → MissesNone limits until (logs link ++ queued logs now class p way link)
missed_added limits logs link until now class p None n i m = subst (λ (z : List Entry). MissesNone limits until z) (sym (append-nil (logs link))) m
missed_added limits logs link until now class p (Some (k, l)) n i m =
    elim (eqb link k) as (λ b. MissesNone limits until (logs link ++ cond b (queued_by (offered l (logs k) class p) now class (key_of class p) p) [])) [
      | true ↦ misses_offered limits (logs link) now until (offered l (logs k) class p) class (key_of class p) p n i m
      | false ↦ subst (λ (z : List Entry). MissesNone limits until z) (sym (append-nil (logs link))) m
    ]

-- on no link a start is missed by an arrival
pub missed_handled : (plan : RouterPlan) (h : List Charge) (logs : PortLogs) (now : ℕ) (from : Option ℕ) (p : PacketData) (link until : ℕ) (limits : LinkLimits) → NoneLater now (logs link) → until ≤ max now (free_after limits (logs link)) → MissesNone limits until (logs link)
    → MissesNone limits until ((logs with (handle plan h logs now from p).queued) link)
unfolding handle
missed_handled plan h logs now from p link until limits n i m =
    elim (leb 32 p.hops) as (λ b. MissesNone limits until ((logs with (cond b (stopped p) (forwarded plan logs now p (judge plan h (arrival now from p) p.carried))).queued) link)) [
      | true ↦ subst (λ (z : List Entry). MissesNone limits until z) (sym (append-nil (logs link))) m
      | false ↦ missed_added limits logs link until now (judge plan h (arrival now from p) p.carried).class (goes_on p (judge plan h (arrival now from p) p.carried).carried) (way_to plan p.flow.dst) n i m
    ]
