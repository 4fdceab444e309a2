-- What a router stands for after an arrival.
use Rattle.tva_router.proofs.Common.{◌≡◌, ℕ, ◌≤◌, Bool, true, false, cond, leb, List, [], ◌∷◌, ◌++◌, Option, None, refl, sym, ap, ◌∙◌, subst, arith, append-nil, All, All-nil, All-cons, All-weaker, LinkLimits, Fate, Outcome, RouterPlan, PacketData, packet_length, MinterState, Charge, AreTimely, Guard, Judged, Ways, judge, nonce_in, PortLogs, Handled, arrival, goes_on, handle, stopped, fate_of, forwarded, sent, queued, way_to, charged_by, RouterData, router_data, IsByPlan, StandsFor, StandForLogs, ◌with◌, ArePorts, IsSound, Keeps, rules, nat_tests, common_steps}
use Rattle.tva_base.specs.declared.packet.Grant.{Grant}
use Rattle.tva_flow.specs.Stands as flows
use Rattle.tva_port.specs.Stands as port
use Rattle.tva_router.proofs.Answers.{guard-later}
use Rattle.tva_router.proofs.Ports.{ports-later, stands-nothing}

pub sound-later : (built plan : RouterPlan) (last now : ℕ) (g : Guard) (w : Ways) (ps : List port.PortData) → last ≤ now → IsSound built plan last g w ps → IsSound built plan now g w ps
sound-later built plan last now g w ps le s = grind (arith, guard-later, ports-later)

all-early : (os : List (ℕ × LinkLimits)) (last : ℕ) (ps : List port.PortData) → ArePorts os last ps → All (λ (p : port.PortData). p.last ≤ last) ps
all-early [] last [] a = All-nil (λ (p : port.PortData). p.last ≤ last)
all-early (o ∷ os) last (p ∷ ps) a = All-cons (λ (q : port.PortData). q.last ≤ last) p ps a.1 (all-early os last ps a.2)
all-early _ last _ a = absurd a

-- a sound router is one of its plan
pub by-plan : (built plan : RouterPlan) (last : ℕ) (g : Guard) (w : Ways) (ps : List port.PortData) → IsSound built plan last g w ps → IsByPlan (router_data built plan last g.minter g.cache ps)
by-plan built plan last g w ps s = grind (arith, all-early)

pub by-plan-later : (built plan : RouterPlan) (last now : ℕ) (m : MinterState) (c : flows.Cache) (ps : List port.PortData) → last ≤ now → IsByPlan (router_data built plan last m c ps) → IsByPlan (router_data built plan now m c ps)
by-plan-later built plan last now m c ps le b = grind arith

pub handle-stopped : (plan : RouterPlan) (h : List Charge) (logs : PortLogs) (now : ℕ) (from : Option ℕ) (p : PacketData) → leb 32 p.hops ≡ true → handle plan h logs now from p ≡ stopped p
unfolding handle
handle-stopped plan h logs now from p full = rw full refl

pub handle-forwarded : (plan : RouterPlan) (h : List Charge) (logs : PortLogs) (now : ℕ) (from : Option ℕ) (p : PacketData) → leb 32 p.hops ≡ false
    → handle plan h logs now from p ≡ forwarded plan logs now p (judge plan h (arrival now from p) p.carried)
unfolding handle
handle-forwarded plan h logs now from p free = rw free refl

-- nothing became of it
pub stands-stopped : (built plan : RouterPlan) (last now : ℕ) (m : MinterState) (c : flows.Cache) (ps : List port.PortData) (h : List Charge) (logs : PortLogs) (from : Option ℕ) (p : PacketData) → leb 32 p.hops ≡ true → last ≤ now
    → StandsFor (router_data built plan last m c ps) h logs
    → StandsFor (router_data built plan now m c ps) (h ++ (handle plan h logs now from p).charges) (logs with (handle plan h logs now from p).queued)
stands-stopped built plan last now m c ps h logs from p many le s = grind (arith, handle-stopped, by-plan-later, append-nil, stands-nothing)

-- the fate of an arrival that was judged, and whose packet then went there
pub fate-forwarded : (plan : RouterPlan) (h : List Charge) (logs : PortLogs) (now : ℕ) (from : Option ℕ) (p : PacketData) (j : Judged) (o : Outcome) → leb 32 p.hops ≡ false
    → j ≡ judge plan h (arrival now from p) p.carried → o ≡ sent logs j.class (goes_on p j.carried) (way_to plan p.flow.dst)
    → fate_of j o ≡ (handle plan h logs now from p).fate
fate-forwarded plan h logs now from p j o few judged went = grind (arith, handle-forwarded)

-- and how its packet goes on
pub onward-forwarded : (plan : RouterPlan) (h : List Charge) (logs : PortLogs) (now : ℕ) (from : Option ℕ) (p : PacketData) (j : Judged) → leb 32 p.hops ≡ false
    → j ≡ judge plan h (arrival now from p) p.carried → goes_on p j.carried ≡ (handle plan h logs now from p).onward
onward-forwarded plan h logs now from p j few judged = grind (arith, handle-forwarded)

pub stands-forwarded : (built plan : RouterPlan) (last now : ℕ) (m n : MinterState) (c d : flows.Cache) (ps qs : List port.PortData) (h : List Charge) (logs : PortLogs) (from : Option ℕ) (p : PacketData) (j : Judged) → leb 32 p.hops ≡ false
    → j ≡ judge plan h (arrival now from p) p.carried → StandsFor (router_data built plan last m c ps) h logs
    → Keeps plan (arrival now from p) j.charge (nonce_in p.carried) c d
    → StandForLogs plan.outgoing qs (logs with queued logs now j.class (goes_on p j.carried) (way_to plan p.flow.dst))
    → IsByPlan (router_data built plan now n d qs)
    → StandsFor (router_data built plan now n d qs) (h ++ (handle plan h logs now from p).charges) (logs with (handle plan h logs now from p).queued)
stands-forwarded built plan last now m n c d ps qs h logs from p j few judged s keeps links by = grind (arith, handle-forwarded)

uncharged_if : (b : Bool) (plan : RouterPlan) (logs : PortLogs) (now : ℕ) (p : PacketData) (j : Judged) → (cond b (stopped p) (forwarded plan logs now p j)).fate.charge ≡ None → (cond b (stopped p) (forwarded plan logs now p j)).charges ≡ []
uncharged_if true plan logs now p j e = refl
uncharged_if false plan logs now p j e = ap (λ (z : Option Grant). charged_by z now (nonce_in p.carried) (packet_length p)) e

uncharged : (plan : RouterPlan) (h : List Charge) (logs : PortLogs) (now : ℕ) (from : Option ℕ) (p : PacketData) → (handle plan h logs now from p).fate.charge ≡ None → (handle plan h logs now from p).charges ≡ []
unfolding handle
uncharged plan h logs now from p e = uncharged_if (leb 32 p.hops) plan logs now p (judge plan h (arrival now from p) p.carried) e

-- an arrival without a charge leaves the charges as they were
pub stands-uncharged : (v : RouterData) (plan : RouterPlan) (h : List Charge) (logs after : PortLogs) (now : ℕ) (from : Option ℕ) (p : PacketData) (fate : Fate) → fate ≡ (handle plan h logs now from p).fate
    → StandsFor v (h ++ (handle plan h logs now from p).charges) after → fate.charge ≡ None → StandsFor v h after
stands-uncharged v plan h logs after now from p fate told s none = grind (arith, uncharged, append-nil)
