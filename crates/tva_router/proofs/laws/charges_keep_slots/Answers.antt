use Rattle.tva_router.proofs.Common.{◌≡◌, ℕ, List, [], ◌++◌, subst, Charge, AreTimely, AreNext, PortLogs, RouterData, StandsFor}
use Rattle.tva_flow.proofs.Places.{legal_front, timely_front}
use Rattle.tva_flow.proofs.Few.{few}
use Rattle.tva_flow.proofs.Budget.{budget}
use Rattle.tva_router.proofs.laws.charges_keep_slots.Goals as goal

legal : (v : RouterData) (h : List Charge) (logs : PortLogs) → StandsFor v h logs → AreNext v.plan.slots v.plan.clock_offset [] h
legal v h logs s = subst (λ (n : ℕ). AreNext n v.plan.clock_offset [] h) s.plan.slots (subst (λ (n : ℕ). AreNext v.cache.slots n [] h) s.plan.offset s.charges.charges)

front : (v : RouterData) (h before rest : List Charge) (logs : PortLogs) → StandsFor v h logs → h ≡ before ++ rest → AreNext v.plan.slots v.plan.clock_offset [] before
front v h before rest logs s e = legal_front v.plan.slots v.plan.clock_offset before rest (subst (λ (z : List Charge). AreNext v.plan.slots v.plan.clock_offset [] z) e (legal v h logs s))

pub returns-clause-legal : goal.returns-clause-legal
returns-clause-legal c v h logs s = legal v h logs s

pub returns-clause-living : goal.returns-clause-living
returns-clause-living c v h logs s before rest e now p = few v.plan.slots v.plan.clock_offset before now (front v h before rest logs s e) p

pub returns-clause-budget : goal.returns-clause-budget
returns-clause-budget c v h logs s before rest e =
    budget v.plan.slots v.plan.clock_offset before (front v h before rest logs s e)
    (timely_front v.plan.clock_offset before rest (subst (λ (z : List Charge). AreTimely v.plan.clock_offset z) e s.timely))
