-- After a decision each packet whose bound is over has started, and keys are served alike.
use Rattle.tva_port.proofs.Common.{◌≡◌, ℕ, ◌+◌, List, ◌++◌, arith, leb_tells, LinkLimits, AreLinkLimits, Request, Regular, Decision, Entry, NoneLater, decision, started_by, MissesNone, IsLegal, request_bound, regular_bound, AreServed, ServesAlike, nat_tests}
use Rattle.tva_port.proofs.Logs.{entries_before-all, legal-front}
use Rattle.tva_port.proofs.Resting.{cut_away, none_later}
use Rattle.tva_port.proofs.Steady.{none_again}
use Rattle.tva_port.proofs.Evenly.{even}
use Rattle.tva_port.proofs.RequestBound.{requests_served}
use Rattle.tva_port.proofs.RegularBound.{regulars_served}

-- no start is missed up to the decision, and at its time
misses_now : (l : LinkLimits) (log : List Entry) (now : ℕ) (d : Decision) → AreLinkLimits l → NoneLater now log → d ≡ decision l log now → MissesNone l now log → MissesNone l (now + 1) (log ++ started_by d now)
misses_now l log now d a n e m = grind (arith, nat_tests, leb_tells, (cut_away log d), (entries_before-all now), (none_later log d now n), (none_again l log now d a e))

pub all_served : (l : LinkLimits) (log : List Entry) (now : ℕ) (d : Decision) → AreLinkLimits l → IsLegal l (log ++ started_by d now) → NoneLater now log → d ≡ decision l log now → MissesNone l now log
    → AreServed l Request (request_bound l) now (log ++ started_by d now) × AreServed l Regular (regular_bound l) now (log ++ started_by d now)
all_served l log now d a g n e m = grind (arith, nat_tests, (misses_now l log now d a n e m), (requests_served l (log ++ started_by d now) now (now + 1) a g), (regulars_served l (log ++ started_by d now) now (now + 1) a g))

-- from any place of a log to any other
pub alike : (l : LinkLimits) (log : List Entry) → AreLinkLimits l → IsLegal l log → ServesAlike l log
alike l log a g before between rest e = grind (arith, nat_tests, legal-front, even)
