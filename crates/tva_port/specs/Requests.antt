-- Product: the rate limit of requests on a link: what each start of a request costs, and what the starts so far
-- leave to pay. Times, costs, debts and credits are in nanoseconds.
use Rattle.std.specs.Prelude.{ℕ, ◌-◌, ◌*◌, max, List, [], ◌∷◌, sum_by}
use Rattle.tva_base.specs.declared.limits.LinkLimits.{LinkLimits}

-- a request of so many bytes started
pub record Start : Type 0 where
  pub time : ℕ
  pub length : ℕ

abbrev pub start : ℕ → ℕ → Start
start time length = record { time = time; length = length }

-- the cost of a request of so many bytes: requests have one part in `share` of the link
abbrev pub cost : LinkLimits → ℕ → ℕ
cost l length = length * l.share * l.ns_per_byte

abbrev pub costs : LinkLimits → List Start → ℕ
costs l starts = sum_by (λ s. cost l s.length) starts

-- the debt after these starts, oldest first: the greatest of 0 and, for each start, of the costs
-- from it on less the time since it
abbrev pub debt : LinkLimits → List Start → ℕ → ℕ
debt l [] now = 0
debt l (s ∷ ss) now = max (costs l (s ∷ ss) - (now - s.time)) (debt l ss now)

-- the most credit that there can be
abbrev pub cap : LinkLimits → ℕ
cap l = l.burst * l.share * l.ns_per_byte

-- the credit is the cap less the debt
abbrev pub credit : LinkLimits → List Start → ℕ → ℕ
credit l starts now = cap l - debt l starts now
