-- Product: the charges of a router, and what they say of a flow: whether it lives, its run, its holder and the
-- bytes that are used.
use Rattle.std.specs.Prelude.{ℕ, ◌==◌, nat_lt, Bool, true, false, not, ◌&&◌, ◌||◌, if◌then◌else◌, List, [], ◌∷◌, ◌++◌}
use Rattle.std.specs.Prelude.{filter, sum_by, count_by, Option, Some, None}
use Rattle.tva_base.specs.declared.packet.Flow.{Flow}
use Rattle.tva_base.specs.declared.packet.Grant.{Grant}
use Rattle.tva_base.specs.Credit.{credit_of}
use Rattle.tva_base.specs.Lives.{latest_end}

-- an authorised packet: when it came, in nanoseconds, by which grant, with which nonce, and its length
pub record Charge : Type 0 where
  pub time : ℕ
  pub grant : Grant
  pub nonce : ℕ
  pub length : ℕ

abbrev pub charge : ℕ → Grant → ℕ → ℕ → Charge
charge time grant nonce length = record { time = time; grant = grant; nonce = nonce; length = length }

abbrev pub same_flow : Flow → Flow → Bool
same_flow a b = (a.src.0 == b.src.0) && (a.dst.0 == b.dst.0)

abbrev pub same_grant : Grant → Grant → Bool
same_grant a b =
    same_flow a.flow b.flow && (a.rights.n == b.rights.n) && (a.rights.t == b.rights.t) && (a.second == b.second)

-- the charges of a flow among those of a router
abbrev pub of_flow : Flow → List Charge → List Charge
of_flow f h = filter (λ c. same_flow c.grant.flow f) h

-- the end of a flow's life, from the flow's charges: over these charges, the greatest of a charge's
-- time plus the credits of the charges from it on
abbrev pub end_of : List Charge → ℕ
end_of cs = latest_end (λ c. c.time) (λ c. credit_of c.length c.grant.rights) cs

-- a flow with these charges lives until its end, and one without charges doesn't live
abbrev pub is_living : List Charge → ℕ → Bool
is_living cs now = nat_lt now (end_of cs)

abbrev pub lives : List Charge → Flow → ℕ → Bool
lives h f now = is_living (of_flow f h) now

-- some charge finds the flow not living under the charges before it, the earlier ones among them
abbrev pub restarts : List Charge → List Charge → Bool
restarts before [] = false
restarts before (c ∷ cs) = not (is_living before c.time) || restarts (before ++ c ∷ []) cs

-- the run of a flow, from the flow's charges: those from the last one on that finds the flow not
-- living under the charges before it
abbrev pub run : List Charge → List Charge → List Charge
run before [] = []
run before (c ∷ cs) = if restarts (before ++ c ∷ []) cs then run (before ++ c ∷ []) cs else c ∷ cs

abbrev pub run_of : List Charge → Flow → List Charge
run_of h f = run [] (of_flow f h)

-- the last of some charges, or that charge where there is none
abbrev pub last_or : Charge → List Charge → Charge
last_or c [] = c
last_or c (d ∷ ds) = last_or d ds

abbrev pub last_charge : List Charge → Option Charge
last_charge [] = None
last_charge (c ∷ cs) = Some (last_or c cs)

-- the last charge of a flow, whose grant and nonce hold it
abbrev pub holder : List Charge → Flow → Option Charge
holder h f = last_charge (of_flow f h)

-- the bytes of a charge where it is one of the grant
abbrev pub bytes_under : Grant → Charge → ℕ
bytes_under g c = if same_grant c.grant g then c.length else 0

-- the sum of a grant: the bytes of all its charges among these
abbrev pub bytes_of : Grant → List Charge → ℕ
bytes_of g h = sum_by (bytes_under g) h

-- the bytes of the grant in the run of its flow, while that lives
abbrev pub used : List Charge → Grant → ℕ → ℕ
used h g now = if lives h g.flow now then bytes_of g (run_of h g.flow) else 0

-- each flow with a charge, once
abbrev pub has_flow : Flow → List Charge → Bool
has_flow f [] = false
has_flow f (c ∷ cs) = if same_flow c.grant.flow f then true else has_flow f cs

abbrev pub flows : List Charge → List Flow
flows [] = []
flows (c ∷ cs) = if has_flow c.grant.flow cs then flows cs else c.grant.flow ∷ flows cs

-- how many flows live
abbrev pub living_count : List Charge → ℕ → ℕ
living_count h now = count_by (λ f. lives h f now) (flows h)
