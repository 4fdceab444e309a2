-- Product: when there is work at a node again.
use Rattle.std.specs.Prelude.{◌≡◌, ℕ, ◌<◌, ◌≤◌, ◌⊎◌, nat_le, nat_lt, ◌&&◌, if◌then◌else◌}
use Rattle.std.specs.Prelude.{List, Option, Some, None, Contains, map}
use Rattle.std.specs.Option.{option_and_then}
use Rattle.tva_base.specs.declared.limits.LinkLimits.{LinkLimits}
use Rattle.tva_port.specs.Log as port
use Rattle.tva_port.specs.declared.decision.Decision as decided
use Rattle.tva_port.specs.declared.decision.Decision.TheVariants.{Start, WaitUntil, Idle}
use Rattle.tva_port.specs.Decide.{decision}
use Rattle.tva_run.specs.declared.kinds.Input.{Input}
use Rattle.tva_run.specs.Sites.{Site, limits_out}
use Rattle.tva_run.specs.Entries.{Entry, input_time}
use Rattle.tva_run.specs.Parts.{port_logs}

-- when a link decides again that is free from a time on: at once, as its wait ends, or never
abbrev pub next_by : ℕ → decided.Decision → Option ℕ
next_by from (Start class packet) = Some from
next_by from (WaitUntil time) = Some time.0
next_by from Idle = None

-- from a time on, when a link with these limits decides by itself after that log of its port: as it becomes free, which
-- it does only behind a start, or by what it decides when it is free
unfoldable pub next_decision : LinkLimits → List port.Entry → ℕ → Option ℕ
next_decision limits log from =
    if nat_lt 0 (port.free_after limits log) && nat_le from (port.free_after limits log)
    then Some (port.free_after limits log)
    else next_by from (decision limits log from)

-- the same of the link of that number
abbrev pub next_on : Site → List Entry → ℕ → ℕ → Option ℕ
next_on site log from link = option_and_then (λ o. next_decision o.1 (port_logs log link) from) (limits_out site link)

-- at that time, no earlier than `from`, an input comes, or a link decides by itself
abbrev pub IsWorkAt : Site → List Input → List Entry → ℕ → ℕ → Type 0
IsWorkAt site inputs log from time =
    (from ≤ time) × (Contains (map input_time inputs) time ⊎ ((link : ℕ) × (next_on site log from link ≡ Some time)))

-- nothing is to be done from the one time on up to the other
abbrev pub IsQuiet : Site → List Input → List Entry → ℕ → ℕ → Type 0
IsQuiet site inputs log from until = (time : ℕ) → time < until → IsWorkAt site inputs log from time → ⊥
