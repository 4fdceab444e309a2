-- What is known of the rows of a trace and of the nodes of its runs.
use Rattle.tva_laws.proofs.Common.{◌≡◌, ◌≤◌, ℕ, List, length, Some, AllByRecursion, recursion_from_All, IsReturn, back_in, Config, IsConfig, Row, RowWhat, Send, Inject, File, Tick, AreTraceRows, Site, Logs, log_at, site_at, each-weaker, IsRunTo, KeepsPromises, arith, nat_tests}
use Rattle.tva_laws.proofs.Runs.{run_keeps}

-- a shim of some version can carry the return info of what a row injects
abbrev pub RowReturns : RowWhat → Type 0
RowReturns (Send dst payload) = Unit {0}
RowReturns (Inject flow payload carries) = IsReturn 2 (back_in carries)
RowReturns (File dst size segment) = Unit {0}
RowReturns (Tick dst) = Unit {0}

-- there are few rows, whose return info a shim can carry, and each node keeps its promises
pub record AreGiven (config : Config) (rows : List Row) (until : ℕ) (logs : Logs) : Type 0 where
  pub few : length rows ≤ 1000000
  pub back : AllByRecursion (λ (row : Row). RowReturns row.what) rows
  pub keeps : (node : ℕ) (site : Site) → site_at config node ≡ Some site → KeepsPromises site until (log_at logs node)

-- so it is with the rows of a trace
pub given : (config : Config) (rows : List Row) (until : ℕ) (logs : Logs) → IsConfig config → AreTraceRows config rows
    → IsRunTo config rows until logs → AreGiven config rows until logs
given config rows until logs valid trace run = grind (arith, nat_tests, each-weaker, recursion_from_All, run_keeps)
