-- In a run all that reaches a node is within the sizes of a network, so each node's log keeps its promises.
use Rattle.tva_laws.proofs.Common.{◌≡◌, ℕ, List, Bool, Some, arith, recursion_from_All, Config, is_host, IsConfig, Row, RowWhat, Send, Inject, File, Tick, IsRowWhat, IsRow, AreTraceRows, each-weaker, Site, Logs, log_at, site_at, IsRunTo, site_is, inputs_hold, IsSizedWhat, IsSizedInput, KeepsPromises}
use Rattle.tva_laws.proofs.Along.{IsSizedPlace, place_sized}
use Rattle.tva_laws.proofs.Kept.{keeps}

-- ## rows

what_sized : (at_host : Bool) (what : RowWhat) → IsRowWhat at_host what → IsSizedWhat what
what_sized at_host (Send dst payload) w = w.1
what_sized at_host (Inject flow payload c) w = w
what_sized at_host (File dst size segment) w = (w.1.most, w.1.few)
what_sized at_host (Tick dst) w = tt

-- ## runs

pub run_keeps : (config : Config) (rows : List Row) (until : ℕ) (logs : Logs) → IsConfig config → AreTraceRows config rows → IsRunTo config rows until logs
    → (node : ℕ) (site : Site) → site_at config node ≡ Some site → KeepsPromises site until (log_at logs node)
run_keeps config rows until logs valid trace run node site there =
    let own = run.each node site there in
    keeps site own.inputs until (log_at logs node) (site_is config node site valid there).1 (omega (arith, run.within, valid.horizon))
    (inputs_hold config rows until logs valid run IsSizedInput IsSizedPlace
    (each-weaker (IsRow config) (λ (row : Row). IsSizedWhat row.what) (λ row r. what_sized (is_host config.nodes row.node) row.what r.what) rows
    (recursion_from_All (IsRow config) rows trace.each)) (λ number link here time on at class packet k. k)
    (λ n s is before e rest split k m. place_sized s (site_is config n s valid is).1 before e k m) node site there)
    own.is_log
