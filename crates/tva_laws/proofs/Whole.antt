-- A configuration and a trace have a run up to each time, its events, and a report.
use Rattle.tva_laws.proofs.Common.{ℕ, ◌+◌, ◌≤◌, List, refl, arith, Event, Config, IsConfig, Row, AreTraceRows, Logs, IsRunTo, AreEventsTo, IsReport, report_of}
use Rattle.tva_laws.proofs.There.{run_to, told, traced_placed}

module _ (config : Config) (rows : List Row) (valid : IsConfig config) where
  events_of : (until : ℕ) → (logs : Logs) × IsRunTo config rows until logs → (es : List Event) × AreEventsTo config rows until es
  events_of until (logs, run) =
      let t = told config rows until logs run in
      (t.0, record { logs = logs; run = run; events = t.1 })

  report_there : (logs : Logs) × IsRunTo config rows (config.horizon.0 + 1) logs → (text : List ℕ) × IsReport config rows text
  report_there run =
      let es = events_of (config.horizon.0 + 1) run in
      (report_of config es.0, record { told = es.0; events = es.1; whole = refl })

  pub traced_run : AreTraceRows config rows → (until : ℕ) → until ≤ config.horizon.0 + 1 → (logs : Logs) × IsRunTo config rows until logs
  traced_run trace until within = run_to config rows valid trace.order (traced_placed config rows trace.each) until within

  pub traced_report : AreTraceRows config rows → (text : List ℕ) × IsReport config rows text
  traced_report trace = report_there (traced_run trace (config.horizon.0 + 1) (omega arith))

  pub traced_events : AreTraceRows config rows → (es : List Event) × AreEventsTo config rows (config.horizon.0 + 1) es
  traced_events trace = events_of (config.horizon.0 + 1) (traced_run trace (config.horizon.0 + 1) (omega arith))
