use Rattle.tva_config_entries.proofs.Common.{table_view, top_of, seen_top}
use Rattle.tva_config_entries.proofs.Answered.{answered_there, fault_told}
use Rattle.tva_config_entries.proofs.top.top.Goals as goal

pub returns-in_err-only_listed : goal.returns-in_err-only_listed
unfolding top_of
returns-in_err-only_listed c =
    fault_told seen_top (top_of (table_view c.args.table.now)) c.from_residual.result c.in_err-only_listed.field-0.0 c.from_residual.ensures.1 (rw (← c.in_err-only_listed.ensures))

pub returns-in_err-horizon : goal.returns-in_err-horizon
unfolding top_of
returns-in_err-horizon c =
    fault_told seen_top (top_of (table_view c.args.table.now)) c.from_residual-in_err-horizon.result c.in_err-horizon.field-0.0 c.from_residual-in_err-horizon.ensures.1 (rw (← c.in_ok-only_listed.ensures, ← c.in_err-horizon.ensures))

pub returns-in_err-max_events : goal.returns-in_err-max_events
unfolding top_of
returns-in_err-max_events c =
    fault_told seen_top (top_of (table_view c.args.table.now)) c.from_residual-in_err-max_events.result c.in_err-max_events.field-0.0 c.from_residual-in_err-max_events.ensures.1 (rw (← c.in_ok-only_listed.ensures, ← c.in_ok-horizon.ensures, ← c.in_err-max_events.ensures))

pub returns-in_err-version : goal.returns-in_err-version
unfolding top_of
returns-in_err-version c =
    fault_told seen_top (top_of (table_view c.args.table.now)) c.from_residual-in_err-version.result c.in_err-version.field-0.0 c.from_residual-in_err-version.ensures.1 (rw (← c.in_ok-only_listed.ensures, ← c.in_ok-horizon.ensures, ← c.in_ok-max_events.ensures, ← c.in_err-version.ensures))

pub returns : goal.returns
unfolding top_of
returns c =
    answered_there seen_top (top_of (table_view c.args.table.now)) _ c.tables.result (rw (← c.in_ok-only_listed.ensures, ← c.in_ok-horizon.ensures, ← c.in_ok-max_events.ensures, ← c.in_ok-version.ensures))
    c.tables.ensures
