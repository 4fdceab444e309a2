use Rattle.tva_config_entries.proofs.Common.{table_view, limits_of}
use Rattle.tva_config_entries.proofs.Answered.{fault_kept}
use Rattle.tva_config_entries.proofs.tables.limits.Goals as goal

pub returns-in_err-levels : goal.returns-in_err-levels
unfolding limits_of
returns-in_err-levels c =
    fault_kept (limits_of c.args.place c.args.ns_per_byte (table_view c.args.table.now)) c.from_residual-in_err-levels.result c.in_err-levels.field-0.0 c.from_residual-in_err-levels.ensures.1 (rw (← c.in_ok-share.ensures, ← c.in_ok-burst.ensures, ← c.in_ok-quantum.ensures, ← c.in_ok-queues.ensures, ← c.in_ok-rings.ensures, ← c.in_ok-queue_bytes.ensures, ← c.in_ok-class_bytes.ensures, ← c.in_ok-legacy_ring.ensures, ← c.in_ok-legacy_bytes.ensures, ← c.in_err-levels.ensures))

pub returns-in_err-inner : goal.returns-in_err-inner
unfolding limits_of
returns-in_err-inner c =
    fault_kept (limits_of c.args.place c.args.ns_per_byte (table_view c.args.table.now)) c.from_residual-in_err-inner.result c.in_err-inner.field-0.0 c.from_residual-in_err-inner.ensures.1 (rw (← c.in_ok-share.ensures, ← c.in_ok-burst.ensures, ← c.in_ok-quantum.ensures, ← c.in_ok-queues.ensures, ← c.in_ok-rings.ensures, ← c.in_ok-queue_bytes.ensures, ← c.in_ok-class_bytes.ensures, ← c.in_ok-legacy_ring.ensures, ← c.in_ok-legacy_bytes.ensures, ← c.in_ok-levels.ensures, ← c.in_err-inner.ensures))

pub returns : goal.returns
unfolding limits_of
returns c = rw (c.class_limits.ensures, c.class_limits-2.ensures, c.behind_a_tag.ensures, ← c.in_ok-share.ensures, ← c.in_ok-burst.ensures, ← c.in_ok-quantum.ensures, ← c.in_ok-queues.ensures, ← c.in_ok-rings.ensures, ← c.in_ok-queue_bytes.ensures, ← c.in_ok-class_bytes.ensures, ← c.in_ok-legacy_ring.ensures, ← c.in_ok-legacy_bytes.ensures, ← c.in_ok-levels.ensures, ← c.in_ok-inner.ensures)
