-- Crate: sums that are kept while events are told.
use Rattle.std.specs.Prelude.{◌+◌, ◌*◌, ◌≤◌, if◌then◌else◌}
use Rattle.tva_base.specs.declared.event.Happened.{Happened}
use Rattle.tva_base.specs.declared.event.Totals.{Totals}
use Rattle.tva_run.specs.Report.{is_routed, is_charged, is_demoted, is_dropped, is_started, is_received, received_bytes}

-- no sum is more than events can make
pub record AreWithin (sums : Totals) : Type 0 where
  pub routed : sums.routed ≤ sums.events
  pub authorised : sums.authorised ≤ sums.events
  pub demoted : sums.demoted ≤ sums.events
  pub dropped : sums.dropped ≤ sums.events
  pub started : sums.started ≤ sums.events
  pub received : sums.received ≤ sums.events
  pub bytes : sums.bytes ≤ 65535 * sums.events

-- the sums with one event more
abbrev pub with_event : Totals → Happened → Totals
with_event sums happened = record {
  events = sums.events + 1;
  routed = sums.routed + (if is_routed happened then 1 else 0);
  authorised = sums.authorised + (if is_charged happened then 1 else 0);
  demoted = sums.demoted + (if is_demoted happened then 1 else 0);
  dropped = sums.dropped + (if is_dropped happened then 1 else 0);
  started = sums.started + (if is_started happened then 1 else 0);
  received = sums.received + (if is_received happened then 1 else 0);
  bytes = sums.bytes + received_bytes happened;
}
