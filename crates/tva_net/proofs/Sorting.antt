-- The order that a stable sort by time leaves.
use Rattle.tva_net.proofs.Common.{ℕ, ◌≤◌, List, [], ◌∷◌, map, refl, sym, ◌∙◌, ap, ◌==◌, Event, NeverFalls, at_time, event_time, IsByTime, each-map}
use Rattle.std.specs.Borrow.{Bor}
use Rattle.std.specs.Ordering.{nat_cmp}
use Rattle.std.specs.List.Sorted.{IsNonDecreasingBy, IsStableByKey}
use Rattle.tva_base.specs.declared.event.Happened.TheVariants as happens
use Rattle.tva_base.specs.declared.event.ShapeKind.TheVariants as shape
use Rattle.tva_base.specs.declared.packet.Outcome.TheVariants as outcome
use Rattle.tva_run.proofs.Reports.{filter-map}
use Rattle.tva_node.proofs.Sorting.{falls_from, ties_from}

-- some event at a time
abbrev event_at : ℕ → Bor Event
event_at t = record { ref_ptr = (0, 0); now = record { time = at_time t; node = 0; happened = happens.Sent (record { node = 0; ordinal = 0 }) 0 shape.Trace (outcome.Queued 0) } }

abbrev pub time_of : Bor Event → ℕ
time_of event = event_time event.now

falls_behind : (events : List (Bor Event)) → NeverFalls time_of events → NeverFalls event_time (map (λ event. event.now) events)
falls_behind [] h = tt
falls_behind (x ∷ xs) h = (each-map (λ event. event.now) (λ e. event_time x.now ≤ event_time e) xs h.0, falls_behind xs h.1)

-- of references to events
pub by_time : (told ordered : List (Bor Event)) → IsNonDecreasingBy time_of ordered → IsStableByKey time_of nat_cmp told ordered → IsByTime (map (λ event. event.now) told) (map (λ event. event.now) ordered)
by_time told ordered sorted stable = record {
  times = falls_behind ordered (falls_from time_of ordered sorted);
  ties = λ t.
      filter-map (λ event. event.now) (λ e. event_time e == t) ordered
      ∙ (ap (map (λ event. event.now)) (ties_from time_of event_at (λ t. refl) told ordered stable t) ∙ sym (filter-map (λ event. event.now) (λ e. event_time e == t) told));
}
