-- What several proofs of this crate name, by where it stands.
pub use Rattle.std.proofs.Common.{◌≡◌, ℕ, zero, suc, ◌+◌, ◌<◌, ◌≤◌, List, [], ◌∷◌, ◌++◌, length, map, get_or, set, Option, Some, None, true, false, refl, sym, subst, ◌∙◌, ap, ap₂, arith, inl, inr, ◌⊎◌, ◌-◌, take, add-one, Bool, deque_len, rules, ◌*◌, drop}
pub use Rattle.std.proofs.Math.Seq.{map-set_same, take-suc, take-length, drop-append-add}
pub use Rattle.std.proofs.lemmas.Bool.{cases_lt, ne_eqb, cases_Bool, cases_eq, cond-true, cond-false, eq-eqb}
pub use Rattle.std.proofs.lemmas.Bool.Decides.{nat_tests}
pub use Rattle.std.proofs.lemmas.List.{get_or_default, length-take, get_or-set_other, get_or-set_same, length-map, get_or-map, length-append, length-set, map-append, map-set, set-get_or, append-nil, take_all, length-drop}
pub use Rattle.std.specs.List.{AllByRecursion, list_any}
pub use Rattle.std.specs.Prelude.{insert, ◌==◌, ◌||◌, ◌^◌, not, nat_lt, ◌&&◌}
pub use Rattle.std.specs.Vec.{with_item}
pub use Rattle.tva_index.specs.KeyRing.{place_in, ring}
pub use Rattle.tva_index.specs.Lowest.{IsLeastPlace}
pub use Rattle.tva_run.proofs.Joins.{each-append, each-weaker, filter-true, filter-false, filter-all, filter-none, join_unique}
pub use Rattle.tva_run.proofs.Putting.{each-put_in, before_yes, each-put_all, each_from_sources, in_order-put_all, in_order-put_in, source-put_all, strictly_trans}
pub use Rattle.tva_run.specs.Entries.{input_source, input_time}
pub use Rattle.tva_run.specs.Joins.{MayPrecede, IsInOrder, precedes, put_in, sorted, from_source, NeverFalls}
pub use Rattle.tva_run.specs.declared.kinds.Input.{Input}
pub use Rattle.tva_run.specs.declared.kinds.Input.TheVariants.{Arrival, FromTrace}
pub use Rattle.tva_waiting.specs.Inputs.{arrived, first_time, is_row_first}
pub use Rattle.tva_waiting.specs.Lanes.{AreWaiting, HaveGiven, Hold, IsLaneOf, flight_source, flight_time, lane_queue, queues_in, queues_of, row_in, rows_queue, sources_of, turn_source, turn_time, waiting_in}
pub use Rattle.tva_waiting.specs.Queues.{AreQueues, IsNextIn, IsQueue, Queue, all_in, head_at, head_of, key_of, never, no_queue}
pub use Rattle.tva_waiting.specs.declared.lanes.Lane.{Lane}
pub use Rattle.tva_waiting.specs.declared.lanes.Lanes.{Lanes}
