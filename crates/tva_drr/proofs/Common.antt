-- What several proofs of this crate name, by where it stands.
pub use Rattle.std.proofs.Common.{◌≡◌, ℕ, zero, suc, ◌+◌, ◌-◌, ◌*◌, ◌<◌, ◌≤◌, true, false, cond, eqb, leb, ◌&&◌, Option, Some, None, List, [], ◌∷◌, ◌++◌, refl, sym, ap, ◌∙◌, subst, arith, inl, inr, Bool, length, mul_assoc, ◌||◌, take, set, get_or, map, slice_get, ◌^◌, length-append, not, is_none, ltb, ◌==◌, ◌≢◌, drop, IsNone, IfSome}
pub use Rattle.std.proofs.Math.Nat.{mul-le-mul_right, mul_comm, add-mul, mul-add}
pub use Rattle.std.proofs.lemmas.Bool.{cases_eq, cases_lt}
pub use Rattle.std.proofs.lemmas.Bool.Decides.{nat_tests, leb_tells, eqb_tells}
pub use Rattle.std.proofs.lemmas.List.{length-map, map_push, set-get_or, get_or-map, map-set, length-set, take-append-le}
pub use Rattle.std.proofs.lemmas.List.Elements.{All-from_recursion, recursion_from_All, All-head, All-tail, All-cons, All-push, All-set, All-pop}
pub use Rattle.std.proofs.lemmas.List.Sums.{sum_by-cons, sum_by_push}
pub use Rattle.std.specs.Bool.{MatchBool}
pub use Rattle.std.specs.Int.{div_ceil}
pub use Rattle.std.specs.List.{AllByRecursion, All}
pub use Rattle.std.specs.Option.{option_map, option_map_or, option_copied}
pub use Rattle.tva_base.specs.Plan.{AreDrrLimits}
pub use Rattle.tva_base.specs.declared.limits.DrrLimits.{DrrLimits}
pub use Rattle.tva_drr.specs.Ahead.{bytes_ahead, IsLeft, turns_of}
pub use Rattle.tva_drr.specs.Fair.{AreFair, IsFair, AreBehind, AreQueues, AreMeasured, IsQueue, Covers, HasTurn}
pub use Rattle.tva_drr.specs.Groups.{Group, group, hier, inner_limits, has_group, queues_of, all_group_bytes, group_bytes, next, Hier, items_under, fair_of}
pub use Rattle.tva_drr.specs.GroupsAhead.{turns_of_groups, bytes_ahead_under, next_bytes, IsLeftUnder, most_until_under, are_front, bytes_until}
pub use Rattle.tva_drr.specs.GroupsOffer.{lacks_group, lacks_place, lacks_space, changed, put_under, left_by_offer, answer_to_offer}
pub use Rattle.tva_drr.specs.GroupsOrder.{GoesLastUnder, GoesFirstUnder, AreFront}
pub use Rattle.tva_drr.specs.GroupsPlaces.{IsGroupPlace, groups_in, added}
pub use Rattle.tva_drr.specs.GroupsTake.{group_refilled, group_settled, groups_taken, left_by_take, front_popped}
pub use Rattle.tva_drr.specs.Hier.{AreGroupsBehind, AreHier, IsHier, HasGroupTurn, AreInner, AreGroups}
pub use Rattle.tva_drr.specs.Offer.{lacks_queue, lacks_room, offer_leaves, put, offer_answer}
pub use Rattle.tva_drr.specs.Order.{GoesLast, GoesFirst, IsFront}
pub use Rattle.tva_drr.specs.Places.{IsPlace}
pub use Rattle.tva_drr.specs.Queues.{Queue, Fair, fair, has_key, items_of, all_bytes, queue, first, head, queue_bytes, bytes_in}
pub use Rattle.tva_drr.specs.Rows.{RowOf, row, queues_in}
pub use Rattle.tva_drr.specs.Service.{is_front, first_bytes, head_bytes, most_until, Step, Offer, Take, AreOffers, bytes_from, AlwaysWaits}
pub use Rattle.tva_drr.specs.Sources.{TurnsOver, turns_over, served, turn_keys, turns_refilled, turn_settled, turns_settled, turns_popped, front_next}
pub use Rattle.tva_drr.specs.Take.{taken, refilled, settled, popped, front_settled, take_leaves}
pub use Rattle.tva_drr.specs.Turns.{Turn, turn, deficit_of, place_of, quanta_before, ahead, other_deficits}
pub use Rattle.tva_drr.specs.declared.offered.Offered.TheVariants.{Queued, QueueFull, NoQueue}
pub use Rattle.tva_drr.specs.declared.served.Served.{Served}
pub use Rattle.tva_index.specs.KeyRing.{place_in, Ring}
