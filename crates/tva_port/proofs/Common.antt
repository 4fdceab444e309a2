-- What several proofs of this crate name, by where it stands.
pub use Rattle.std.proofs.Common.{◌≡◌, ℕ, ◌+◌, ◌-◌, ◌≤◌, Bool, true, false, ◌&&◌, leb, cond, List, [], ◌∷◌, ◌++◌, sym, subst, inl, inr, filter, arith, ◌<◌, Option, Some, None, refl, ap, ◌∙◌, ◌≢◌, ◌*◌, zero-add, zero, suc, ltb, drop, append-nil, mul_assoc, length, length-append, append_assoc, true≢false, ◌↔◌, max, IfSome, ◌⊎◌, min}
pub use Rattle.std.proofs.Math.Nat.{mul-le-mul_right, add-mul, mul_comm, mul-le-mul}
pub use Rattle.std.proofs.lemmas.Bool.{leb-true, cases_lt}
pub use Rattle.std.proofs.lemmas.Bool.Decides.{leb_tells, nat_tests}
pub use Rattle.std.proofs.lemmas.List.{drop-append-le}
pub use Rattle.std.proofs.lemmas.List.Elements.{filter-append, filter_map-append, All-nil, All-head, All-tail, All-push, All-weaker, All-cons}
pub use Rattle.std.proofs.lemmas.List.Sums.{sum_by-cons, sum_by_push}
pub use Rattle.std.specs.List.{filter_map, AllByRecursion, count_by, All, fold}
pub use Rattle.std.specs.Prelude.{IsSome, nat_lt}
pub use Rattle.tva_base.specs.Plan.{AreLinkLimits, AreDrrLimits, AreClassLimits}
pub use Rattle.tva_base.specs.declared.limits.DrrLimits.{DrrLimits}
pub use Rattle.tva_base.specs.declared.limits.LinkLimits.{LinkLimits}
pub use Rattle.tva_base.specs.declared.packet.Class.{Class}
pub use Rattle.tva_base.specs.declared.packet.Class.TheVariants.{Request, Regular, Legacy}
pub use Rattle.tva_base.specs.declared.packet.Time.{Time}
pub use Rattle.tva_drr.proofs.Falling.{by_test, taken_falls, ahead-offer, ahead_most}
pub use Rattle.tva_drr.proofs.GroupLists.{offered_is, none_true, bytes-changed}
pub use Rattle.tva_drr.proofs.Keeping.{head_some, head_there, head-put}
pub use Rattle.tva_drr.proofs.Lists.{all_bytes-put}
pub use Rattle.tva_drr.proofs.Nexts.{hier_taken, next_some, next_there, groups_there, next-offered, taken_under, next_ahead}
pub use Rattle.tva_drr.proofs.Offering.{left_last, left_keeps, left_queued}
pub use Rattle.tva_drr.proofs.OrderLaws.{goes_last, goes_first}
pub use Rattle.tva_drr.proofs.Until.{offer_cases, has_from_items, some_head}
pub use Rattle.tva_drr.specs.Fair.{IsFair, AreMeasured, AreQueues, AreFair}
pub use Rattle.tva_drr.specs.Groups.{Group, Hier, group, hier, inner_limits, next, fair_of, group_bytes, all_group_bytes, items_under}
pub use Rattle.tva_drr.specs.GroupsOffer.{lacks_place, lacks_space, changed, put_under, left_by_offer, lacks_group, answer_to_offer}
pub use Rattle.tva_drr.specs.GroupsTake.{group_refilled, group_settled, groups_taken}
pub use Rattle.tva_drr.specs.Hier.{AreGroups, IsHier}
pub use Rattle.tva_drr.specs.Offer.{put, lacks_queue, lacks_room, offer_leaves, offer_answer}
pub use Rattle.tva_drr.specs.Queues.{first, head, Queue, Fair, fair, has_key, items_of, bytes_in, queue, all_bytes, queue_bytes}
pub use Rattle.tva_drr.specs.Service.{Step, Offer, Take, is_front, head_bytes, AreOffers, bytes_from, most_until, first_bytes}
pub use Rattle.tva_drr.specs.Take.{take_leaves, refilled, popped, settled, front_settled, taken}
pub use Rattle.tva_drr.specs.declared.offered.Offered.{Offered}
pub use Rattle.tva_port.specs.Bounds.{class_queues, bytes_started, IsNeverEmpty, starts_first, start_among, waiting_with, requests_until, StartsBy, bytes_with, regular_bound, AreServed, request_bound, ServesAlike}
pub use Rattle.tva_port.specs.Decide.{covered, start_or, wait_for, decide_on, is_start, credit_after, RestsAt, MissesNone, started_by, NoneDueBefore, IsFirstCovered, after_decision}
unfoldable pub use Rattle.tva_port.specs.Decide.{decision}
pub use Rattle.tva_port.specs.Hand.{AreOneAnswer, answer_by, kept_by, AreOneDecision, decision_by}
pub use Rattle.tva_port.specs.Keeps.{is_between, AreWithin, IsWithinLimits, IsWithinRate, start_time, start_times, AreRising, StaysWithinLimits}
pub use Rattle.tva_port.specs.Legal.{Follows, AllFollow, IsStarted, IsLegal, IsQueued}
pub use Rattle.tva_port.specs.Levels.{next_in, single_queues, request_answer, request_leaves, requests_with, none_under, no_requests, request_taken, AreNone, limits_in, are_next}
pub use Rattle.tva_port.specs.Lists.{LegacyData, IsSound}
pub use Rattle.tva_port.specs.Log.{Entry, Queued, Started, entry_time, NoneLater, entries_before, free_after, request_starts, request_start, free_from}
pub use Rattle.tva_port.specs.Requests.{cost, costs, debt, start, cap}
pub use Rattle.tva_port.specs.Stands.{PortData, port_data, StandsFor}
pub use Rattle.tva_port.specs.Steps.{decision_leaves, freed, put_leaves, start_leaves, grown, paid}
pub use Rattle.tva_port.specs.Waiting.{Waiting, same_class, request_step, waiting_after, queued_legacy, lacks_legacy_room, queue_answer, IsEmpty, IsRequestAlone, is_legacy_start, regular_step, class_step, legacy_after, queued_by, is_queued, next_request, waiting}
pub use Rattle.tva_port.specs.declared.decision.Decision.{Decision}
pub use Rattle.tva_port.specs.declared.decision.Decision.TheVariants.{Start, WaitUntil, Idle}
pub use Rattle.tva_port.specs.declared.hand.Answer.{Answer}
pub use Rattle.tva_port.specs.declared.requests.RequestQueues.{RequestQueues}
pub use Rattle.tva_port.specs.declared.requests.RequestQueues.TheVariants.{OneLevel, TwoLevels}
unfoldable pub use Rattle.tva_shim.specs.Layout.{layout, two_bytes, eight_bytes}
pub use Rattle.tva_shim.specs.Packets.{PacketData, packet_length}
pub use Rattle.tva_shim.specs.Shows.{inner_key_of}
