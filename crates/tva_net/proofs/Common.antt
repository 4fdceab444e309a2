-- What several proofs of this crate name, by where it stands.
pub use Rattle.std.proofs.Common.{◌≡◌, ℕ, ◌+◌, ◌<◌, cond, List, [], ◌∷◌, ◌++◌, length, get_or, take, sym, ◌∙◌, ap, Vec, Global, Result, Ok, Err, IfOk, IfErr, ◌≤◌, Some, None, refl, subst, arith, length-append, zero, suc, map, filter, Bool, true, false, Option, All, set, inl, inr, add-zero, ◌-◌, drop, add-one, min, drop-cons, ap₂, IfSome, ◌⊎◌, ◌*◌, rules, length-take}
pub use Rattle.std.proofs.lemmas.Bool.{eq-eqb, ne_eqb, cases_eq, cond-true, cond-false, cases_lt, lt-ltb, cases_Bool, lt-leb, le-leb, and_right, eqb-true, le-ltb}
pub use Rattle.std.proofs.lemmas.Bool.Decides.{nat_tests}
pub use Rattle.std.proofs.lemmas.List.{nil_from_length, take_more, length_push, append_assoc, length-map, get_or-set_other, get_or-set_same, length-set, map-append, take_rest, length-drop, get_or-drop, append-nil, get_or_append_left, get_or_push, get_or_default, drop_all, set-get_or, drop_more, drop_at, take_all, with_items_is}
pub use Rattle.std.proofs.lemmas.List.Elements.{All-head, All-tail, filter-append, recursion_from_All, All-append, All-from_recursion, AllZip-get_or, All-weaker, filter_map-append, All-set}
pub use Rattle.std.proofs.lemmas.List.Sorted.{IsNonDecreasingBy-from_sort_by_key, answers_always, searched}
pub use Rattle.std.proofs.lemmas.List.Sums.{sum_by_push, sum_by-set}
pub use Rattle.std.proofs.lemmas.Slice.Zip.{AllZip-long}
pub use Rattle.std.proofs.lemmas.Option.{same_Some, slice_get_read, slice_get-get_or, slice_get_cases, slice_get_within, get_or_from_slice_get, slice_get_past}
pub use Rattle.std.specs.List.{AllByRecursion, AllZip, insert, cons_option, find, sum_by}
pub use Rattle.std.specs.Option.{option_map_or, option_map, option_and_then}
pub use Rattle.std.specs.Prelude.{◌==◌, slice_get, flat_map, nat_lt, nat_le, ◌&&◌, Contains}
pub use Rattle.std.specs.Vec.Iter.{drain_items}
pub use Rattle.tva_base.specs.declared.event.Event.{Event}
pub use Rattle.tva_base.specs.declared.event.Totals.{Totals}
pub use Rattle.tva_base.specs.declared.limits.LinkLimits.{LinkLimits}
pub use Rattle.tva_base.specs.declared.packet.Time.{Time}
pub use Rattle.tva_base.specs.declared.plan.LinkPlan.{LinkPlan}
pub use Rattle.tva_net.specs.Built.{AreFirstNodes, AreRowCounts, IsFirstNode}
pub use Rattle.tva_net.specs.Handing.{IsByTime, IsOnly, picked, IsFirstDue}
pub use Rattle.tva_net.specs.Kept.{WorksFor, IsNodeAt, work_of, state_of}
pub use Rattle.tva_net.specs.Mail.{IsPostable, KeepsWork, CanDeliver, GotMails, mail_at, GotMail, HandedOn, HandedOut, IsSameBut, goes_to, mail_to, HavePosted}
pub use Rattle.tva_net.specs.Nets.{HasGiven, NetState, GrowsFrom, IsWholeRun, WorkState, ByPlace, TellOf}
pub use Rattle.tva_net.specs.News.{HasNoNews, IsFirstTime, of_place, HasNone, HasNoneBefore, HasWorkAt}
pub use Rattle.tva_net.specs.Places.{AreQuietElsewhere, IsElsewhere, Rises, ArePlaces}
pub use Rattle.tva_net.specs.Sums.{with_event, AreWithin}
pub use Rattle.tva_net.specs.Times.{AreNoted, IsNext, IsNoted, HasWorkBefore, IsNotedAt, number_of}
pub use Rattle.tva_net.specs.Work.{CanWork, WorksUpTo, AddsNothing, AddsWindow, AddsWindows, AreWorked, CanGoTo, EndsWindow, IsThrough, OfEachRun, WorksOn, if_some, AreAllPlaces, IsPutAmong, AreThrough, IsWorkedAt}
pub use Rattle.tva_node.proofs.Works.{legal, rests_until}
pub use Rattle.tva_node.proofs.Zips.{begins_more, begins_same, keeps_on, keeps_same, AllZip-same}
pub use Rattle.tva_node.specs.States.{NodeState, StandsFor, Keeps, Stands, unsent, FitsRow, Gone, gone_after, gone_by, all_given, news, Fits, IsAsBefore, IsAdvanced}
pub use Rattle.tva_plan.proofs.Wired.{all_here}
pub use Rattle.tva_plan.specs.Valid.{IsConfig, IsLinkPlan}
pub use Rattle.tva_plan.specs.declared.config.Config.{Config}
pub use Rattle.tva_plan.specs.declared.config.NodePlan.{NodePlan}
pub use Rattle.tva_rows.specs.Valid.{AreTraceRows, IsRow, IsRowWhat}
pub use Rattle.tva_rows.specs.declared.rows.Row.{Row}
pub use Rattle.tva_run.proofs.Going.{run_rests, events_added, least_delay-least, run_goes_on, same_before}
pub use Rattle.tva_run.proofs.Joins.{cut-early, cut-zero, each-filter, each-weaker, filter-all, filter-none, filter-true, filter-false, cut-late, each_later, each-append, filter_swap, in_order-filter, cut-cut, join_unique, each-map, each-right, each_at_least}
pub use Rattle.tva_run.proofs.Logs.{IsNodeLog-same, IsNodeLog-unique}
pub use Rattle.tva_run.proofs.Next.{contains_cases, contains_first, contains_more, contains_filter, contains_passes, none_before, window_next}
pub use Rattle.tva_run.proofs.Putting.{each-both, cut-put_all, each_from_sources, put_all-append}
pub use Rattle.tva_run.proofs.Reaches.{reaches_rise}
pub use Rattle.tva_run.proofs.Runs.{are_delayed, log_at-before}
pub use Rattle.tva_run.proofs.Sites.{site_valid, site_number, link_out_is, sent_arrives}
pub use Rattle.tva_run.specs.Entries.{Entry, input_time, input_source, entry_time, entry_rank, Took, Started}
pub use Rattle.tva_run.specs.Joins.{from_source, NeverFalls, IsInOrder, cut, IsJoin, MayPrecede}
pub use Rattle.tva_run.specs.Next.{IsWorkAt, IsQuiet, next_on}
unfoldable pub use Rattle.tva_run.specs.Next.{next_decision}
pub use Rattle.tva_run.specs.NodeLog.{due, IsNodeLog, in_turn, GoesOn}
unfoldable pub use Rattle.tva_run.specs.NodeLog.{start_after}
pub use Rattle.tva_run.specs.Parts.{port_logs}
pub use Rattle.tva_run.specs.Reaching.{Logs, log_at, arrivals, arrivals_at, reaches, rows_at, site_at, links_out, arrival, link_from, arrival_of}
pub use Rattle.tva_run.specs.Report.{is_routed, is_charged, is_demoted, is_dropped, is_started, is_received, received_bytes, AreEvents, event_time, event_node, events_at}
unfoldable pub use Rattle.tva_run.specs.Report.{totals_of}
pub use Rattle.tva_run.specs.Run.{HasLog, IsRunTo, logs_before}
pub use Rattle.tva_run.specs.Sites.{Site, IsSite, site_of, limits_out, link_out}
pub use Rattle.tva_run.specs.Told.{events, sendings, at_time, event_of, sending_of}
pub use Rattle.tva_run.specs.Windows.{Window, given, window_length, least_delay, events_in, HasWork, IsAtRest, AreFirstWindows, AreWindows, IsNextWindow, IsOver, EachBeginsWith}
pub use Rattle.tva_run.specs.declared.kinds.Input.{Input}
pub use Rattle.tva_run.specs.declared.kinds.Input.TheVariants.{FromTrace}
pub use Rattle.tva_run.specs.declared.kinds.Sending.{Sending}
pub use Rattle.tva_waiting.specs.declared.memory.Memory.{Memory}
