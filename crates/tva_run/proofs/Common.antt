-- What several proofs of this crate name, by where it stands.
pub use Rattle.std.proofs.Common.{◌≡◌, ℕ, ◌+◌, ◌≤◌, ◌<◌, true, false, cond, List, [], ◌∷◌, ◌++◌, sym, subst, ◌∙◌, ap, arith, zero, suc, length, Some, refl, ap₂, inl, inr, map, filter, Option, None, ◌⊎◌, Bool, All, append_assoc, get_or, take, drop, ◌-◌, length-append, ◌*◌}
pub use Rattle.std.proofs.lemmas.Bool.{eq-eqb, ne_eqb, lt-ltb, le-ltb, cases_lt, ltb-true, cases_Bool, cases_eq, cond-true, le-leb, cond-false, eqb-true, cases_order, lt-leb}
pub use Rattle.std.proofs.lemmas.Bool.Decides.{nat_tests}
pub use Rattle.std.proofs.lemmas.List.{get_or_past, append_cancel_left, append-nil, ext_get_or, length-map}
pub use Rattle.std.proofs.lemmas.List.Elements.{filter-append, filter_map-append, recursion_from_All, All-from_recursion, All-head, All-tail, All-drop, Contains-append_left, Contains-append_right, Contains-get_or}
pub use Rattle.std.proofs.lemmas.Option.{slice_get_cases, same_Some, slice_get_within}
pub use Rattle.std.specs.List.{AllByRecursion, flat_map, cons_option, find, filter_map, fold}
pub use Rattle.std.specs.Option.{option_map, option_and_then, option_map_or, IfSome}
pub use Rattle.std.specs.Prelude.{◌==◌, nat_le, count_by, nat_lt, slice_get, ◌&&◌, Contains, min, insert, ◌||◌}
pub use Rattle.tva_base.specs.Changes.{boot_at, has_come}
unfoldable pub use Rattle.tva_base.specs.Changes.{in_force}
pub use Rattle.tva_base.specs.Plan.{AreLinkLimits, links_of}
pub use Rattle.tva_base.specs.declared.addresses.Address.{Address}
pub use Rattle.tva_base.specs.declared.event.Event.{Event}
pub use Rattle.tva_base.specs.declared.limits.LinkLimits.{LinkLimits}
pub use Rattle.tva_base.specs.declared.packet.Class.{Class}
pub use Rattle.tva_base.specs.declared.packet.Class.TheVariants.{Request, Regular, Legacy}
pub use Rattle.tva_base.specs.declared.packet.Outcome.{Outcome}
pub use Rattle.tva_base.specs.declared.packet.Time.{Time}
pub use Rattle.tva_base.specs.declared.plan.HostPlan.{HostPlan}
pub use Rattle.tva_base.specs.declared.plan.LinkPlan.{LinkPlan}
pub use Rattle.tva_base.specs.declared.plan.RouterPlan.{RouterPlan}
pub use Rattle.tva_flow.specs.Charges.{Charge}
pub use Rattle.tva_host.specs.Receiving.{reply_of}
unfoldable pub use Rattle.tva_host.specs.Receiving.{receipt_of}
pub use Rattle.tva_host.specs.declared.made.Made.{Made}
pub use Rattle.tva_lines.specs.Lines.{HasEvent, HasHappened, HasLink, HasNode, HasOutcome, HasSource, line_of}
pub use Rattle.tva_plan.proofs.Wired.{all_here, router_at, host_at}
pub use Rattle.tva_plan.specs.Valid.{IsConfig, IsLinkPlan, IsWired, AreWired}
pub use Rattle.tva_plan.specs.Wiring.{picked, number_from, limited_from}
unfoldable pub use Rattle.tva_plan.specs.Wiring.{links_from, outgoing_of}
pub use Rattle.tva_plan.specs.declared.config.Config.{Config}
pub use Rattle.tva_plan.specs.declared.config.NodePlan.{NodePlan}
pub use Rattle.tva_port.proofs.Logs.{goes_on-push, legal-here, starts_by, free-queued, free-started}
pub use Rattle.tva_port.specs.Decide.{MissesNone, RestsAt, is_start, covered, wait_for, credit_after, start_or}
unfoldable pub use Rattle.tva_port.specs.Decide.{decision}
pub use Rattle.tva_port.specs.Legal.{Follows, IsLegal}
pub use Rattle.tva_port.specs.Log.{NoneLater, free_after, request_starts}
pub use Rattle.tva_port.specs.Requests.{cost, cap}
pub use Rattle.tva_port.specs.Waiting.{waiting_after, next_request, Waiting, same_class, request_step, regular_step, queued_legacy, is_legacy_start}
pub use Rattle.tva_port.specs.declared.decision.Decision.{Decision}
pub use Rattle.tva_port.specs.declared.decision.Decision.TheVariants.{Start, WaitUntil, Idle}
pub use Rattle.tva_router.specs.Boots.{charges_at, charges_of_boot}
pub use Rattle.tva_router.specs.Handling.{PortLogs, offered, outcome_of, sent, outgoing_link, way_to, arrival, goes_on, stopped, forwarded, Handled}
unfoldable pub use Rattle.tva_router.specs.Handling.{handle}
pub use Rattle.tva_router.specs.Judging.{judge}
unfoldable pub use Rattle.tva_router.specs.Routes.{link_to}
pub use Rattle.tva_router.specs.declared.judged.Judged.{Judged}
pub use Rattle.tva_rows.specs.declared.rows.Row.{Row}
pub use Rattle.tva_run.specs.Contents.{packet_of_row, next_id, routed, goes_out, hosted, content_by, content, sent_out, sent_with}
unfoldable pub use Rattle.tva_run.specs.Contents.{arrived}
pub use Rattle.tva_run.specs.Entries.{input_time, input_source, entry_time, Entry, Took, Started, entry_rank, Content, Arrived, Sent, Ticked, Received}
pub use Rattle.tva_run.specs.Joins.{IsJoin, cut, IsInOrder, NeverFalls, from_source, put_all, MayPrecede, precedes, put_in}
pub use Rattle.tva_run.specs.Legal.{Takes, IsLegalLog, IsShort, AreShort}
pub use Rattle.tva_run.specs.Next.{next_by, next_on, IsQuiet}
unfoldable pub use Rattle.tva_run.specs.Next.{next_decision}
pub use Rattle.tva_run.specs.NodeLog.{IsNodeLog, due, starts, start_of, GoesOn, LeavesNone}
unfoldable pub use Rattle.tva_run.specs.NodeLog.{start_after}
pub use Rattle.tva_run.specs.Parts.{port_logs, port_entry, charges, content_at, queued_at, reply_at}
pub use Rattle.tva_run.specs.Reaching.{Logs, log_at, links_out, site_at, reaches, link_from, arrivals, arrivals_at, rows_at, arrival_of}
pub use Rattle.tva_run.specs.Report.{event_time, event_node, events_at, AreEvents, AreEventsTo, lines_of}
unfoldable pub use Rattle.tva_run.specs.Report.{report_of}
pub use Rattle.tva_run.specs.Run.{HasLog, IsRunTo, logs_before}
pub use Rattle.tva_run.specs.Sites.{Site, site_of, limits_out, IsSite, IsPlanned, link_out, IsLinkOut, AreRising}
pub use Rattle.tva_run.specs.Told.{events, content_told, at_time, sendings}
pub use Rattle.tva_run.specs.Windows.{least_delay, window_length, IsAtRest, Window, IsWork, AreWindows, events_in, given, IsNextWindow, HasWork}
pub use Rattle.tva_run.specs.declared.kinds.Input.{Input}
pub use Rattle.tva_run.specs.declared.kinds.Input.TheVariants.{FromTrace, Arrival}
pub use Rattle.tva_shim.specs.Packets.{PacketData, class_by_shim, made_packet, upper_size, packet_length}
pub use Rattle.tva_transfer.specs.Files.{answered}
