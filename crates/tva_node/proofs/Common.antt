-- What several proofs of this crate name, by where it stands.
pub use Rattle.std.proofs.Common.{◌≡◌, ℕ, zero, suc, ◌+◌, ◌-◌, ◌<◌, ◌≤◌, true, false, List, [], ◌∷◌, length, get_or, map, set, take, drop, All, Option, Some, None, refl, sym, subst, ◌∙◌, ap, arith, inl, inr, ◌*◌, ◌++◌, Result, Ok, Err, append-nil, Bool, append_assoc, cond, filter, ap₂, ◌⊎◌, rules, length-set, max, ◌/◌}
pub use Rattle.std.proofs.Crossing.{crosses}
pub use Rattle.std.proofs.lemmas.Bool.{cases_lt, cond-true, cond-false, eq-eqb, ne_eqb, leb-false, eqb-true, cases_Bool, le-leb}
pub use Rattle.std.proofs.lemmas.Bool.Decides.{nat_tests}
pub use Rattle.std.proofs.lemmas.List.{get_or_default, get_or-drop, get_or-set_other, get_or-set_same, get_or-take, length-drop, length-map, length-take, get_or-map, map_push, take-append-drop, take_more, length-take-le, map-append, drop_more, set-get_or, map-set, take_more_set, drop-set-lt, set_split, take_all}
pub use Rattle.std.proofs.lemmas.List.Elements.{All-head, All-map, All-tail, All-weaker, filter_map-append, All-get_or, filter-append, recursion_from_All, Contains-get_or, All-nil, All-push, Contains-append_right, filter_agree, All-cons, All-contains, All-from_recursion, All-append, All-set, All-take}
pub use Rattle.std.proofs.lemmas.List.Sorted.{All-permutation, IsNonDecreasingBy-from_sort_by_key, answers_always}
pub use Rattle.std.proofs.lemmas.List.Sums.{length-filter, sum_by_push}
pub use Rattle.std.specs.List.{find, AllByRecursion, cons_option, AllZip}
pub use Rattle.std.specs.List.Sorted.{IsNonDecreasingBy, IsPermutation, IsStableByKey, ties}
pub use Rattle.std.specs.Option.{option_map_or, option_and_then, option_map}
pub use Rattle.std.specs.Ordering.{nat_cmp, is_lt}
pub use Rattle.std.specs.Prelude.{◌==◌, IfSome, OnOk, nat_le, Contains, ◌&&◌, OnErr, IfOk, not}
pub use Rattle.tva_base.specs.Changes.{boot_at, changed_plan, has_come, last_of, master_at, of_prefix, route_at, same_prefix}
unfoldable pub use Rattle.tva_base.specs.Changes.{in_force}
pub use Rattle.tva_base.specs.Plan.{links_of, AreLinkLimits, IsRouterPlan}
pub use Rattle.tva_base.specs.declared.addresses.Address.{Address}
pub use Rattle.tva_base.specs.declared.addresses.Prefix.{Prefix}
pub use Rattle.tva_base.specs.declared.event.Event.{Event}
pub use Rattle.tva_base.specs.declared.event.Happened.{Happened}
pub use Rattle.tva_base.specs.declared.limits.LinkLimits.{LinkLimits}
pub use Rattle.tva_base.specs.declared.packet.Class.{Class}
pub use Rattle.tva_base.specs.declared.packet.Outcome.{Outcome}
pub use Rattle.tva_base.specs.declared.packet.Time.{Time}
pub use Rattle.tva_base.specs.declared.packet.Upper.{Upper}
pub use Rattle.tva_base.specs.declared.plan.HostPlan.{HostPlan}
pub use Rattle.tva_base.specs.declared.plan.LinkPlan.{LinkPlan}
pub use Rattle.tva_base.specs.declared.plan.RouterPlan.{RouterPlan}
pub use Rattle.tva_flow.specs.Charges.{Charge}
pub use Rattle.tva_host.specs.Calls.{Call, Received, history_of, Intended}
pub use Rattle.tva_host.specs.declared.made.Made.{Made}
pub use Rattle.tva_node.specs.Besides.{KnowsNext, RoleStands, IsBy, IsRoutedBy, StandsAsRouter, StandsAsHost}
pub use Rattle.tva_node.specs.Changes.{AreByTime, AreMade, move_time, plan_after, restart_time, route_after}
pub use Rattle.tva_node.specs.Links.{AreKeys, AreNoKeys, IsFirstAsked, IsKey, IsRankOf, asked_by, first_link, is_asked, least_next, sooner, with_next}
pub use Rattle.tva_node.specs.Making.{IsNextLater, IsRestarted, IsUpTo, StandsOn}
pub use Rattle.tva_node.specs.Pairs.{link_pair}
pub use Rattle.tva_node.specs.States.{NodeState, Gone, Keeps, gone_in, role_plan, site_at, state_of, StandsFor, AreLeft, Fits, IsFirstWork, Stands, none_gone, BeginsWith, IsAdvanced}
pub use Rattle.tva_node.specs.Steps.{StandsAt, Decides, started_by, HostTook, RouterTook, Takes, reply_went, went_out}
pub use Rattle.tva_node.specs.Work.{DecidesAt, IsRank, AwaitsAt, IsStartable, all_taken, end_on, start_event, start_sending, IsNoneBefore, first_time, is_due, work_time, TakesAt, queued_on, Waits}
pub use Rattle.tva_node.specs.declared.changes.Changes.{Changes}
pub use Rattle.tva_node.specs.declared.links.Link.{Link}
pub use Rattle.tva_node.specs.declared.parts.Parts.{Parts}
pub use Rattle.tva_node.specs.declared.role.Hosted.{Hosted}
pub use Rattle.tva_node.specs.declared.role.Role.{Role}
pub use Rattle.tva_node.specs.declared.role.Routed.{Routed}
pub use Rattle.tva_plan.specs.declared.config.NodePlan.{NodePlan}
pub use Rattle.tva_port.specs.Decide.{is_start}
unfoldable pub use Rattle.tva_port.specs.Decide.{decision}
pub use Rattle.tva_port.specs.Hand.{decision_by, answer_by}
pub use Rattle.tva_port.specs.Legal.{IsLegal}
pub use Rattle.tva_port.specs.Log.{free_after}
pub use Rattle.tva_port.specs.Stands.{PortData}
pub use Rattle.tva_port.specs.Waiting.{waiting_after, queued_by, queue_answer}
pub use Rattle.tva_port.specs.declared.decision.Decision.{Decision}
pub use Rattle.tva_port.specs.declared.decision.Decision.TheVariants.{Start, WaitUntil, Idle}
pub use Rattle.tva_router.specs.Boots.{charges_of_boot, charges_at}
pub use Rattle.tva_router.specs.Handling.{PortLogs, outgoing_link, charged_by, entered_by, outcome_of}
unfoldable pub use Rattle.tva_router.specs.Handling.{handle}
pub use Rattle.tva_router.specs.Routes.{rerouted}
pub use Rattle.tva_router.specs.Stands.{RouterData, ◌with◌, started_on}
pub use Rattle.tva_run.proofs.Boots.{charges_none, charges_now}
pub use Rattle.tva_run.proofs.Joins.{cut-early, cut-late, each_later, each-append, each-weaker, filter-all, filter-none, filter-true, filter-false, filter_swap, in_order-filter, join_unique, each-cut}
pub use Rattle.tva_run.proofs.Legal.{AreLegal}
pub use Rattle.tva_run.proofs.Logs.{IsNodeLog-same, logs-other}
pub use Rattle.tva_run.proofs.Ports.{busy_starts_none, free_starts, next_busy, next_rested, next_again, quiet_starts_none}
pub use Rattle.tva_run.proofs.Putting.{each-put_all, in_order-put_all, cut-put_all, put_all-append}
pub use Rattle.tva_run.proofs.Quiet.{late_on, due_same, quiet_log}
pub use Rattle.tva_run.proofs.Steps.{rest_late, begins, takes, rests, starts_one, ends}
pub use Rattle.tva_run.specs.Contents.{content_by, goes_out, handled, hosted, made_for, routed, sent_out, packet_of_row}
unfoldable pub use Rattle.tva_run.specs.Contents.{arrived}
pub use Rattle.tva_run.specs.Entries.{Entry, Started, input_time, input_source, Content, Arrived, Sent, Took}
pub use Rattle.tva_run.specs.Joins.{IsInOrder, NeverFalls, put_in, MayPrecede, from_source}
pub use Rattle.tva_run.specs.Next.{next_by, next_on, IsWorkAt, IsQuiet}
unfoldable pub use Rattle.tva_run.specs.Next.{next_decision}
pub use Rattle.tva_run.specs.NodeLog.{starts, start_of, in_turn, due, IsNodeLog}
unfoldable pub use Rattle.tva_run.specs.NodeLog.{start_after}
pub use Rattle.tva_run.specs.Parts.{port_entry, port_logs, charges, act_of, act_of_input, act_of_row, acts, call_of, call_of_input, call_of_row, files, reply_at, calls, charge_of, charged, content_at, is_row, queued_at, count_of_rows}
pub use Rattle.tva_run.specs.Sites.{AreRising, limits_out, Site, IsLinkOut, link_out, site_of, IsSite, IsPlanned}
pub use Rattle.tva_run.specs.Told.{at_time, content_told, reply_told, sendings, event_of, sending_of}
pub use Rattle.tva_run.specs.declared.kinds.Input.{Input}
pub use Rattle.tva_run.specs.declared.kinds.Input.TheVariants.{FromTrace, Arrival}
pub use Rattle.tva_run.specs.declared.kinds.Sending.{Sending}
pub use Rattle.tva_shim.specs.Packets.{PacketData, packet_length, class_by_shim}
pub use Rattle.tva_shim.specs.Shows.{key_of, nonce_in}
pub use Rattle.tva_transfer.specs.Files.{Files, Act, Came, answered, delivered, Filed, first_segment}
unfoldable pub use Rattle.tva_transfer.specs.Files.{answer_to, segment_due}
pub use Rattle.tva_transfer.specs.Stands.{CourierData, call_with, sent_with, known}
pub use Rattle.tva_waiting.specs.Kept.{with_more}
pub use Rattle.tva_waiting.specs.declared.memory.Memory.{Memory}
