-- What several proofs of this crate name, by where it stands.
pub use Rattle.std.proofs.Common.{◌≡◌, ℕ, ◌+◌, ◌<◌, ◌≤◌, Bool, true, false, cond, eqb, List, [], ◌∷◌, ◌++◌, Option, Some, None, refl, sym, ap, subst, ◌∙◌, append_assoc, arith, append-nil, zero, suc, Contains, ◌⊎◌, inl, inr, map, ap₂, ◌*◌, not, ◌&&◌, ◌||◌, ltb, leb, is_some, length, ◌-◌, min, Ok, length-set, ◌^◌, take, ◌↔◌, le-ltb, slice_set, All, length-append, slice_index_or, ⊎_elim}
pub use Rattle.std.proofs.lemmas.Bool.{eqb-true, cases_lt, le-leb, leb-true, and_parts, cases_Bool, ltb-true, eq-eqb, lt-ltb, cond-false, lt-leb, ne_eqb, and_right}
pub use Rattle.std.proofs.lemmas.Bool.Decides.{nat_tests}
pub use Rattle.std.proofs.lemmas.List.{length-map, get_or_past, map-append}
pub use Rattle.std.proofs.lemmas.List.Elements.{filter_map-append, filter-append, All-from_recursion, All-nil, All-push, recursion_from_All, All-map, All-weaker, All-head, All-set, All-tail}
pub use Rattle.std.proofs.lemmas.List.Quantifiers.{position-Some}
pub use Rattle.std.proofs.lemmas.List.Sums.{sum_by-cons, sum_by-append, length-filter, count_by-le-length, fold-append}
pub use Rattle.std.proofs.lemmas.Option.{slice_get_within, same_Some, cond_some, get_or_from_slice_get, some_pair_parts, slice_get_cases}
pub use Rattle.std.specs.List.{AllByRecursion, cons_option, find, filter_map, position, count_by}
pub use Rattle.std.specs.Option.{option_map, IfSome, option_or, option_and_then, unwrap_or, option_map_or}
pub use Rattle.std.specs.Prelude.{slice_get, ◌==◌, IsSomeAnd, filter, sum_by, fold, nat_lt}
pub use Rattle.tva_base.proofs.Widths.{some_rights}
pub use Rattle.tva_base.specs.Changes.{boot_at, master_at, same_prefix}
unfoldable pub use Rattle.tva_base.specs.Changes.{in_force}
pub use Rattle.tva_base.specs.Clock.{router_second}
unfoldable pub use Rattle.tva_base.specs.Credit.{credit_of}
pub use Rattle.tva_base.specs.Plan.{IsHostPlan, AreDistinct, AreLinkLimits, IsRouterPlan, links_of, AreClassLimits}
pub use Rattle.tva_base.specs.Versions.{AreSomeRights, AreRights, IsVersion}
pub use Rattle.tva_base.specs.declared.addresses.Address.{Address}
pub use Rattle.tva_base.specs.declared.addresses.Prefix.{Prefix}
pub use Rattle.tva_base.specs.declared.event.DataLine.{DataLine}
pub use Rattle.tva_base.specs.declared.event.Event.{Event}
pub use Rattle.tva_base.specs.declared.limits.LinkLimits.{LinkLimits}
pub use Rattle.tva_base.specs.declared.packet.Class.{Class}
pub use Rattle.tva_base.specs.declared.packet.Class.TheVariants.{Regular, Legacy}
pub use Rattle.tva_base.specs.declared.packet.Fate.{Fate}
pub use Rattle.tva_base.specs.declared.packet.Flow.{Flow}
pub use Rattle.tva_base.specs.declared.packet.Grant.{Grant}
pub use Rattle.tva_base.specs.declared.packet.Outcome.{Outcome}
pub use Rattle.tva_base.specs.declared.packet.Outcome.TheVariants.{Dropped}
pub use Rattle.tva_base.specs.declared.packet.PacketId.{PacketId}
pub use Rattle.tva_base.specs.declared.packet.Rights.{Rights}
pub use Rattle.tva_base.specs.declared.packet.Time.{Time}
pub use Rattle.tva_base.specs.declared.packet.Upper.{Upper}
pub use Rattle.tva_base.specs.declared.packet.Upper.TheVariants.{Nothing, Data, Ack}
pub use Rattle.tva_base.specs.declared.plan.HostPlan.{HostPlan}
pub use Rattle.tva_base.specs.declared.plan.LinkPlan.{LinkPlan}
pub use Rattle.tva_base.specs.declared.plan.PolicyKind.TheVariants.{DenyAll, Server, Client}
pub use Rattle.tva_base.specs.declared.plan.Route.{Route}
pub use Rattle.tva_base.specs.declared.plan.RouterPlan.{RouterPlan}
pub use Rattle.tva_caps.proofs.Stamps.{capability_of-lt, precap_of-lt}
pub use Rattle.tva_caps.specs.Check.{IsSecondOf}
unfoldable pub use Rattle.tva_caps.specs.Check.{check_of, checked_at}
unfoldable pub use Rattle.tva_caps.specs.Formula.{capability_of, precap_of}
pub use Rattle.tva_caps.specs.declared.minters.Checked.{Checked}
pub use Rattle.tva_caps.specs.declared.minters.Checked.TheVariants.{Valid}
pub use Rattle.tva_flow.proofs.Same.{and_true, same_grant-self, flow_is, by_bool, same_is, and_false}
pub use Rattle.tva_flow.specs.Budget.{IsWithinSeconds, AreTimely}
pub use Rattle.tva_flow.specs.Charges.{Charge, same_grant, of_flow, last_or, last_charge, bytes_under, bytes_of, end_of, lives, run, used, holder, living_count, same_flow, charge}
pub use Rattle.tva_flow.specs.Stands.{NoChargeLater, AreNext, IsNext}
pub use Rattle.tva_flow.specs.Verdicts.{supersedes, nonce_rows}
unfoldable pub use Rattle.tva_flow.specs.Verdicts.{list_verdict, nonce_verdict}
pub use Rattle.tva_flow.specs.declared.verdicts.Verdict.{Verdict}
pub use Rattle.tva_host.proofs.Calls.{history_of-push}
pub use Rattle.tva_host.specs.Calls.{history_of, Call, after_call, NeverFall, Intended, Injected}
pub use Rattle.tva_host.specs.History.{History, next_nonce, with_deed}
pub use Rattle.tva_host.specs.Receiving.{reply_of, stray, before_reply, claim_in, brought_by, shows_grant, became_of, met_by, answer_to_claim, after_reply, body_of, upper_of, ClaimData, granted}
unfoldable pub use Rattle.tva_host.specs.Receiving.{receipt_of, after_receipt}
pub use Rattle.tva_host.specs.Sending.{is_legacy, shim_of, carried_by, next_shape, next_made, held_shown, next_packet, next_with, with_made}
unfoldable pub use Rattle.tva_host.specs.Sending.{intended, after_intending}
pub use Rattle.tva_host.specs.declared.made.Made.{Made}
pub use Rattle.tva_host.specs.declared.made.Receipt.{Receipt}
pub use Rattle.tva_laws.specs.Deals.{Deal, Prepared, Granted, Noticed, Coming, comings, coming, came_at, sent_for, brought, replied, deals, dealt_in, dealt_at}
pub use Rattle.tva_laws.specs.Delivery.{HasMade, IsHostAt, bytes_delivered, transfer_at, IsOfFile, KeepsFiles, range_at, range_by, range_in, ranges}
pub use Rattle.tva_laws.specs.Detour.{first_router, second_router, detour_config, detour_row, detour_rows, to_first, to_second, detour_logs, first_before_list, second_before_list, asked, narrow_caps, wide_caps, narrow_list, narrow_nonce, wide_list, by_first, detour_log_a, detour_log_b, log_first, log_second, first_before_again, detour_until, told, refused, by_second, back_by_first}
pub use Rattle.tva_laws.specs.Fates.{NoRowRefusesShown, NoRowRefusesNonce, NoRowRefusesKind, NoRowRefuses, IsFate, cause_of_kind, cause_in, cause_of}
pub use Rattle.tva_laws.specs.Loss.{loss_walk, loss_logs, loss_before_renewal, late_renewal, late_renewed, short_link, loss_config, loss_rows, loss_log_a, loss_log_b, loss_log_router, loss_until}
pub use Rattle.tva_laws.specs.Miles.{Mile, Went, Got, Told, contacts, paid_in, charges_in, since_got, after_told, since_notified, last_came, contact_in, ask_came_in, last_got}
pub use Rattle.tva_laws.specs.Narrow.{ask_came, granted_by, grant_came, since_granted, those_charged, IsNarrowPath, AreNarrowSteady, ComesSteadily}
pub use Rattle.tva_laws.specs.NewMaster.{new_master, new_log_a, new_logs, new_before_list, new_list, second_cap, new_rows, new_log_b, new_log_router, new_until, second_request, second_grant}
pub use Rattle.tva_laws.specs.Origins.{made_in, KeepsKind, Keeps, KeepsShown, KeepsShim, KeepsCarried, comes_in, HasOrigin}
pub use Rattle.tva_laws.specs.Paths.{asks_in, ask_id, last_ask_id, same_id, come_as, ask_coming, IsNoGrant, shows, is_charged_since, charged_since, after_noticed, since_noticed, WasCharged, comings_at, shows_nonce, IsSteadyPath, LieInBoot, ShowsMinted, ComesInTime, ComesUnder, AreHonestRegular}
pub use Rattle.tva_laws.specs.Promises.{KeepsPromises, IsHandled, KeepsGrants, KeepsService}
pub use Rattle.tva_laws.specs.Restarts.{charged_to, denying_a, restarting_router, a_request, a_list, a_nonce, first_cap, early_router, demoted, sends, b_grant, first_request, first_grant, restart_config, restart_walk, b_notice, cap_in, asking, passes}
pub use Rattle.tva_laws.specs.SameMaster.{same_logs, same_log_a, again, renewal, renewed, renewed_cap, renewed_grant, renewed_list, before_again, before_nonce, before_list, same_rows, same_log_b, same_log_router, same_until, before_renewal}
pub use Rattle.tva_laws.specs.Sizes.{IsSizedInput, IsSizedEntry, IsSizedWhat}
pub use Rattle.tva_laws.specs.Steady.{IsSteadyIn}
pub use Rattle.tva_laws.specs.SteadyMiles.{Way, grant_at, IsPaid, AreMiles, AreAuthorised, is_since, IsKnown, IsSteady, IsNarrow, IsListTaken, IsNonceTaken, IsTaken, ComesIn, IsMile, checked, OfNonce}
pub use Rattle.tva_laws.specs.Walk.{walk_a, walk_b, walk_route, walk_host_b, walk_link, walk_rights, walk_flow, walk_router, walk_config, walk_class, walk_limits, walk_host, walk_rows, walk_host_a, walk_cap, walk_precap, walk_grant, walk_fate, walk_request, walk_list, walk_bare, walk_spoofed, walk_nonce, walk_renewal, walk_passes, walk_before_list, walk_before_nonce, walk_before_renewal, walk_log_a, walk_list_comes, walk_nonce_comes, walk_renewal_comes, IsSteadyBehind, IsListWhole, walk_back, walk_first, walk_second, walk_third, walk_entry, walk_reply, walk_log_b, walk_log_router, walk_logs, walk_until}
pub use Rattle.tva_laws.specs.Whole.{IsBegun, IsWholePath, AreWholeSteady}
pub use Rattle.tva_plan.proofs.Wired.{all_here}
pub use Rattle.tva_plan.specs.Names.{is_host_plan, is_host}
pub use Rattle.tva_plan.specs.Valid.{IsConfig, addresses_at, IsLinkPlan, IsNodePlan, HasPolicy, IsPolicyPlan}
unfoldable pub use Rattle.tva_plan.specs.Wiring.{links_from, incoming_of, outgoing_of}
pub use Rattle.tva_plan.specs.declared.config.Config.{Config}
pub use Rattle.tva_plan.specs.declared.config.NodePlan.{NodePlan}
pub use Rattle.tva_plan.specs.declared.config.NodePlan.TheVariants.{Host, Router}
pub use Rattle.tva_policy.specs.Grants.{Deed, grant_decision}
unfoldable pub use Rattle.tva_policy.specs.Grants.{is_granted}
pub use Rattle.tva_port.proofs.Legality.{starts_apart, rate_kept, occupies}
pub use Rattle.tva_port.specs.Decide.{MissesNone}
unfoldable pub use Rattle.tva_port.specs.Decide.{decision}
pub use Rattle.tva_port.specs.Keeps.{AreRising, start_times}
pub use Rattle.tva_port.specs.Legal.{IsLegal}
pub use Rattle.tva_router.proofs.InForce.{force_clock, force_slots, force_valid}
pub use Rattle.tva_router.specs.Boots.{charges_of_boot, charges_at}
pub use Rattle.tva_router.specs.Handling.{arrival, PortLogs, stopped, forwarded, sent, way_to}
unfoldable pub use Rattle.tva_router.specs.Handling.{handle}
pub use Rattle.tva_router.specs.Judging.{Answer, tag_of, second_of, fresh_for, answer_of, answer_to_checked, answer_to_cap, judged, judged_by, judged_request, judged_kind, judge}
unfoldable pub use Rattle.tva_router.specs.Judging.{answer_to_shown, answer_to_nonce, judged_shim}
pub use Rattle.tva_router.specs.Marks.{is_marked}
unfoldable pub use Rattle.tva_router.specs.Routes.{link_to}
pub use Rattle.tva_router.specs.declared.judged.Judged.{Judged}
pub use Rattle.tva_rows.specs.Valid.{files_at, begins, IsRow, AreTraceRows, IsRowWhat}
pub use Rattle.tva_rows.specs.declared.rows.Row.{Row}
pub use Rattle.tva_rows.specs.declared.rows.RowWhat.{RowWhat}
pub use Rattle.tva_rows.specs.declared.rows.RowWhat.TheVariants.{Send, Inject, File, Tick}
pub use Rattle.tva_run.proofs.Joins.{each-weaker, each-filter, each-passes, each-append, filter_swap, filter-all, cut-early, filter-true, times_from, filter-none, cut-cut, each-cut, in_order-filter, cut-zero, filter-false, join_unique, cut-late, each_later}
pub use Rattle.tva_run.proofs.Links.{port_time, misses_none}
pub use Rattle.tva_run.proofs.LogWalks.{at_place, by_place, each_place, past_at, IsMade, made_at, each_front, content_at_place, AnyInput, any}
pub use Rattle.tva_run.proofs.Logs.{IsNodeLog-cut}
pub use Rattle.tva_run.proofs.Next.{limits_valid}
pub use Rattle.tva_run.proofs.Putting.{each_from_sources, each-both}
pub use Rattle.tva_run.proofs.Runs.{source_due, at_nodes, IsRunTo-cut, are_delayed, log_at-before}
pub use Rattle.tva_run.proofs.Sites.{link_out_is, site_is, site_number}
pub use Rattle.tva_run.proofs.Walks.{Leaves, LeavesAt, logs_good, starts_good, inputs_to, IsReplyGood, holds, inputs_hold}
pub use Rattle.tva_run.specs.Contents.{content, content_by, hosted, made_for, next_id, packet_of_row, routed, sent_with, sent_out, handled}
unfoldable pub use Rattle.tva_run.specs.Contents.{arrived}
pub use Rattle.tva_run.specs.Entries.{Content, Entry, Took, Arrived, Sent, Ticked, Received, Started, input_time, entry_time, input_source, entry_rank}
pub use Rattle.tva_run.specs.Joins.{from_source, IsInOrder, cut, IsJoin, NeverFalls, put_all, MayPrecede}
pub use Rattle.tva_run.specs.NodeLog.{due, IsNodeLog, GoesOn, starts}
unfoldable pub use Rattle.tva_run.specs.NodeLog.{start_after}
pub use Rattle.tva_run.specs.Parts.{act_of, act_of_row, acts, calls, files, charged, charge_of, charges, call_of_row, call_of_input, call_of, packet_sent, port_logs, act_of_input}
pub use Rattle.tva_run.specs.Reaching.{Logs, log_at, site_at, links_out, rows_at, arrivals, arrivals_at, reaches}
pub use Rattle.tva_run.specs.Report.{event_time, event_node, events_at, AreEvents, AreEventsTo, IsReport}
unfoldable pub use Rattle.tva_run.specs.Report.{report_of}
pub use Rattle.tva_run.specs.Run.{IsRunTo, HasLog, logs_before}
pub use Rattle.tva_run.specs.Sites.{Site, IsSite, limits_out, site_of, IsPlanned}
pub use Rattle.tva_run.specs.Told.{at_time, event_of, events}
pub use Rattle.tva_run.specs.declared.kinds.Input.{Input}
pub use Rattle.tva_run.specs.declared.kinds.Input.TheVariants.{FromTrace, Arrival}
pub use Rattle.tva_sender.proofs.Pushes.{time_of, is_open, last_taking-push, taking_more, uses-push}
pub use Rattle.tva_sender.specs.Book.{of_peer}
pub use Rattle.tva_sender.specs.Contacts.{Contact, Ask, Taking, taking_in, last_taking, asks, asked_at, time, Use, uses_in, uses, after_notice, since_notice, first_nonce, life_of, grant_held, is_notice, Taken, last_ask, grant_of, awaits, Notice, unless_given_up}
pub use Rattle.tva_sender.specs.Played.{IsPrepared, IsPlayed}
pub use Rattle.tva_sender.specs.Shapes.{list_length, nonce_length, length_of, fits, is_alive, nonce_of, held, may_ask, by_grant, shape_of}
unfoldable pub use Rattle.tva_sender.specs.Shapes.{under_grant}
pub use Rattle.tva_sender.specs.declared.peer.Peer.{Peer}
pub use Rattle.tva_sender.specs.declared.shape.Held.{Held}
pub use Rattle.tva_sender.specs.declared.shape.Shape.{Shape}
pub use Rattle.tva_shim.proofs.Lengths.{carried_fits, packet_within}
pub use Rattle.tva_shim.specs.Changes.{with_entry, with_next_pointer, with_fresh, on_shown, with_mark, PointsAtOne}
pub use Rattle.tva_shim.specs.Layout.{return_size}
unfoldable pub use Rattle.tva_shim.specs.Layout.{layout, two_bytes, six_bytes, eight_bytes, number_bytes}
pub use Rattle.tva_shim.specs.Packets.{PacketData, made_packet, IsSizedPacket, packet_length, upper_size, IsWithinWidths, Fills, IsUpper}
pub use Rattle.tva_shim.specs.Shims.{ShimData, entries_of, IsReturn, IsShown, IsShim, caps_of, granted_caps, IsKind}
pub use Rattle.tva_shim.specs.Shows.{kind_nonce, nonce_in, back_in}
pub use Rattle.tva_shim.specs.Widths.{IsEntry, IsCap, AreEntries, AreCaps}
pub use Rattle.tva_shim.specs.declared.kinds.Kind.{Kind}
pub use Rattle.tva_shim.specs.declared.kinds.ReturnInfo.{ReturnInfo}
pub use Rattle.tva_shim.specs.declared.kinds.Shown.{Shown}
pub use Rattle.tva_shim.specs.declared.packets.Carried.{Carried}
pub use Rattle.tva_transfer.proofs.History.{HasCome, ranges_follow}
pub use Rattle.tva_transfer.proofs.Sent.{IsKept, sent_ack, sent_data, stays, acked_came, address_is}
pub use Rattle.tva_transfer.specs.Couriers.{sent_by, to_from, Follow, ranges_of}
pub use Rattle.tva_transfer.specs.Files.{Files, Act, Came, Filed, answered, first_segment, next_of, number_of, after_act, begun, heard, is_due, is_more, no_files, segment_behind, segment_of, with_acked, with_range, delivered, is_of}
unfoldable pub use Rattle.tva_transfer.specs.Files.{segment_due, after_upper, answer_to, range_of}
pub use Rattle.tva_transfer.specs.declared.transfers.Transfer.{Transfer}
