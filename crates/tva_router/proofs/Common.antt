-- What several proofs of this crate name, by where it stands.
pub use Rattle.std.proofs.Common.{◌≡◌, ℕ, ◌<◌, ◌≤◌, List, ◌++◌, length, Option, Some, None, refl, sym, subst, arith, append-nil, ◌+◌, Bool, true, false, cond, [], ◌∷◌, get_or, set, map, ap, ◌∙◌, zero, suc, ◌||◌, eqb, leb, slice_get, Ok, Err, max, take, ◌≢◌, ◌-◌, ◌&&◌, drop, IfSome, is_some, nat_eq, inl, inr, ◌⊎◌, filter, ◌*◌, ◌↔◌, ◌==◌, rules}
pub use Rattle.std.proofs.lemmas.Bool.Decides.{nat_tests, eqb_tells, leb_tells}
pub use Rattle.std.proofs.lemmas.Iterator.Adapters.{position_from-zero}
pub use Rattle.std.proofs.lemmas.List.{take_more, drop_more, get_or-set_same, length-set}
pub use Rattle.std.proofs.lemmas.List.Elements.{All-nil, All-map, All-weaker, All-cons, All-head, All-tail, All-filter, All-more, recursion_from_All}
pub use Rattle.std.proofs.lemmas.List.Quantifiers.{position-Some}
pub use Rattle.std.specs.HashMap.{get}
pub use Rattle.std.specs.List.{All, AllByRecursion, position, position_from, find, position_or_len, fold, each_same}
pub use Rattle.std.specs.Option.{option_and_then, option_map, option_map_or}
pub use Rattle.std.specs.Prelude.{Contains}
pub use Rattle.tva_base.specs.Addresses.{holds, kept}
pub use Rattle.tva_base.specs.Changes.{same_prefix, changed_plan, last_of, has_come, master_at, of_prefix, route_at}
unfoldable pub use Rattle.tva_base.specs.Changes.{in_force}
pub use Rattle.tva_base.specs.Plan.{IsRouterPlan, IsPrefix, AreDistinct, links_of, AreLinkLimits}
pub use Rattle.tva_base.specs.declared.addresses.Address.{Address}
pub use Rattle.tva_base.specs.declared.addresses.Prefix.{Prefix}
pub use Rattle.tva_base.specs.declared.limits.LinkLimits.{LinkLimits}
pub use Rattle.tva_base.specs.declared.packet.Class.{Class}
pub use Rattle.tva_base.specs.declared.packet.Fate.{Fate}
pub use Rattle.tva_base.specs.declared.packet.Outcome.{Outcome}
pub use Rattle.tva_base.specs.declared.packet.Rights.{Rights}
pub use Rattle.tva_base.specs.declared.packet.Time.{Time}
pub use Rattle.tva_base.specs.declared.plan.Route.{Route}
pub use Rattle.tva_base.specs.declared.plan.RouterPlan.{RouterPlan}
pub use Rattle.tva_caps.specs.Check.{IfValid}
unfoldable pub use Rattle.tva_caps.specs.Check.{check_of}
pub use Rattle.tva_caps.specs.Known.{is_good, IsGoodOrNone}
pub use Rattle.tva_caps.specs.Minting.{MinterState}
pub use Rattle.tva_caps.specs.declared.minters.Checked.{Checked}
pub use Rattle.tva_drr.specs.declared.offered.Offered.{Offered}
pub use Rattle.tva_flow.specs.Budget.{AreTimely, IsWithinSeconds}
pub use Rattle.tva_flow.specs.Charges.{Charge, living_count}
pub use Rattle.tva_flow.specs.Places.{AreShown}
pub use Rattle.tva_flow.specs.Stands.{Cache, AreNext}
pub use Rattle.tva_flow.specs.Verdicts.{charged}
unfoldable pub use Rattle.tva_flow.specs.Verdicts.{list_verdict, nonce_verdict}
pub use Rattle.tva_flow.specs.declared.verdicts.Verdict.{Verdict}
pub use Rattle.tva_port.proofs.Logs.{later-weaker, legal-front, free-started}
pub use Rattle.tva_port.proofs.Steady.{misses_offered, next_sized, ends_later, steady, rests_after, misses_after, misses_empty}
pub use Rattle.tva_port.proofs.Stocked.{waits_none, waits_more, waits_less, waits_few, hand_decided}
pub use Rattle.tva_port.specs.Decide.{started_by, MissesNone, NoneDueBefore, RestsAt, IsFirstCovered}
unfoldable pub use Rattle.tva_port.specs.Decide.{decision}
pub use Rattle.tva_port.specs.Hand.{AreOneAnswer, answer_by, kept_by, decision_by}
pub use Rattle.tva_port.specs.Legal.{IsLegal}
pub use Rattle.tva_port.specs.Log.{Entry, NoneLater, free_after}
pub use Rattle.tva_port.specs.Stands.{PortData}
pub use Rattle.tva_port.specs.Waiting.{queued_by, waiting_after, queue_answer, IsEmpty, IsRequestAlone}
pub use Rattle.tva_port.specs.declared.decision.Decision.{Decision}
pub use Rattle.tva_router.specs.Handling.{charged_by, PortLogs, Handled, offered, outcome_of, sent, queued, entered_by, entered, goes_on, arrival, way_to, stopped, forwarded, fate_of, outgoing_link, kept_after, with_routes}
unfoldable pub use Rattle.tva_router.specs.Handling.{handle}
pub use Rattle.tva_router.specs.Judging.{answer_of, Answer, tag_of, second_of, fresh_for, answer_to_checked, answer_to_cap, judged, marked, judged_by, judged_request, judged_kind, judge}
unfoldable pub use Rattle.tva_router.specs.Judging.{answer_to_shown, answer_to_nonce, judged_shim}
pub use Rattle.tva_router.specs.Routes.{route_with, rerouted, longest, leads, IsWay}
unfoldable pub use Rattle.tva_router.specs.Routes.{link_to}
pub use Rattle.tva_router.specs.Stands.{router_data, StandsFor, RouterData, IsByPlan, StandForLogs, ◌with◌, free_in, free_of, started_on}
pub use Rattle.tva_router.specs.Steps.{IsGuard, IsKnownAt, Keeps, grant_in, IsSound, ArePorts, judged_with}
pub use Rattle.tva_router.specs.Stocked.{waiting_in, places_on, IsStocked}
pub use Rattle.tva_router.specs.Tables.{has_prefix, IsTableOf, AreWays, Places, ArePlacesFrom, PrefixPlaces, AreRoutePlacesFrom, AreMarked, ArePlaces}
pub use Rattle.tva_router.specs.declared.finding.Ways.{Ways}
pub use Rattle.tva_router.specs.declared.guard.Guard.{Guard}
pub use Rattle.tva_router.specs.declared.judged.Arrival.{Arrival}
pub use Rattle.tva_router.specs.declared.judged.Judged.{Judged}
pub use Rattle.tva_router.specs.declared.routes.RouteTable.{RouteTable}
pub use Rattle.tva_shim.specs.Changes.{with_entry, with_next_pointer, with_fresh}
pub use Rattle.tva_shim.specs.Packets.{PacketData, packet_length}
pub use Rattle.tva_shim.specs.Shims.{ShimData, entries_of}
pub use Rattle.tva_shim.specs.Shows.{key_of, nonce_in}
pub use Rattle.tva_shim.specs.declared.kinds.Kind.{Kind}
pub use Rattle.tva_shim.specs.declared.kinds.Shown.{Shown}
pub use Rattle.tva_shim.specs.declared.packets.Carried.{Carried}
pub use Rattle.std.proofs.lemmas.Grind.{common_steps}
