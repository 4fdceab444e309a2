-- What several proofs of this crate name, by where it stands.
pub use Rattle.std.proofs.Common.{◌≡◌, ◌<◌, ◌≤◌, ◌==◌, ℕ, ◌+◌, ◌^◌, suc, Bool, true, false, cond, nat_lt, List, [], ◌∷◌, ◌++◌, length, map, sum_by, Ok, Option, Some, None, All, refl, ap, sym, ◌∙◌, subst, arith, length-append, ◌||◌, ◌&&◌, nat_eq, eqb-true, get_or, drop, append_assoc, append-nil, ◌-◌, take, Err, codes, not, is_some, zero, filter, Contains, Result, IfOk, nat_le, option_and_then, Vec, Global, rules, ◌*◌}
pub use Rattle.std.proofs.lemmas.Bool.{ltb-false, and_parts, leb-false, eq-eqb}
pub use Rattle.std.proofs.lemmas.Bool.Decides.{nat_tests, same_from_decides}
pub use Rattle.std.proofs.lemmas.Grind.{common_steps}
pub use Rattle.std.proofs.lemmas.List.{map-append, length-map, drop_more, drop_all, take_more, take_all, get_or-map, get_or_append_left, get_or-append_right, length-take-le, map-id}
pub use Rattle.std.proofs.lemmas.List.Elements.{All-append, All-map, All-nil, filter-append}
pub use Rattle.std.proofs.lemmas.List.Folds.{list_any-append}
pub use Rattle.std.proofs.lemmas.Slice.Eq.{bytes_eq-Decides}
pub use Rattle.std.specs.HashMap.{get, get_by_text}
pub use Rattle.std.specs.List.{cons_option, filter_map, list_any, position_from, zip}
pub use Rattle.std.specs.Str.{bytes_eq}
pub use Rattle.std.specs.Vec.Iter.{into_iter_items}
pub use Rattle.tva_base.specs.Plan.{AreDistinct, AreLinkLimits, AreRising, IsPrefix, IsRouterPlan, IsHostPlan}
pub use Rattle.tva_base.specs.declared.addresses.Address.{Address}
pub use Rattle.tva_base.specs.declared.addresses.Prefix.{Prefix}
pub use Rattle.tva_base.specs.declared.limits.LinkLimits.{LinkLimits}
pub use Rattle.tva_base.specs.declared.plan.LinkPlan.{LinkPlan}
pub use Rattle.tva_config.specs.Changes.{is_late_restart, is_late_reroute, restart_step, reroute_step}
pub use Rattle.tva_config.specs.Links.{joins, link_between, link_step, uplink_step, only}
pub use Rattle.tva_config.specs.Nodes.{node_names, node_of, all_slots, node_place, name_step, address_step, retry_step}
pub use Rattle.tva_config.specs.Read.{Owned, router_plans}
unfoldable pub use Rattle.tva_config.specs.Read.{router_plan, host_plan, plan_of, read_of}
pub use Rattle.tva_config.specs.Routes.{is_for, route_step, router_named, resolved}
pub use Rattle.tva_config.specs.Stages.{if_owned, if_restart, if_reroute, host_plans, is_restart_of, is_reroute_of, Joined, link_to, uplink_of}
unfoldable pub use Rattle.tva_config.specs.Stages.{slots_of, links_of, uplinks_of, rings_of, routes_at, restarts_at, reroutes_at, config_of, names_of, addresses_of, retries_of, routes_of, restarts_of, reroutes_of, owned_of, joined_of, linked_of, planned_of}
pub use Rattle.tva_config.specs.Views.{is_late, Restarted, IsRestarted, Rerouted, same_route, IsRerouted, Numbers, IsNumbers, Pairs, same_ends, link_at, IsPairs, seen_owned, seen_joined, IsSeen}
pub use Rattle.tva_config.specs.declared.joined.OwnedReroute.{OwnedReroute}
pub use Rattle.tva_config.specs.declared.joined.OwnedRestart.{OwnedRestart}
pub use Rattle.tva_config.specs.declared.joined.OwnedRoute.{OwnedRoute}
pub use Rattle.tva_config_entries.proofs.Answered.{answered_there, error_told, given, fault_told, refused, fault_made}
pub use Rattle.tva_config_entries.proofs.InTurn.{Continues, next_at, continues_more, continues_stops, continues_ends, one_longer}
pub use Rattle.tva_config_entries.proofs.Ranges.{IsRouterEntry, IsHostEntry, IsLinkEntry, AreEntries, IsRouteEntry}
pub use Rattle.tva_config_entries.proofs.Turns.{all_cons, unless_gave, first_gave, when_gave, gave_one, in_turn_long, all_push, in_turn_keeps, in_turn_maps, in_turn_shows, distinct_push, found_gave, in_turn_keeps_of}
pub use Rattle.tva_config_entries.specs.Faults.{at, fault_at, in_turn, Answers, Read, ◌>>=◌, unless, found}
pub use Rattle.tva_config_entries.specs.Tables.{ConfigEntries}
pub use Rattle.tva_config_entries.specs.Views.{seen_entries}
pub use Rattle.tva_config_entries.specs.declared.entries.HostEntry.{HostEntry}
pub use Rattle.tva_config_entries.specs.declared.entries.LinkEntry.{LinkEntry}
pub use Rattle.tva_config_entries.specs.declared.entries.RouterEntry.{RouterEntry}
pub use Rattle.tva_plan.specs.Valid.{IsName, IsNodePlan, HasPolicy, IsLinkPlan, AreWired, AreRoutersFirst, addresses_at, IsConfig, ends_of}
pub use Rattle.tva_plan.specs.Wiring.{all_places, picked, tagged_to, limited_from, number_from}
unfoldable pub use Rattle.tva_plan.specs.Wiring.{incoming_of, outgoing_of, links_from}
pub use Rattle.tva_plan.specs.declared.config.Config.{Config}
