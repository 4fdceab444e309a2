-- What several proofs of this crate name, by where it stands.
pub use Rattle.std.proofs.Common.{IfOk, fold, rules, ◌≡◌, Result, Ok, Err, IsErrAnd, ap, sym, subst, ◌∙◌, ◌<◌, ℕ, ◌^◌, zero, suc, arith, List, Bool, true, false, cond, refl, None, Some, ◌≤◌, ◌&&◌, nat_le, eqb, [], All, codes, length, ◌+◌, ◌∷◌, ◌++◌, get_or, drop, Option, append_assoc, append-nil, ◌*◌, ℤ, pos, negsuc, IfSome, option_and_then, ◌||◌, map, String, string_bytes, Bor, ◌-◌, ◌/◌, nat_lt, Vec, BTreeMap, Global, Contains, inl, inr, length-append, IsTrue, take}
pub use Rattle.std.proofs.Math.Nat.{add-zero}
pub use Rattle.std.proofs.lemmas.Bool.Decides.{nat_tests}
pub use Rattle.std.proofs.lemmas.Grind.{common_steps, pow_more}
pub use Rattle.std.proofs.lemmas.Bool.{and_parts, leb-true, ltb-false}
pub use Rattle.std.proofs.lemmas.List.{at_drop_more, length_push, at_drop_all, length-map, drop_all, map_push}
pub use Rattle.std.proofs.lemmas.List.Elements.{All-nil, Contains-append_cases, All-append}
pub use Rattle.std.specs.List.{list_all, list_any}
pub use Rattle.std.specs.Option.{option_map}
pub use Rattle.std.specs.Str.{IsUtf8, is_utf8, bytes_eq}
pub use Rattle.toml.specs.Data.{Members, Data, Items, no_items, item, as_integer, as_str, as_array, get_member, as_table}
pub use Rattle.toml.specs.View.{view, items_view, members_view, table_view}
pub use Rattle.toml.specs.declared.value.Value.{Value}
pub use Rattle.tva_base.specs.Addresses.{kept}
unfoldable pub use Rattle.tva_base.specs.Addresses.{address_of, prefix_of, parted}
pub use Rattle.tva_base.specs.Plan.{AreClassLimits, AreLinkLimits, IsPrefix, AreDistinct}
pub use Rattle.tva_base.specs.Versions.{AreRights, IsVersion, seconds_max, units_max}
pub use Rattle.tva_base.specs.declared.addresses.Address.{Address}
pub use Rattle.tva_base.specs.declared.limits.LinkLimits.{LinkLimits}
pub use Rattle.tva_config_entries.specs.Entries.{router_keys, host_keys, link_keys, class_limits, behind_a_tag, route_keys}
unfoldable pub use Rattle.tva_config_entries.specs.Entries.{router_of, policy_plan_of, host_of, row, limits_of, link_of, route_of, restart_of, reroute_of}
pub use Rattle.tva_config_entries.specs.Faults.{Read, ◌>>=◌, AnswersBy, in_turn, fault_at, found, at, top, unless}
pub use Rattle.tva_config_entries.specs.Keys.{keyed, is_listed, are_listed}
unfoldable pub use Rattle.tva_config_entries.specs.Keys.{only_listed, required, optional}
unfoldable pub use Rattle.tva_config_entries.specs.Reading.{document_of, members_read, entries_read}
pub use Rattle.tva_config_entries.specs.Stages.{entry_step, Top, seen_top}
unfoldable pub use Rattle.tva_config_entries.specs.Stages.{top_of, tables_of, counts_of, all_entries_of}
pub use Rattle.tva_config_entries.specs.Tables.{ConfigEntries, top_keys, at_most}
unfoldable pub use Rattle.tva_config_entries.specs.Tables.{table_entries}
pub use Rattle.tva_config_entries.specs.Values.{and_first, items, within, number, written, name_of, number_of_bytes, hex_nonce_of, short_array, few_items}
pub use Rattle.tva_config_entries.specs.Views.{seen_entries}
pub use Rattle.tva_config_entries.specs.declared.entries.HostEntry.{HostEntry}
pub use Rattle.tva_config_entries.specs.declared.entries.LinkEntry.{LinkEntry}
pub use Rattle.tva_config_entries.specs.declared.entries.RouteEntry.{RouteEntry}
pub use Rattle.tva_config_entries.specs.declared.entries.RouterEntry.{RouterEntry}
pub use Rattle.tva_config_entries.specs.declared.faults.ConfigError.{ConfigError}
pub use Rattle.tva_config_entries.specs.declared.faults.ConfigFault.{ConfigFault}
pub use Rattle.tva_config_entries.specs.declared.place.Place.{Place}
pub use Rattle.tva_plan.specs.Valid.{IsName, IsPolicyPlan}
