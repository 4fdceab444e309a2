-- What several proofs of this crate name, by where it stands.
pub use Rattle.std.proofs.Common.{◌≡◌, ℕ, true, false, cond, eqb, List, [], ◌∷◌, ◌++◌, Some, None, refl, sym, ap, subst, ◌∙◌, ⊎_elim, ◌≢◌, ◌+◌, ◌≤◌, length, append_assoc, arith, ◌||◌, ◌&&◌, Bool, ltb, Option, Ordering, ◌<◌, get_or, set, ◌⊎◌, map, inl, inr, add-zero, zero-add, add_assoc, zero, suc, ◌-◌, Result}
pub use Rattle.std.proofs.lemmas.Bool.{cases_Bool, eqb-true, eq-eqb, le-ltb, ltb-false, or_parts, and_parts, and_right, lt-ltb, cases_lt, cond_both, ne_eqb, ltb-true, eqb-false, false_from_ne_true, not-false, not-true}
pub use Rattle.std.proofs.lemmas.Bool.Decides.{nat_tests}
pub use Rattle.std.proofs.lemmas.List.{append-nil, map-append, set-get_or}
pub use Rattle.std.proofs.lemmas.List.Elements.{filter_map-append, Contains-push_cases, filter-append}
pub use Rattle.std.proofs.lemmas.List.Sums.{position_or_len_is, sum_by-cons, sum_by-append, fold-append}
pub use Rattle.std.proofs.lemmas.Option.{slice_get_within, slice_get_past, slice_get-get_or, get_or_from_slice_get, some_pair_parts, slice_get_read}
pub use Rattle.std.specs.List.{Contains, slice_get, list_any, position, position_or_len, filter, sum_by}
pub use Rattle.std.specs.Map.{lookup}
pub use Rattle.std.specs.Option.{unwrap_or, option_map_or, option_map, option_and_then, IfSome, IsSome}
pub use Rattle.std.specs.Ordering.{is_eq, is_gt, nat_cmp, ordering_then}
pub use Rattle.tva_base.specs.declared.addresses.Address.{Address}
pub use Rattle.tva_base.specs.declared.event.DataLine.{DataLine}
pub use Rattle.tva_base.specs.declared.packet.Flow.{Flow}
pub use Rattle.tva_base.specs.declared.packet.Upper.{Upper}
pub use Rattle.tva_base.specs.declared.packet.Upper.TheVariants.{Nothing, Data, Ack}
pub use Rattle.tva_host.specs.Calls.{Call, Received, history_of}
pub use Rattle.tva_shim.specs.Packets.{PacketData}
pub use Rattle.tva_transfer.specs.Couriers.{Step, acts_at, AreFrom, IsSent, IsWithin, files_at, ranges_of, sent_by, Follow, to_from}
pub use Rattle.tva_transfer.specs.Files.{Act, Files, Came, after_act, files_of, heard, is_addressed_to, next_of, begun, is_due, segment_of, Filed, Ticked, is_of, with_range, acknowledged, is_more, first_segment, number_of, segment_behind, with_acked, no_files, answered}
unfoldable pub use Rattle.tva_transfer.specs.Files.{segment_due, after_upper, range_of, answer_to}
pub use Rattle.tva_transfer.specs.Sound.{has_key, IsSized, IsSound, is_due_at}
pub use Rattle.tva_transfer.specs.Stands.{next_kept, CourierData, Knows, StandsFor, known, call_with, courier_data}
pub use Rattle.tva_transfer.specs.declared.transfers.Transfer.{Transfer}
pub use Rattle.std.proofs.Common.{rules}
