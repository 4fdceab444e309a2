-- What several proofs of this crate name, by where it stands.
pub use Rattle.std.proofs.Common.{◌≤◌, ℕ, length, arith, ◌≡◌, zero, suc, ◌+◌, ◌-◌, ◌*◌, ◌/◌, ◌%◌, ◌^◌, ◌<◌, List, [], ◌∷◌, ◌++◌, get_or, take, drop, Some, None, refl, sym, ap, ◌∙◌, map, All, length-append, min, ◌⊎◌, inl, inr, Bool, true, false, Option, subst, append-nil, append_assoc, cond, nat_lt, filter, rules}
pub use Rattle.std.proofs.lemmas.List.{take-append-drop, take-append-le, take_all, drop_at, length-take, length-take-le, take_more, drop_all}
pub use Rattle.std.proofs.lemmas.List.Elements.{All-nil, All-push, All-cons, All-head, All-tail, filter-append}
pub use Rattle.std.specs.List.{flat_map}
pub use Rattle.std.specs.Prelude.{◌==◌}
pub use Rattle.arrayvec.specs.ArrayVec.{array_vec_len}
pub use Rattle.byteorder.specs.Endian.{big_from, big_bytes, big_number}
pub use Rattle.byteorder.specs.Numbers.{big_from-cons, big_from-lt, big_from-take, big_number-reads_back, length-bytes_high_first}
pub use Rattle.tva_base.proofs.Widths.{size_few, number_fits, rights_from, same_rights}
pub use Rattle.tva_base.specs.Versions.{rights_size, AreRights, rights_number, seconds_max, units_max}
pub use Rattle.tva_base.specs.declared.packet.Rights.{Rights}
pub use Rattle.tva_shim.specs.Changes.{last_or_zero, last_but_one_or_zero}
pub use Rattle.tva_shim.specs.Layout.{kind_size, return_size, rights_bytes, entry_bytes, shown_bytes, kind_bytes, return_bytes, demoted_bit, shim_size, kind_code, return_bit}
unfoldable pub use Rattle.tva_shim.specs.Layout.{layout, two_bytes, six_bytes, eight_bytes, number_bytes}
pub use Rattle.tva_shim.specs.Paired.{paired}
pub use Rattle.tva_shim.specs.Parts.{Reads, IsBelow, IsAtMost, one_byte, AreSoMany, IsWholeShown, IsType, type_bytes, returns_bit, IsKindPart, IsReturnPart, IsGrant, grant_bytes}
pub use Rattle.tva_shim.specs.Shims.{ShimData, IsShim, entries_of, caps_of, granted_caps}
pub use Rattle.tva_shim.specs.Widths.{AreEntries, IsEntry, IsCap}
pub use Rattle.tva_shim.specs.declared.decoding.ShimType.{ShimType}
pub use Rattle.tva_shim.specs.declared.entries.Entry.{Entry}
pub use Rattle.tva_shim.specs.declared.kinds.Kind.{Kind}
pub use Rattle.tva_shim.specs.declared.kinds.ReturnInfo.{ReturnInfo}
pub use Rattle.tva_shim.specs.declared.kinds.Shown.{Shown}
pub use Rattle.std.proofs.lemmas.Bool.Decides.{nat_tests}
pub use Rattle.std.proofs.lemmas.Grind.{common_steps}
