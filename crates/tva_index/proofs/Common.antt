-- What several proofs of this crate name, by where it stands.
pub use Rattle.std.proofs.Common.{◌≡◌, ℕ, ◌+◌, ◌<◌, ◌≤◌, List, length, get_or, set, Option, Some, None, sym, ◌∙◌, subst, inl, inr, arith, zero, suc, ◌*◌, ◌^◌, [], ◌∷◌, ◌++◌, refl, ap, ◌⊎◌, ◌-◌, ◌/◌, min, drop, replicate, map, ap₂, ◌%◌, vec_capacity, slice_index, Bool, false, eqb, take}
pub use Rattle.std.proofs.Math.Seq.{map-set_same, take-nil}
pub use Rattle.std.proofs.lemmas.Bool.{cases_lt, cases_eq, cases_order, eq-eqb, ne_eqb, eqb-true}
pub use Rattle.std.proofs.lemmas.List.{length-set, get_or_read, get_or-set_same, get_or-set_other, get_or_past, get_or_append_left, get_or_push, length_push, get_or-replicate, get_or-drop, get_or-map, length-drop, length-map, map-set, length-replicate, drop-set-lt, set-set, drop-set-add, drop-replicate}
pub use Rattle.std.specs.Option.{option_and_then, option_map}
pub use Rattle.tva_index.specs.Bits.{numbered, link_at, entry_at, link_by, spot, IsFree, IsKeyTree, IsMissing, HasKey, IsAbsent, bits_past, IsFound, IsBelow, led_to, way_on, unused_place, links_of, entries_of, IsLeafBelow, IsWithout, IsPut, IsWritten, IsEnd}
pub use Rattle.tva_index.specs.Buckets.{IsLastBelow, Placed}
pub use Rattle.tva_index.specs.KeyRing.{place_in, Ring, ring}
pub use Rattle.tva_index.specs.Links.{AreLinked, IsFirstAbove, IsWalk, link_of, with_last, with_before}
pub use Rattle.tva_index.specs.Lowest.{IsLeastPlace}
pub use Rattle.tva_index.specs.Numbers.{AreNumbered}
pub use Rattle.tva_index.specs.Tree.{IsNode, AreNodes, AreNodesBut}
pub use Rattle.tva_index.specs.declared.bits.Led.{Led}
pub use Rattle.tva_index.specs.declared.bits.Numbered.{Numbered}
