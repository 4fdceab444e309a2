-- What several proofs of this crate name, by where it stands.
pub use Rattle.std.proofs.Common.{◌≡◌, ◌∙◌, sym, ap, ℕ, List, [], ◌∷◌, ◌++◌, append_assoc, map, ◌-◌, ◌≤◌, take, drop, length, get_or, arith, ◌⊎◌, inl, inr, refl, codes, string_bytes}
pub use Rattle.std.specs.List.{flat_map, join_with_byte}
pub use Rattle.tva_shim_text.specs.ShimText.{or_dash, IsTextOf, entry_word, digits_of}
unfoldable pub use Rattle.tva_shim_text.specs.ShimText.{shim_line}
