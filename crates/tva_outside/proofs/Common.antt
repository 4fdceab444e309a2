-- What several proofs of this crate name, by where it stands.
pub use Rattle.std.proofs.Common.{◌≡◌, ℕ, List, [], ◌∷◌, refl, sym, ap, ◌∙◌, Bool, true, false, cond, None, Some, String, Vec, Bor, string_bytes, ◌+◌, ◌-◌, ◌++◌, length, take, drop, append_assoc, arith, length-drop, rules, length-take, ◌≤◌, vec_len}
pub use Rattle.std.specs.Io.KnownBytes.{append_known, Consumes}
pub use Rattle.std.specs.Option.{option_map, option_copied}
pub use Rattle.std.specs.declared.option.Option.{Option}
pub use Rattle.tva_outside.specs.HeldFiles.{held_of, held_in}
