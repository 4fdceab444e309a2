-- What several proofs of this crate name, by where it stands.
pub use Rattle.std.proofs.Common.{◌≡◌, Bool, true, false, cond, List, [], ◌∷◌, Option, Some, None, ℕ, ◌<◌, ◌≤◌, length, get_or, refl, sym, ap, subst, ◌∙◌, zero, suc, arith}
pub use Rattle.std.specs.Prelude.{◌||◌, All, Contains, map, ◌%◌, ◌^◌, ◌-◌}
