-- What several proofs of this crate name, by where it stands.
pub use Rattle.std.proofs.Common.{◌≡◌, ◌∙◌, sym, ap, refl, ℕ, suc, ◌+◌, ◌<◌, List, [], ◌∷◌, length, get_or, drop, drop-cons, cond, true, false, Bool, Option, Some, None, IfSome, arith, add-one, ◌≤◌, ◌==◌, zero, slice_get, All, Contains, subst, ◌*◌, ◌^◌, take, sum_by, zero-add}
pub use Rattle.tva_plan.specs.Counts.{routes_in, slots_in}
pub use Rattle.tva_plan.specs.Names.{name_at, named_from, is_host_plan}
unfoldable pub use Rattle.tva_plan.specs.Names.{node_named}
