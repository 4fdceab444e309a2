-- What several proofs of this crate name, by where it stands.
pub use Rattle.std.proofs.Common.{ℕ, zero, suc, ◌<◌, List, [], ◌∷◌, ◌++◌, get_or, arith, ◌≡◌, ◌+◌, ◌-◌, ◌≤◌, Bool, true, false, cond, ltb, leb, ap, sym, ◌∙◌, subst, refl, ◌*◌, ◌/◌, ◌%◌, ◌^◌, take}
pub use Rattle.std.proofs.Math.Nat.{mod-lt, add-sub_cancel}
pub use Rattle.tva_base.specs.declared.packet.Flow.{Flow}
pub use Rattle.tva_base.specs.declared.packet.Rights.{Rights}
pub use Rattle.tva_caps.specs.Formula.{stamp_at, stamp_of}
unfoldable pub use Rattle.tva_caps.specs.Formula.{age_of, capability_of, precap_of, precap_under, stamped}
