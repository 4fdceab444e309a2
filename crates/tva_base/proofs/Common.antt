-- What several proofs of this crate name, by where it stands.
pub use Rattle.std.proofs.Common.{refl, ◌≡◌, ℕ, ◌+◌, ◌-◌, ◌*◌, ◌^◌, ◌<◌, ◌≤◌, Bool, true, false, List, [], ◌∷◌, ◌++◌, length, take, drop, get_or, add-one, arith, length-append, sym, ap, ◌∙◌, zero, suc, cond, Option, Some, None, ◌%◌, ◌/◌, eqb, leb, subst}
pub use Rattle.std.proofs.Math.Nat.{pow-suc, pow-le-pow_right, mul-mod_left, div-add-mod', mod-eq_of_lt, mul-add-mod_self_right}
pub use Rattle.std.proofs.lemmas.Bool.{and_from, and_parts, le-leb, leb-true, both_ways}
pub use Rattle.std.proofs.lemmas.Bool.Decides.{nat_tests}
pub use Rattle.std.proofs.lemmas.List.{take_more, take-append-drop, length-take-le}
pub use Rattle.std.specs.Char.{is_ascii_digit}
pub use Rattle.std.specs.List.{list_all, position_or_len}
pub use Rattle.std.specs.Prelude.{◌&&◌, ◌==◌, not, nat_le, nat_lt, position}
pub use Rattle.tva_base.specs.Decimal.{number_in, is_decimal, has_leading_zero}
unfoldable pub use Rattle.tva_base.specs.Decimal.{decimal_of, plain_decimal_of}
pub use Rattle.tva_base.specs.Versions.{AreRights, AreSomeRights, carries, rights_number, rights_size, seconds_max, units_max, version_for}
