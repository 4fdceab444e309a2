-- What several proofs of this crate name, by where it stands.
pub use Rattle.std.proofs.Common.{◌≡◌, ℕ, ◌+◌, ◌≤◌, List, [], ◌∷◌, ◌++◌, length, take, drop, get_or, refl, sym, ap, subst, ◌∙◌, inl, inr, arith, length-append, length-drop, rules}
pub use Rattle.std.proofs.lemmas.Result.{err_from_is_err_and}
pub use Rattle.std.specs.Prelude.{◌⊎◌}
pub use Rattle.tva_rows.specs.Brief.{AreHeld, Grows, IsLayoutAt, IsWhatHeld, part, row_in, rows_in, shim_in, told_by, what_in}
pub use Rattle.tva_rows.specs.declared.brief.BriefRow.{BriefRow}
pub use Rattle.tva_shim.specs.Layout.{HaveNoShim}
unfoldable pub use Rattle.tva_shim.specs.Layout.{layout}
