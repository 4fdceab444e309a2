-- What several proofs of this crate name, by where it stands.
pub use Rattle.std.proofs.Common.{if◌then◌else◌, Ok, Err, OnOk, is_ok, ◌≡◌, ◌∙◌, ap, ℕ, List, [], ◌∷◌, ◌++◌, codes, append_assoc, arith, sym, refl, zero, suc, ◌-◌, ◌≤◌, ◌<◌, length, map, decimal, drop}
pub use Rattle.std.proofs.lemmas.List.{append-nil, length-map}
pub use Rattle.std.proofs.lemmas.Result.{on_ok_weaker}
pub use Rattle.rand_pcg.specs.Lcg.{Lcg}
pub use Rattle.tva_base.specs.declared.plan.HostPlan.{HostPlan}
pub use Rattle.tva_gen.specs.Hosts.{hosts_in, address_text}
pub use Rattle.tva_gen.specs.Rows.{joined}
unfoldable pub use Rattle.tva_gen.specs.Rows.{row_line, drawn_rows}
pub use Rattle.tva_gen.specs.Text.{row_count, header}
unfoldable pub use Rattle.tva_gen.specs.Text.{generated, generator_of}
