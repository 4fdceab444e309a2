-- What several proofs of this crate name, by where it stands.
pub use Rattle.std.proofs.Common.{ℕ, zero, suc, ◌^◌, ◌<◌, List, arith, lit<, slice_index, ◌≡◌, ◌+◌, ◌≤◌, Bool, true, false, cond, [], ◌∷◌, ◌++◌, length, Option, Some, None, Result, Ok, Err, refl, sym, ap, subst, ◌∙◌, append_assoc, ◌==◌, IfSome, ◌&&◌, inl, inr, get_or, drop, drop-cons, add-one, IfOk, ◌-◌, Bor, eq-eqb, ◌⊎◌, rules}
pub use Rattle.std.proofs.lemmas.Bool.{and_right, ltb-true, le-leb, eqb-true}
pub use Rattle.std.proofs.lemmas.Bool.Decides.{eqb_tells, leb_tells}
pub use Rattle.std.proofs.lemmas.List.{append-nil, drop_all, length_push}
pub use Rattle.std.specs.List.{AllZip, slice_split}
pub use Rattle.std.specs.Option.{option_and_then, unwrap_or}
pub use Rattle.std.specs.Prelude.{nat_le, nat_eq, All}
pub use Rattle.csv.proofs.ReadFacts.{rows-end, rows-more}
pub use Rattle.csv.specs.Reading.{ExplainsRead, ReadRecord, Ready, default_config, source_of, strip_bom, records_next, error_kind, with_flexible}
pub use Rattle.csv.specs.declared.reader.Reader.{Reader}
pub use Rattle.tva_plan.specs.Names.{is_host}
unfoldable pub use Rattle.tva_plan.specs.Names.{node_named}
pub use Rattle.tva_plan.specs.declared.config.Config.{Config}
pub use Rattle.tva_plan.specs.declared.config.NodePlan.{NodePlan}
pub use Rattle.tva_rows.specs.Raw.{CarriedByBytes}
pub use Rattle.tva_rows.specs.Valid.{files_at, begins, AreTraceRows, IsRow, IsRowWhat, NeverFall}
pub use Rattle.tva_rows.specs.declared.rows.Row.{Row}
pub use Rattle.tva_rows.specs.declared.rows.RowWhat.{RowWhat}
pub use Rattle.tva_shim.proofs.Readable.{one_shim, some_bytes, shim_or_none}
pub use Rattle.tva_shim.specs.declared.packets.Carried.{Carried}
pub use Rattle.tva_trace.specs.Files.{FindsRoom, Counts, counted, filed_in}
pub use Rattle.tva_trace.specs.Items.{each_of, few, items_in}
unfoldable pub use Rattle.tva_trace.specs.Items.{row_shim, caps_of_items, item_of}
pub use Rattle.tva_trace.specs.Meaning.{AreRows, Means, MeansWhat, CarriedBy, IsPut}
pub use Rattle.tva_trace.specs.Rows.{Ruled, allowed, behind, demand, row_fault, filed_by, has_room, hold, is_header, positive, records_in, then_rows, times, what_of, rows_of, said_by, some_row}
unfoldable pub use Rattle.tva_trace.specs.Rows.{filing_of, injection_of, kind_at, row_kind, row_of, rows_from, rows_under, sending_of, ticking_of}
pub use Rattle.tva_trace.proofs.Valid.{IsSaid, IsSaidWhat, IsSaidShim, IsAllowed}
pub use Rattle.tva_trace.specs.declared.rows.TraceFault.{TraceFault}
pub use Rattle.tva_trace.specs.declared.rows.TraceRule.{TraceRule}
pub use Rattle.tva_trace.specs.declared.said.SaidRow.{SaidRow}
pub use Rattle.tva_trace.specs.declared.said.SaidShim.{SaidShim}
pub use Rattle.tva_trace.specs.declared.said.SaidShim.TheVariants.{Bytes, Built}
pub use Rattle.tva_trace.specs.declared.said.SaidWhat.{SaidWhat}
