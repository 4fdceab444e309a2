-- What several proofs of this crate name, by where it stands.
pub use Rattle.std.proofs.Common.{◌≡◌, ◌⊎◌, inl, inr, ℕ, List, Err, Ok, refl, sym, ◌∙◌, subst, None, Some, ◌++◌, ap, IfSome, ◌≤◌, ◌+◌, ◌<◌, Bool, true, false, cond, [], ◌∷◌, length, arith, All, append_assoc, append-nil, suc, ◌/◌, take, drop, codes, decimal, Result, ap₂, OnOk, ◌-◌, rules}
pub use Rattle.std.proofs.Math.Seq.{take-append-add, take-append_seam, take-length}
pub use Rattle.std.proofs.lemmas.Bool.{cases_Bool, cases_lt}
pub use Rattle.std.proofs.lemmas.Bool.Decides.{nat_tests}
pub use Rattle.std.proofs.lemmas.Grind.{flat_map-append}
pub use Rattle.std.proofs.lemmas.List.{append_cancel_left, take-append-drop}
pub use Rattle.std.specs.List.{list_all, list_any, join_with_byte, flat_map}
pub use Rattle.std.specs.Option.{option_map, option_map_or}
pub use Rattle.std.specs.Prelude.{IsSomeAnd, nat_lt}
pub use Rattle.std.specs.declared.option.Option.{Option}
pub use Rattle.tva.specs.Answer.{Answers, Just, OfCommand, WroteAll, WrotePart, IsRefusal, HasFound, WroteCut, WroteLines, IsBegunText}
pub use Rattle.tva.specs.Asked.{asked}
pub use Rattle.tva.specs.Audit.{worst_word, sum_line, audit_text}
unfoldable pub use Rattle.tva.specs.Check.{check_line}
pub use Rattle.tva.specs.Command.{audit, Command, command_of, replay, shim, check, gen, texts}
pub use Rattle.tva.specs.Expected.{IsText, audits, comes_to, file_at, plan_at, refuses, trace_at, Expected, replays, Sought, within_limit, writes, shows, Ends, followed, ◌>>=◌, report_at, EndsAudit, EndsReplay}
pub use Rattle.tva.specs.Given.{AgreeSince, OfFiles, IsTold, WasTaken, WereAsked, files_of}
pub use Rattle.tva.specs.Parts.{EndsAudited, IsAudited, IsAuditText, IsFound, IsNotFound, IsWritten, IsCut, WasAsked, IsReplayed, ended_by}
pub use Rattle.tva.specs.Wanted.{wanted, OfWanted, Settles, SettlesRefusal, HasOneEnd}
pub use Rattle.tva.specs.declared.status.Status.TheVariants.{Done, WriteFault, EventLimit, OutOfMemory, BadReport, ReadFault, TooLarge, Usage, BadConfig, BadTrace}
pub use Rattle.tva_audit.proofs.OneAnswer.{same_report}
pub use Rattle.tva_audit.proofs.Worked.{IsNext, begun, goes_on, on, IsAfoot}
pub use Rattle.tva_audit.specs.Audit.{IsDifference, IsAudit}
pub use Rattle.tva_audit.specs.declared.routers.RouterSum.{RouterSum}
pub use Rattle.tva_base.specs.declared.event.Event.{Event}
unfoldable pub use Rattle.tva_gen.specs.Text.{generated}
pub use Rattle.tva_laws.proofs.Whole.{traced_report, traced_events}
pub use Rattle.tva_lines.specs.Lines.{line_of, summary_of, text_of_totals, ended, name_of_node}
pub use Rattle.tva_net.specs.declared.kinds.NetError.{NetError}
pub use Rattle.tva_outside.specs.Faults.{Rose}
pub use Rattle.tva_outside.specs.Held.{HeldByName, bytes_at}
pub use Rattle.tva_outside.specs.Loads.{Load, Given, bytes, failure, too_many, no_memory, Agrees, Holds}
pub use Rattle.tva_plan.specs.Valid.{IsConfig}
pub use Rattle.tva_plan.specs.declared.config.Config.{Config}
pub use Rattle.tva_report.proofs.Differing.{same_of_none, none_of_same}
pub use Rattle.tva_report.specs.Differences.{first_difference}
pub use Rattle.tva_report.specs.Lines.{first_bad, is_feed, pieces, report_lines, text_of}
pub use Rattle.tva_report.specs.declared.differences.Finding.{Finding}
pub use Rattle.tva_rows.specs.declared.rows.Row.{Row}
pub use Rattle.tva_run.proofs.Reports.{events_begin, one_list, no_more_events}
pub use Rattle.tva_run.proofs.Runs.{are_delayed}
pub use Rattle.tva_run.specs.Report.{AreEventsTo, IsReport, lines_of}
unfoldable pub use Rattle.tva_run.specs.Report.{report_of, totals_of}
pub use Rattle.tva_run.specs.Shown.{IsBegun, IsCutShort, all_of, HasReport, IsPastLimit, IsWithinLimit}
pub use Rattle.tva_trace.proofs.OneList.{rows_are_one}
pub use Rattle.tva_trace.specs.Meaning.{AreRows}
pub use Rattle.tva_trace.specs.Rows.{rows_of}
pub use Rattle.tva_trace.specs.declared.said.SaidRow.{SaidRow}
