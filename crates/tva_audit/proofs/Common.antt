-- What several proofs of this crate name, by where it stands.
pub use Rattle.std.proofs.Common.{◌≡◌, ℕ, suc, ◌+◌, ◌*◌, ◌<◌, List, [], ◌∷◌, length, get_or, map, filter, All, Bool, true, false, cond, Some, refl, sym, ◌∙◌, ap, subst, arith, inl, inr, append-nil, ◌⊎◌, None, Result, Ok, Err, ◌/◌, ◌%◌, ◌≤◌, ◌++◌, take, Option, ap₂, ◌≢◌, set, drop, append_assoc, length-set, is_some, length-append, ◌-◌, rules}
pub use Rattle.std.proofs.lemmas.Bool.{cases_Bool, eq-eqb, eqb-true, ne_eqb}
pub use Rattle.std.proofs.lemmas.Grind.{div_ceil_times, flat_map-append}
pub use Rattle.std.proofs.lemmas.List.{take_all, take_more, drop_more, get_or-set_other, get_or-set_same, length_push, map-append, length-map, with_items_is}
pub use Rattle.std.proofs.lemmas.List.Elements.{All-from_recursion, recursion_from_All, filter_map-append, All-append, filter-append, All-map}
pub use Rattle.std.proofs.lemmas.List.Sums.{sum_by-cons}
pub use Rattle.std.proofs.lemmas.Option.{slice_get-get_or}
pub use Rattle.std.specs.Fork.{slice_chunk}
pub use Rattle.std.specs.List.{AllByRecursion, cons_option}
pub use Rattle.std.specs.Option.{option_map, option_map_or}
pub use Rattle.std.specs.Prelude.{◌==◌, IfSome, not, slice_get, sum_by, min, IfOk, codes, OnOk, is_err, IfErr, slice_index_or}
pub use Rattle.std.specs.declared.alloc.AllocError.{AllocError}
pub use Rattle.std.specs.declared.alloc.Global.{Global}
pub use Rattle.std.specs.declared.vec.Vec.{Vec}
pub use Rattle.tva_audit.specs.Audit.{IsAudit, IsDifference, HasSums}
pub use Rattle.tva_audit.specs.Chunks.{AreParts}
pub use Rattle.tva_audit.specs.Followed.{Follows, HasFollowed, left}
pub use Rattle.tva_audit.specs.Sums.{IsBelowLimit, run_sums, sum_of_log, without_nonce, numbered, sum_told, sums_told}
pub use Rattle.tva_audit.specs.Tallies.{AreReady, AreTallied, IsTallied, restarts_at, sums_among}
pub use Rattle.tva_audit.specs.Worked.{Comes, HasHappened, IsBehind}
pub use Rattle.tva_audit.specs.declared.audits.AuditError.{AuditError}
pub use Rattle.tva_audit.specs.declared.audits.AuditError.TheVariants.{BadReport, EventLimit, OutOfMemory}
pub use Rattle.tva_audit.specs.declared.audits.Audited.{Audited}
pub use Rattle.tva_audit.specs.declared.audits.Audited.TheVariants.{Same, Differs}
pub use Rattle.tva_audit.specs.declared.routers.RouterSum.{RouterSum}
pub use Rattle.tva_base.specs.Printable.{IsLine, IsPrintable}
pub use Rattle.tva_base.specs.declared.event.Event.{Event}
pub use Rattle.tva_base.specs.declared.event.Totals.{Totals}
pub use Rattle.tva_base.specs.declared.packet.Grant.{Grant}
pub use Rattle.tva_base.specs.declared.packet.Time.{Time}
pub use Rattle.tva_lines.specs.Lines.{line_of, text_of_event, summary_of, text_of_totals, HasEvent}
pub use Rattle.tva_net.specs.Nets.{NetState}
pub use Rattle.tva_net.specs.declared.kinds.NetError.{NetError}
pub use Rattle.tva_node.specs.States.{NodeState, restarts_in, router_number}
pub use Rattle.tva_plan.specs.Valid.{IsConfig}
pub use Rattle.tva_plan.specs.Wiring.{picked}
pub use Rattle.tva_plan.specs.declared.config.Config.{Config}
pub use Rattle.tva_plan.specs.declared.config.NodePlan.{NodePlan}
pub use Rattle.tva_plan.specs.declared.config.NodePlan.TheVariants.{Router, Host}
pub use Rattle.tva_report.proofs.Differing.{none_of_same, same_of_none}
pub use Rattle.tva_report.proofs.LinesBack.{good_made, lines_made, good_back, printable_made}
pub use Rattle.tva_report.specs.Ahead.{bad_ahead}
pub use Rattle.tva_report.specs.Charged.{boot_among, of_boot, charges_in, charged_in, charged_at}
pub use Rattle.tva_report.specs.Differences.{first_difference}
pub use Rattle.tva_report.specs.Lines.{report_lines, ended, first_bad, text_of}
pub use Rattle.tva_report.specs.Sums.{bytes_of_pair, charged_bytes, grant_and_sum, is_worse, limit_of, pair_of, pair_sums, pairs_in, same_pair, sums_of, worst_from, worst_of}
pub use Rattle.tva_report.specs.Table.{HasRoom, IsSound, StandsFor}
pub use Rattle.tva_report.specs.declared.charged.Charged.{Charged}
pub use Rattle.tva_report.specs.declared.differences.Finding.{Finding}
pub use Rattle.tva_report.specs.declared.sums.Tally.{Tally}
pub use Rattle.tva_rows.specs.declared.rows.Row.{Row}
pub use Rattle.tva_run.proofs.Joins.{filter-true, filter-false}
pub use Rattle.tva_run.specs.Entries.{Entry, Took, input_time}
pub use Rattle.tva_run.specs.Joins.{from_source}
pub use Rattle.tva_run.specs.Parts.{charges, charge_of}
pub use Rattle.tva_run.specs.Reaching.{Logs, links_out, log_at, site_at}
pub use Rattle.tva_run.specs.Report.{IsReport, event_node, lines_of, AreEvents, AreEventsTo}
unfoldable pub use Rattle.tva_run.specs.Report.{report_of, totals_of}
pub use Rattle.tva_run.specs.Shown.{HasReport, IsPastLimit, all_of, AreLines, IsCutShort}
pub use Rattle.tva_run.specs.Sites.{Site, site_of}
