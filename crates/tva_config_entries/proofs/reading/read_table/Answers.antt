use Rattle.tva_config_entries.proofs.Common.{◌∙◌, sym, table_view, members_read, seen_top, seen_entries}
use Rattle.tva_config_entries.proofs.Staged.{members_staged}
use Rattle.tva_config_entries.proofs.Answered.{answered_there, error_told, fault_told, given, refused}
use Rattle.tva_config_entries.proofs.Seen.{counts_seen}
use Rattle.tva_config_entries.proofs.reading.read_table.Goals as goal

pub returns-in_err-top-clause-answer : goal.returns-in_err-top-clause-answer
returns-in_err-top-clause-answer c =
    error_told seen_entries (members_read (table_view c.args.table.now)) c.from_residual.result _ seen_top _ c.in_err-top.field-0.0 c.from_residual.ensures.1
    (sym (members_staged (table_view c.args.table.now))) c.in_err-top.ensures

pub returns-in_err-counts-clause-answer : goal.returns-in_err-counts-clause-answer
returns-in_err-counts-clause-answer c =
    fault_told seen_entries (members_read (table_view c.args.table.now)) c.from_residual-in_err-counts.result c.in_err-counts.field-0.0 c.from_residual-in_err-counts.ensures.1
    (sym (members_staged (table_view c.args.table.now))
    ∙ given _ _ _ c.in_ok-top.ensures
    ∙ refused _ _ _ (sym (c.in_err-counts.ensures.answer ∙ counts_seen c.in_ok-top.top)))

pub returns-clause-answer : goal.returns-clause-answer
returns-clause-answer c =
    answered_there seen_entries (members_read (table_view c.args.table.now)) _ c.all_entries.result
    (sym (members_staged (table_view c.args.table.now))
    ∙ given _ _ _ c.in_ok-top.ensures
    ∙ given _ _ _ (sym (c.in_ok-counts.ensures.answer ∙ counts_seen c.in_ok-top.top)))
    c.all_entries.ensures.answer
