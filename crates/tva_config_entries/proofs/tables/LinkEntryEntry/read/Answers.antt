use Rattle.tva_config_entries.proofs.Common.{table_view, link_of}
use Rattle.tva_config_entries.proofs.Answered.{fault_told}
use Rattle.tva_config_entries.proofs.tables.LinkEntryEntry.read.Goals as goal

pub returns-in_err-only_listed : goal.returns-in_err-only_listed
unfolding link_of
returns-in_err-only_listed c =
    fault_told (λ x. x) (link_of c.args.place (table_view c.args.table.now)) c.from_residual.result c.in_err-only_listed.field-0.0 c.from_residual.ensures.1 (rw (← c.in_err-only_listed.ensures))

pub returns-in_err-from : goal.returns-in_err-from
unfolding link_of
returns-in_err-from c =
    fault_told (λ x. x) (link_of c.args.place (table_view c.args.table.now)) c.from_residual-in_err-from.result c.in_err-from.field-0.0 c.from_residual-in_err-from.ensures.1 (rw (← c.in_ok-only_listed.ensures, ← c.in_err-from.ensures))

pub returns-in_err-to : goal.returns-in_err-to
unfolding link_of
returns-in_err-to c =
    fault_told (λ x. x) (link_of c.args.place (table_view c.args.table.now)) c.from_residual-in_err-to.result c.in_err-to.field-0.0 c.from_residual-in_err-to.ensures.1 (rw (← c.in_ok-only_listed.ensures, ← c.in_ok-from.ensures, ← c.in_err-to.ensures))

pub returns-in_err-ns_per_byte : goal.returns-in_err-ns_per_byte
unfolding link_of
returns-in_err-ns_per_byte c =
    fault_told (λ x. x) (link_of c.args.place (table_view c.args.table.now)) c.from_residual-in_err-ns_per_byte.result c.in_err-ns_per_byte.field-0.0 c.from_residual-in_err-ns_per_byte.ensures.1 (rw (← c.in_ok-only_listed.ensures, ← c.in_ok-from.ensures, ← c.in_ok-to.ensures, ← c.in_err-ns_per_byte.ensures))

pub returns-in_err-delay : goal.returns-in_err-delay
unfolding link_of
returns-in_err-delay c =
    fault_told (λ x. x) (link_of c.args.place (table_view c.args.table.now)) c.from_residual-in_err-delay.result c.in_err-delay.field-0.0 c.from_residual-in_err-delay.ensures.1 (rw (← c.in_ok-only_listed.ensures, ← c.in_ok-from.ensures, ← c.in_ok-to.ensures, ← c.in_ok-ns_per_byte.ensures, ← c.in_err-delay.ensures))

pub returns-in_err-tag : goal.returns-in_err-tag
unfolding link_of
returns-in_err-tag c =
    fault_told (λ x. x) (link_of c.args.place (table_view c.args.table.now)) c.from_residual-in_err-tag.result c.in_err-tag.field-0.0 c.from_residual-in_err-tag.ensures.1 (rw (← c.in_ok-only_listed.ensures, ← c.in_ok-from.ensures, ← c.in_ok-to.ensures, ← c.in_ok-ns_per_byte.ensures, ← c.in_ok-delay.ensures, ← c.in_err-tag.ensures))

pub returns-in_err-limits : goal.returns-in_err-limits
unfolding link_of
returns-in_err-limits c =
    fault_told (λ x. x) (link_of c.args.place (table_view c.args.table.now)) c.from_residual-in_err-limits.result c.in_err-limits.field-0.0 c.from_residual-in_err-limits.ensures.1 (rw (← c.in_ok-only_listed.ensures, ← c.in_ok-from.ensures, ← c.in_ok-to.ensures, ← c.in_ok-ns_per_byte.ensures, ← c.in_ok-delay.ensures, ← c.in_ok-tag.ensures, ← c.in_err-limits.ensures))

pub returns : goal.returns
unfolding link_of
returns c =
    rw (← c.in_ok-only_listed.ensures, ← c.in_ok-from.ensures, ← c.in_ok-to.ensures, ← c.in_ok-ns_per_byte.ensures, ← c.in_ok-delay.ensures, ← c.in_ok-tag.ensures, ← c.in_ok-limits.ensures)
