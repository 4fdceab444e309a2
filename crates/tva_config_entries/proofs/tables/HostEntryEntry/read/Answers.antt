use Rattle.tva_config_entries.proofs.Common.{◌∙◌, sym, table_view, host_of}
use Rattle.tva_config_entries.proofs.Answered.{error_told, fault_told, given}
use Rattle.tva_config_entries.proofs.tables.HostEntryEntry.read.Goals as goal

pub returns-in_err-only_listed : goal.returns-in_err-only_listed
unfolding host_of
returns-in_err-only_listed c =
    fault_told (λ x. x) (host_of c.args.version c.args.place (table_view c.args.table.now)) c.from_residual.result c.in_err-only_listed.field-0.0 c.from_residual.ensures.1 (rw (← c.in_err-only_listed.ensures))

pub returns-in_err-name : goal.returns-in_err-name
unfolding host_of
returns-in_err-name c =
    fault_told (λ x. x) (host_of c.args.version c.args.place (table_view c.args.table.now)) c.from_residual-in_err-name.result c.in_err-name.field-0.0 c.from_residual-in_err-name.ensures.1 (rw (← c.in_ok-only_listed.ensures, ← c.in_err-name.ensures))

pub returns-in_err-address : goal.returns-in_err-address
unfolding host_of
returns-in_err-address c =
    fault_told (λ x. x) (host_of c.args.version c.args.place (table_view c.args.table.now)) c.from_residual-in_err-address.result c.in_err-address.field-0.0 c.from_residual-in_err-address.ensures.1 (rw (← c.in_ok-only_listed.ensures, ← c.in_ok-name.ensures, ← c.in_err-address.ensures))

pub returns-in_err-nonce : goal.returns-in_err-nonce
unfolding host_of
returns-in_err-nonce c =
    fault_told (λ x. x) (host_of c.args.version c.args.place (table_view c.args.table.now)) c.from_residual-in_err-nonce.result c.in_err-nonce.field-0.0 c.from_residual-in_err-nonce.ensures.1 (rw (← c.in_ok-only_listed.ensures, ← c.in_ok-name.ensures, ← c.in_ok-address.ensures, ← c.in_err-nonce.ensures))

pub returns-in_err-margin : goal.returns-in_err-margin
unfolding host_of
returns-in_err-margin c =
    fault_told (λ x. x) (host_of c.args.version c.args.place (table_view c.args.table.now)) c.from_residual-in_err-margin.result c.in_err-margin.field-0.0 c.from_residual-in_err-margin.ensures.1 (rw (← c.in_ok-only_listed.ensures, ← c.in_ok-name.ensures, ← c.in_ok-address.ensures, ← c.in_ok-nonce.ensures, ← c.in_err-margin.ensures))

pub returns-in_err-retry : goal.returns-in_err-retry
unfolding host_of
returns-in_err-retry c =
    fault_told (λ x. x) (host_of c.args.version c.args.place (table_view c.args.table.now)) c.from_residual-in_err-retry.result c.in_err-retry.field-0.0 c.from_residual-in_err-retry.ensures.1 (rw (← c.in_ok-only_listed.ensures, ← c.in_ok-name.ensures, ← c.in_ok-address.ensures, ← c.in_ok-nonce.ensures, ← c.in_ok-margin.ensures, ← c.in_err-retry.ensures))

pub returns-in_err-policy : goal.returns-in_err-policy
unfolding host_of
returns-in_err-policy c =
    error_told (λ x. x) (host_of c.args.version c.args.place (table_view c.args.table.now)) c.from_residual-in_err-policy.result _ (λ x. x) _ c.in_err-policy.field-0.0 c.from_residual-in_err-policy.ensures.1
    (given _ _ _ (sym c.in_ok-only_listed.ensures)
    ∙ given _ _ _ (sym c.in_ok-name.ensures)
    ∙ given _ _ _ (sym c.in_ok-address.ensures)
    ∙ given _ _ _ (sym c.in_ok-nonce.ensures)
    ∙ given _ _ _ (sym c.in_ok-margin.ensures)
    ∙ given _ _ _ (sym c.in_ok-retry.ensures))
    c.in_err-policy.ensures

pub returns : goal.returns
unfolding host_of
returns c =
    rw (← c.in_ok-only_listed.ensures, ← c.in_ok-name.ensures, ← c.in_ok-address.ensures, ← c.in_ok-nonce.ensures, ← c.in_ok-margin.ensures, ← c.in_ok-retry.ensures, c.in_ok-policy.ensures)
