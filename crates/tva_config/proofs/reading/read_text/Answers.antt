use Rattle.tva_config.proofs.Common.{◌∙◌, refl, sym, read_of, seen_entries, answered_there, error_told, given}
use Rattle.tva_config.proofs.Staged.{plan_staged}
use Rattle.tva_config.proofs.reading.read_text.Goals as goal

pub returns-in_err-entries : goal.returns-in_err-entries
unfolding read_of
returns-in_err-entries c =
    error_told (λ x. x) (read_of c.args.text.now) c.from_residual.result _ seen_entries _ c.in_err-entries.field-0.0 c.from_residual.ensures.1
    refl c.in_err-entries.ensures.answer

pub returns : goal.returns
unfolding read_of
returns c =
    answered_there (λ x. x) (read_of c.args.text.now) _ c.plan.result
    (given _ _ _ c.in_ok-entries.ensures.answer ∙ sym (plan_staged (seen_entries c.in_ok-entries.entries))) c.plan.ensures
