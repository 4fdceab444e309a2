use Rattle.tva_rows.proofs.Common.{ℕ, List, sym, ◌∙◌, ap, shim_in, what_in}
use Rattle.tva_rows.specs.declared.rows.RowWhat.TheVariants as says
use Rattle.tva_rows.proofs.brief.brief_beside.Goals as goal

pub returns-in_ok-start-in-Shim-clause-same : goal.returns-in_ok-start-in-Shim-clause-same
returns-in_ok-start-in-Shim-clause-same c =
    ap (λ (b : List ℕ). says.Inject c.in-Shim.flow c.in-Shim.payload (shim_in b)) c.in_ok-start-in-Shim.ensures.same
    ∙ ap (what_in c.args.others.now) (sym c.in-Shim.is)
