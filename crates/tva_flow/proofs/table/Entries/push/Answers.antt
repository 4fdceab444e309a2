use Rattle.tva_flow.proofs.Common.{[], ◌∷◌, ◌++◌, ap, Kept, kept}
use Rattle.tva_flow.proofs.table.Entries.push.Goals as goal

pub returns : goal.returns
returns c = rw c.push_reserved.ensures.items (ap (λ (v : Kept). kept v.slots v.key (v.items ++ c.args.entry ∷ [])) c.self.view_is)
