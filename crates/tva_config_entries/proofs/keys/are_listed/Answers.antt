use Rattle.tva_config_entries.proofs.Common.{◌∙◌, map}
use Rattle.tva_config_entries.proofs.Listed.{names_listed}
use Rattle.tva_config_entries.proofs.keys.are_listed.Goals as goal

pub returns : goal.returns
returns c = c.have_all.ensures ∙ names_listed (map (λ key. key.now) c.args.listed.now) c.args.table.now
