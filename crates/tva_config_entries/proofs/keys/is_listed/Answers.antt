use Rattle.tva_config_entries.proofs.Common.{◌∙◌, sym}
use Rattle.tva_config_entries.proofs.Listed.{any_of_keys}
use Rattle.tva_config_entries.proofs.keys.is_listed.Goals as goal

pub returns : goal.returns
returns c = c.contains.ensures.value ∙ sym (any_of_keys c.args.name.now c.args.listed.now)
