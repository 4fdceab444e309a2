use Rattle.tva_config_entries.proofs.keys.missing.Goals as goal

pub returns : goal.returns
returns c = c.fault.ensures
