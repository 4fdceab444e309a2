use Rattle.tva_run.proofs.Common.{◌∙◌, ap, line_of, lines_of}
use Rattle.std.proofs.lemmas.Grind.{flat_map-append}
use Rattle.tva_run.proofs.Runs.{are_delayed}
use Rattle.tva_run.proofs.Reports.{events_begin}
use Rattle.tva_run.proofs.laws.events_go_on.Goals as goal

pub returns : goal.returns
returns c = λ config rows time until first told valid early a b.
    let (rest, e) = events_begin config rows (are_delayed config valid) time until first told early a b in
    (rest, e, ap (lines_of config) e ∙ flat_map-append (line_of config) first rest)
