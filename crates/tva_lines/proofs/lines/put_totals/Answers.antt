use Rattle.tva_lines.proofs.Common.{◌++◌, ◌∷◌, []}
use Rattle.std.proofs.Common.{codes, decimal}
use Rattle.tva_lines.proofs.Joins.{put_in_parts}
use Rattle.tva_lines.proofs.lines.put_totals.Goals as goal

pub returns-clause-text : goal.returns-clause-text
returns-clause-text c =
    let t = c.args.totals.now in
    let traffic = (codes "started=" ++ decimal t.started) ∷ (codes "received=" ++ decimal t.received) ∷ (codes "bytes=" ++ decimal t.bytes) ∷ [] in
    let work = (codes "events=" ++ decimal t.events) ∷ (codes "routed=" ++ decimal t.routed) ∷ (codes "authorised=" ++ decimal t.authorised) ∷ (codes "demoted=" ++ decimal t.demoted) ∷ [] in
    put_in_parts 32 (codes "total") work (codes "dropped=" ++ decimal t.dropped) traffic _ _ _ c.put_work.ensures.bytes c.push_str.ensures.bytes c.put_traffic.ensures.bytes
