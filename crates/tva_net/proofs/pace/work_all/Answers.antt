use Rattle.tva_net.proofs.Common.{◌∙◌, sym, arith, Keeps, AllZip-long}
use Rattle.tva_net.proofs.Worked.{all_advanced}
use Rattle.tva_net.proofs.pace.work_all.Goals as goal

pub note_all-requires-clause-few : goal.note_all-requires-clause-few
note_all-requires-clause-few g c = let n = AllZip-long Keeps c.args.nodes.now c.work_parts.new.nodes c.in_ok-work_parts.ensures.kept in omega (arith, n, c.requires.few)

pub note_all-requires-clause-count : goal.note_all-requires-clause-count
note_all-requires-clause-count g c = c.requires.noted.count ∙ sym (AllZip-long Keeps c.args.nodes.now c.work_parts.new.nodes c.in_ok-work_parts.ensures.kept)

pub returns-clause-through : goal.returns-clause-through
returns-clause-through g c =
    all_advanced c.args.until.0 c.args.nodes.now c.work_parts.new.nodes c.in_ok-places.places.items c.requires.reach c.in_ok-work_parts.ensures.ok c.in_ok-work_parts.ensures.kept c.in_ok-places.ensures
