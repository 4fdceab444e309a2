use Rattle.tva_net.proofs.Common.{arith, All-from_recursion, Stands}
use Rattle.std.proofs.Common.{length-set}
use Rattle.tva_net.proofs.Worked.{kept_at, worked_at}
use Rattle.tva_net.proofs.Mails.{same_but}
use Rattle.tva_net.proofs.Noted.{noted_after}
use Rattle.tva_net.proofs.due.work_one.Goals as goal

pub advance-requires : goal.advance-requires
advance-requires c = All-from_recursion Stands c.args.nodes.now c.requires.stand c.args.place c.index-nodes-place.result c.requires.place

pub returns-in_err-advance-clause-kept : goal.returns-in_err-advance-clause-kept
returns-in_err-advance-clause-kept c = kept_at c.args.nodes.now c.args.place c.index-nodes-place.result c.advance.new.self c.requires.place c.in_err-advance.ensures.keeps

pub note-requires-clause-few : goal.note-requires-clause-few
note-requires-clause-few c = let n = length-set c.args.nodes.now c.args.place c.advance.new.self in omega (arith, n, c.requires.few)

pub note-requires-clause-place : goal.note-requires-clause-place
note-requires-clause-place c = let n = length-set c.args.nodes.now c.args.place c.advance.new.self in omega (arith, n, c.requires.place)

pub note-requires-clause-count : goal.note-requires-clause-count
note-requires-clause-count c = let n = length-set c.args.nodes.now c.args.place c.advance.new.self in let k = c.requires.noted.count in omega (arith, n, k)

pub returns-clause-worked : goal.returns-clause-worked
returns-clause-worked c =
    worked_at c.args.until.0 c.args.nodes.now c.args.place c.index-nodes-place.result c.advance.new.self c.requires.place
    (record { stands = c.in_ok-advance.ensures.stands; upto = c.in_ok-advance.ensures.upto }) c.in_ok-advance.ensures.keeps

pub returns-clause-noted : goal.returns-clause-noted
returns-clause-noted c =
    noted_after c.args.place c.args.times.now c.note.new.times c.args.nodes.now _ c.requires.noted (same_but c.args.place c.args.nodes.now c.advance.new.self) c.note.ensures

pub returns-clause-kept : goal.returns-clause-kept
returns-clause-kept c = kept_at c.args.nodes.now c.args.place c.index-nodes-place.result c.advance.new.self c.requires.place c.in_ok-advance.ensures.keeps
