use Rattle.tva_waiting.proofs.Common.{arith, nat_tests, set, refl, ◌∙◌, ap, Lanes}
use Rattle.tva_waiting.proofs.Held.{row_taken, rows_wait}
use Rattle.tva_waiting.proofs.lanes.Lanes.take_turn.Goals as goal

pub unreachable-requires : goal.unreachable-requires
unreachable-requires c = grind (arith, nat_tests, rows_wait)

pub returns-clause-taken : goal.returns-clause-taken
returns-clause-taken c =
    let w = c.args.self.now in
    let v : Lanes = record { rows = c.pop_front.new.self; layouts = w.layouts; list = w.list; sources = w.sources; heads = c.put.new.self; places = w.places; alloc = w.alloc } in
    row_taken w v c.requires.waiting refl refl refl refl c.in-Some.turn c.requires.row c.in-Some.ensures.items (c.put.ensures ∙ ap (λ n. set w.heads 0 n) (c.rows_head-head.ensures w.layouts.items))
