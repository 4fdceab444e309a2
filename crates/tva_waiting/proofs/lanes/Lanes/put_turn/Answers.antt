use Rattle.tva_waiting.proofs.Common.{rules, set, refl, ◌∙◌, ap, Lanes}
use Rattle.tva_waiting.proofs.Held.{row_waits, rows_in_order}
use Rattle.tva_waiting.proofs.lanes.Lanes.put_turn.Goals as goal

pub put_in_turn-at-requires-clause-order : goal.put_in_turn-at-requires-clause-order
put_in_turn-at-requires-clause-order c = rows_in_order c.args.self.now.layouts.items c.args.self.now.rows.items c.requires.waiting.queues.0.in_order

pub returns-then-at-eq0 : goal.returns-then-at-eq0
returns-then-at-eq0 c =
    let w = c.args.self.now in
    let v : Lanes = record { rows = c.put_in_turn-at.new.items; layouts = w.layouts; list = w.list; sources = w.sources; heads = c.put.new.self; places = w.places; alloc = w.alloc } in
    row_waits w v c.requires.waiting refl refl refl refl c.args.turn c.put_in_turn-at.result (search rules) c.requires.held c.put_in_turn-at.ensures.put c.put_in_turn-at.ensures.at c.put_in_turn-at.ensures.within (λ e. c.put.ensures ∙ ap (λ n. set w.heads 0 n) c.key_of.ensures) (λ n. absurd (n c.if-at-eq0.true))

pub returns-else-at-eq0 : goal.returns-else-at-eq0
returns-else-at-eq0 c =
    let w = c.args.self.now in
    let v : Lanes = record { rows = c.put_in_turn-at.new.items; layouts = w.layouts; list = w.list; sources = w.sources; heads = w.heads; places = w.places; alloc = w.alloc } in
    row_waits w v c.requires.waiting refl refl refl refl c.args.turn c.put_in_turn-at.result (search rules) c.requires.held c.put_in_turn-at.ensures.put c.put_in_turn-at.ensures.at c.put_in_turn-at.ensures.within (λ e. absurd (c.if-at-eq0.false e)) (λ n. refl)
