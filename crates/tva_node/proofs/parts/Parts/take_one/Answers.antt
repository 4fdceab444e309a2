use Rattle.tva_node.proofs.Common.{◌≡◌, ◌∷◌, [], map, Event, with_more, FromTrace, asked_by, state_of, TakesAt, queued_on}
use Rattle.tva_waiting.specs.Inputs.{arrived}
use Rattle.tva_node.proofs.Decides.{on_both}
use Rattle.tva_node.proofs.Taking.{take_fits, taken_then}
use Rattle.tva_node.proofs.parts.Parts.take_one.Goals as goal

pub take_row-requires-clause-fits : goal.take_row-requires-clause-fits
take_row-requires-clause-fits c =
    take_fits c.args.self.now c.args.now (FromTrace c.take_row-row.result) c.take_row-row.new.self c.requires.next c.requires.stands c.take_row-row.ensures

pub returns-then-is_row-clause-stands : goal.returns-then-is_row-clause-stands
returns-then-is_row-clause-stands c =
    let p = c.args.self.now in
    let q = c.note_taken.new.self in
    let told = c.in_ok-happened.happened in
    let event : Event = record { time = record { 0 = c.args.now }; node = p.number; happened = told } in
    on_both (q.log ≡ with_more p.log (event ∷ [])) (q.links ≡ map (asked_by (queued_on told) c.args.now) p.links) (TakesAt (state_of q) c.args.now) c.note_taken.result
    (λ log links. taken_then p c.args.now (FromTrace c.take_row-row.result) c.take_row-row.new.self c.requires.next c.requires.stands c.take_row-row.ensures told c.take_row.new.self
    c.in_ok-happened.ensures.took c.in_ok-happened.ensures.plan c.in_ok-happened.ensures.last q log links c.note_taken.ensures.same)
    c.note_taken.ensures.log c.note_taken.ensures.links

pub returns-clause-stands : goal.returns-clause-stands
returns-clause-stands c =
    let p = c.args.self.now in
    let q = c.note_taken-2.new.self in
    let told = c.in_ok-happened-2.happened in
    let event : Event = record { time = record { 0 = c.args.now }; node = p.number; happened = told } in
    on_both (q.log ≡ with_more p.log (event ∷ [])) (q.links ≡ map (asked_by (queued_on told) c.args.now) p.links) (TakesAt (state_of q) c.args.now) c.note_taken-2.result
    (λ log links. taken_then p c.args.now (arrived c.take_flight-flight.result) c.take_flight-flight.new.self c.requires.next c.requires.stands c.take_flight-flight.ensures told c.take_flight.new.self
    c.in_ok-happened-2.ensures.took c.in_ok-happened-2.ensures.plan c.in_ok-happened-2.ensures.last q log links c.note_taken-2.ensures.same)
    c.note_taken-2.ensures.log c.note_taken-2.ensures.links
