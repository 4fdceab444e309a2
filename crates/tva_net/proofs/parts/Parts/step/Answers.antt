use Rattle.tva_net.proofs.Common.{Some, None, refl, sym, subst, state_of, work_of, WorksUpTo}
use Rattle.tva_net.specs.declared.works.Works.{Works}
use Rattle.tva_net.proofs.Answering.{answer_gives, answer_refuses, answer_sound, can_of, ended_sound, has_ended, has_room}
use Rattle.tva_net.proofs.Ends.{told_same}
use Rattle.tva_net.proofs.parts.Parts.step.Goals as goal

pub returns-in-Some-clause-kept : goal.returns-in-Some-clause-kept
returns-in-Some-clause-kept g c = told_same c.args.self.now.works.nodes.items

pub next_events-events-requires-clause-works : goal.next_events-events-requires-clause-works
next_events-events-requires-clause-works g c κs within = can_of (state_of c.args.self.now) c.requires.sound c.in_default.is

pub give-requires-clause-room : goal.give-requires-clause-room
give-requires-clause-room g c = (has_room (state_of c.args.self.now) c.requires.sound c.in_default.is).0

pub returns-in-Ok-Some-clause-sound : goal.returns-in-Ok-Some-clause-sound
returns-in-Ok-Some-clause-sound g c =
    let events = c.in-Ok-Some.events in
    let works = subst (λ (w : Works). WorksUpTo (work_of c.args.self.now.works) (Some events.items) (work_of w)) (sym c.give.ensures.works) (rw c.in-Ok-Some.field-0-is at (rw c.in-Ok-Some.is at c.next_events-events.ensures.works)) in
    answer_sound (state_of c.args.self.now) (state_of c.give.new.self) events works c.give.ensures.limit c.give.result c.requires.sound c.in_default.is c.give.ensures.gives c.give.ensures.refuses

pub returns-in-Ok-Some-clause-gives : goal.returns-in-Ok-Some-clause-gives
returns-in-Ok-Some-clause-gives g c =
    let events = c.in-Ok-Some.events in
    let works = subst (λ (w : Works). WorksUpTo (work_of c.args.self.now.works) (Some events.items) (work_of w)) (sym c.give.ensures.works) (rw c.in-Ok-Some.field-0-is at (rw c.in-Ok-Some.is at c.next_events-events.ensures.works)) in
    answer_gives (state_of c.args.self.now) (state_of c.give.new.self) events works c.give.ensures.limit c.give.result c.give.ensures.gives

pub returns-in-Ok-Some-clause-refuses : goal.returns-in-Ok-Some-clause-refuses
returns-in-Ok-Some-clause-refuses g c =
    let events = c.in-Ok-Some.events in
    let works = subst (λ (w : Works). WorksUpTo (work_of c.args.self.now.works) (Some events.items) (work_of w)) (sym c.give.ensures.works) (rw c.in-Ok-Some.field-0-is at (rw c.in-Ok-Some.is at c.next_events-events.ensures.works)) in
    answer_refuses (state_of c.args.self.now) (state_of c.give.new.self) events works c.give.ensures.limit c.give.result c.give.ensures.refuses

pub returns-in-Ok-None-clause-sound : goal.returns-in-Ok-None-clause-sound
returns-in-Ok-None-clause-sound g c =
    let works = rw c.in-Ok-None.field-0-is at (rw c.in-Ok-None.is at c.next_events-events.ensures.works) in
    ended_sound (state_of c.args.self.now) (state_of (record { works = c.next_events-events.new.self; limit = c.args.self.now.limit; totals = c.args.self.now.totals; failed = None }))
    c.requires.sound c.in_default.is works refl refl refl

pub returns-in-Ok-None-clause-gives : goal.returns-in-Ok-None-clause-gives
returns-in-Ok-None-clause-gives g c = λ config rows windows told h.
    let works = rw c.in-Ok-None.field-0-is at (rw c.in-Ok-None.is at c.next_events-events.ensures.works) in
    has_ended config rows windows told (state_of c.args.self.now) (state_of (record { works = c.next_events-events.new.self; limit = c.args.self.now.limit; totals = c.args.self.now.totals; failed = None }))
    h works refl refl refl
