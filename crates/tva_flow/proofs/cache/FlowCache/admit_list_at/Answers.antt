use Rattle.tva_flow.proofs.Near.{near-later}
use Rattle.tva_flow.proofs.Timely.{list-timely}
use Rattle.tva_flow.proofs.cache.FlowCache.admit_list_at.Goals as goal

pub renew-requires-clause-near : goal.renew-requires-clause-near
renew-requires-clause-near c = near-later c.self.inside.last c.args.now.0 c.self.inside.entries.items (rw (← c.self.view_is) at c.requires.time) c.self.invariant.1

pub open-requires-clause-near : goal.open-requires-clause-near
open-requires-clause-near c = near-later c.self.inside.last c.args.now.0 c.self.inside.entries.items (rw (← c.self.view_is) at c.requires.time) c.self.invariant.1

pub returns-in-Some-clause-verdict : goal.returns-in-Some-clause-verdict
returns-in-Some-clause-verdict c h v = rw (← c.self.view_is) (c.renew.ensures.answer c.self.inside.entries.slots c.self.inside.clock_offset c.self.inside.last h (rw (← c.self.view_is) at c.requires.time) (rw (← c.self.view_is) at v)).0

pub returns-in-Some-clause-stands : goal.returns-in-Some-clause-stands
returns-in-Some-clause-stands c h v = rw c.renew.ensures.same.1 (c.renew.ensures.answer c.self.inside.entries.slots c.self.inside.clock_offset c.self.inside.last h (rw (← c.self.view_is) at c.requires.time) (rw (← c.self.view_is) at v)).1

pub returns-in-Some-clause-timely : goal.returns-in-Some-clause-timely
returns-in-Some-clause-timely c h v t w =
    list-timely c.self.inside.entries.slots c.args.self.now.offset h c.args.now.0 c.args.grant c.args.nonce c.args.length c.renew.result
    (c.renew.ensures.answer c.self.inside.entries.slots c.self.inside.clock_offset c.self.inside.last h (rw (← c.self.view_is) at c.requires.time) (rw (← c.self.view_is) at v)).0 t w

pub returns-in_default-clause-verdict : goal.returns-in_default-clause-verdict
returns-in_default-clause-verdict c h v = rw (← c.self.view_is) (c.open.ensures.answer c.self.inside.clock_offset c.self.inside.last h (rw (← c.self.view_is) at c.requires.time) (rw (← c.self.view_is) at v)).0

pub returns-in_default-clause-stands : goal.returns-in_default-clause-stands
returns-in_default-clause-stands c h v = rw c.open.ensures.room.1 (c.open.ensures.answer c.self.inside.clock_offset c.self.inside.last h (rw (← c.self.view_is) at c.requires.time) (rw (← c.self.view_is) at v)).1

pub returns-in_default-clause-timely : goal.returns-in_default-clause-timely
returns-in_default-clause-timely c h v t w =
    list-timely c.self.inside.entries.slots c.args.self.now.offset h c.args.now.0 c.args.grant c.args.nonce c.args.length c.open.result
    (c.open.ensures.answer c.self.inside.clock_offset c.self.inside.last h (rw (← c.self.view_is) at c.requires.time) (rw (← c.self.view_is) at v)).0 t w

pub returns-in-Some-clause-shown : goal.returns-in-Some-clause-shown
returns-in-Some-clause-shown c test a g = c.renew.ensures.shown test (rw (← c.self.view_is) at a) g

pub returns-in_default-clause-shown : goal.returns-in_default-clause-shown
returns-in_default-clause-shown c test a g = c.open.ensures.shown test (rw (← c.self.view_is) at a) g
