use Rattle.tva_flow.proofs.Common.{sym, ◌∙◌, ltb-false}
use Rattle.tva_flow.proofs.Admit.{answers-none, answers-ended}
use Rattle.tva_flow.proofs.Near.{near-later}
use Rattle.tva_flow.proofs.Timely.{nonce-timely}
use Rattle.tva_flow.proofs.Pushes.{past-later}
use Rattle.tva_flow.proofs.cache.FlowCache.admit_nonce.Goals as goal

pub renew_held-requires-clause-near : goal.renew_held-requires-clause-near
renew_held-requires-clause-near c = near-later c.self.inside.last c.args.now.0 c.self.inside.entries.items (rw (← c.self.view_is) at c.requires.time) c.self.invariant.1

pub invariant_of-self-else-is_live : goal.invariant_of-self-else-is_live
invariant_of-self-else-is_live c = (c.self.invariant.0, near-later c.self.inside.last c.args.now.0 c.self.inside.entries.items (rw (← c.self.view_is) at c.requires.time) c.self.invariant.1, c.self.invariant.2, c.self.invariant.3)

pub invariant_of-self-in_default : goal.invariant_of-self-in_default
invariant_of-self-in_default c = (c.self.invariant.0, near-later c.self.inside.last c.args.now.0 c.self.inside.entries.items (rw (← c.self.view_is) at c.requires.time) c.self.invariant.1, c.self.invariant.2, c.self.invariant.3)

pub returns-in-Some-clause-verdict : goal.returns-in-Some-clause-verdict
returns-in-Some-clause-verdict c h v = rw (← c.self.view_is) (c.renew_held.ensures.answer c.args.flow c.self.inside.entries.slots c.self.inside.clock_offset c.self.inside.last h c.in-Some.ensures.1 c.second_of-second.ensures (rw (← c.self.view_is) at c.requires.time) (rw (← c.self.view_is) at v)).0

pub returns-in-Some-clause-stands : goal.returns-in-Some-clause-stands
returns-in-Some-clause-stands c h v = rw c.renew_held.ensures.same.1 (c.renew_held.ensures.answer c.args.flow c.self.inside.entries.slots c.self.inside.clock_offset c.self.inside.last h c.in-Some.ensures.1 c.second_of-second.ensures (rw (← c.self.view_is) at c.requires.time) (rw (← c.self.view_is) at v)).1

pub returns-in-Some-clause-timely : goal.returns-in-Some-clause-timely
returns-in-Some-clause-timely c h v t =
    nonce-timely c.args.self.now.offset h c.args.now.0 c.args.flow c.args.nonce c.args.length c.renew_held.result (past-later c.args.self.now.last c.args.now.0 h c.requires.time v.past) (returns-in-Some-clause-verdict c h v) t

pub returns-in_default-clause-verdict : goal.returns-in_default-clause-verdict
returns-in_default-clause-verdict c h v =
    rw (← c.self.view_is) (answers-ended c.self.inside.entries.slots c.self.inside.clock_offset c.self.inside.last c.args.now.0 c.self.inside.entries.items h c.in-Some.place c.get.result c.args.flow c.args.nonce c.args.length (rw (← c.self.view_is) at v) (rw (← c.self.view_is) at c.requires.time)
    c.in-Some.ensures.0 c.get.ensures (c.in-Some.ensures.1 c.get.result c.get.ensures) (ltb-false _ _ (sym c.is_live.ensures ∙ c.if-is_live.false))).0

pub returns-in_default-2-clause-verdict : goal.returns-in_default-2-clause-verdict
returns-in_default-2-clause-verdict c h v =
    rw (← c.self.view_is) (answers-none c.self.inside.entries.slots c.self.inside.clock_offset c.self.inside.last c.args.now.0 c.self.inside.entries.items h c.args.flow c.args.nonce c.args.length (rw (← c.self.view_is) at v) (rw (← c.self.view_is) at c.requires.time) c.in_default.ensures).0

pub returns-in-Some-clause-shown : goal.returns-in-Some-clause-shown
returns-in-Some-clause-shown c test a = c.renew_held.ensures.shown test (rw (← c.self.view_is) at a)
