use Rattle.tva_drr.proofs.Common.{sym, ap, ◌∙◌, arith, ◌∷◌, [], ◌++◌, length, ◌==◌, cond, Ring, TurnsOver, served, turns_over}
use Rattle.tva_drr.proofs.Sources.{kept-new, spare_is}
use Rattle.tva_drr.proofs.turning.Turns.put_new.Goals as goal

pub invariant_of-self-in-Queued : goal.invariant_of-self-in-Queued
invariant_of-self-in-Queued g c =
    let i = c.self.inside in
    let v = c.self.invariant in
    let s = c.in-Some.source in
    let is = spare_is g.S.Source.emptied (g.S.Source.fresh i.limits) i.keys.places i.spare.items c.pop.new.self.items s c.in-Some.ensures.items v.2 in
    let same = ap g.S.Source.emptied c.put.ensures.left ∙ (g.met.S.Source.given_keeps s c.args.inner c.args.item ∙ (ap g.S.Source.emptied is ∙ g.met.S.Source.fresh_is_empty i.limits)) in
    let k = kept-new g.S.Source.emptied (g.S.Source.fresh i.limits) i.keys.places i.keys.keys i.waiting.items i.spare.items c.pop.new.self.items c.args.key c.first_deficit-deficit.result s c.put.new.self c.in-Some.ensures.items same (v.0, v.1, v.2, v.3) in
    rw (c.push_back_reserved.ensures.items, c.push.ensures) (k.0, k.1, k.2, k.3, omega (arith, v.4, c.push_back_reserved.ensures.capacity), omega (arith, v.5, c.pop.ensures.capacity))

pub returns-in-Queued-clause-answer : goal.returns-in-Queued-clause-answer
returns-in-Queued-clause-answer g c =
    let i = c.self.inside in
    let is = spare_is g.S.Source.emptied (g.S.Source.fresh i.limits) i.keys.places i.spare.items c.pop.new.self.items c.in-Some.source c.in-Some.ensures.items c.self.invariant.2 in
    sym c.in-Queued.is ∙ (c.put.ensures.answer ∙ (ap (λ s. g.S.Source.answer s c.args.inner c.args.item) is
    ∙ ap (λ (v : TurnsOver g.row.S.Denot). g.S.Source.answer (g.S.Source.fresh v.limits) c.args.inner c.args.item) c.self.view_is))

pub returns-in-NoQueue-clause-answer : goal.returns-in-NoQueue-clause-answer
returns-in-NoQueue-clause-answer g c =
    let i = c.self.inside in
    let is = spare_is g.S.Source.emptied (g.S.Source.fresh i.limits) i.keys.places i.spare.items c.pop.new.self.items c.in-Some.source c.in-Some.ensures.items c.self.invariant.2 in
    sym c.in-NoQueue.is ∙ (c.put.ensures.answer ∙ (ap (λ s. g.S.Source.answer s c.args.inner c.args.item) is
    ∙ ap (λ (v : TurnsOver g.row.S.Denot). g.S.Source.answer (g.S.Source.fresh v.limits) c.args.inner c.args.item) c.self.view_is))

pub returns-in-QueueFull-clause-answer : goal.returns-in-QueueFull-clause-answer
returns-in-QueueFull-clause-answer g c =
    let i = c.self.inside in
    let is = spare_is g.S.Source.emptied (g.S.Source.fresh i.limits) i.keys.places i.spare.items c.pop.new.self.items c.in-Some.source c.in-Some.ensures.items c.self.invariant.2 in
    sym c.in-QueueFull.is ∙ (c.put.ensures.answer ∙ (ap (λ s. g.S.Source.answer s c.args.inner c.args.item) is
    ∙ ap (λ (v : TurnsOver g.row.S.Denot). g.S.Source.answer (g.S.Source.fresh v.limits) c.args.inner c.args.item) c.self.view_is))

pub returns-in-Queued-clause-queued : goal.returns-in-Queued-clause-queued
returns-in-Queued-clause-queued g c = λ _.
    let i = c.self.inside in
    let is = spare_is g.S.Source.emptied (g.S.Source.fresh i.limits) i.keys.places i.spare.items c.pop.new.self.items c.in-Some.source c.in-Some.ensures.items c.self.invariant.2 in
    let given = c.put.ensures.left ∙ ap (λ s. g.S.Source.given s c.args.inner c.args.item) is in
    ap (λ (r : Ring). turns_over i.limits r.places c.push_back_reserved.new.self.items) c.push.ensures
    ∙ (ap (turns_over i.limits i.keys.places) (c.push_back_reserved.ensures.items
    ∙ (ap (λ d. i.waiting.items ++ served c.args.key d c.put.new.self ∷ []) c.first_deficit-deficit.ensures
    ∙ ap (λ s. i.waiting.items ++ served c.args.key (cond (length i.waiting.items == 0) i.limits.quantum 0) s ∷ []) given))
    ∙ ap (λ (v : TurnsOver g.row.S.Denot). turns_over v.limits v.places (v.turns ++ served c.args.key (cond (length v.turns == 0) v.limits.quantum 0) (g.S.Source.given (g.S.Source.fresh v.limits) c.args.inner c.args.item) ∷ [])) c.self.view_is)
