use Rattle.tva_drr.proofs.Common.{◌≡◌, sym, ap, ◌∙◌, subst, ◌<◌, length, get_or, set, TurnsOver, served, turns_over, Served}
use Rattle.tva_drr.proofs.Sources.{kept-set, emptied_at}
use Rattle.tva_drr.proofs.turning.Turns.put_at.Goals as goal

pub invariant_of-self : goal.invariant_of-self
invariant_of-self g c =
    let i = c.self.inside in
    let v = c.self.invariant in
    let t = c.index_mut.result.now in
    let same = ap g.S.Source.emptied c.put.ensures.left ∙ (g.met.S.Source.given_keeps t.source c.args.inner c.args.item
    ∙ emptied_at g.S.Source.emptied (g.S.Source.fresh i.limits) i.waiting.items c.args.at t (subst (λ (v : TurnsOver g.row.S.Denot). c.args.at < length v.turns) (sym c.self.view_is) c.requires.at) c.index_mut.ensures.value v.3) in
    let k = kept-set g.S.Source.emptied (g.S.Source.fresh i.limits) i.keys.places i.keys.keys i.waiting.items i.spare.items c.args.at t t.deficit c.put.new.self c.index_mut.ensures.value same (v.0, v.1, v.2, v.3) in
    (k.0, k.1, k.2, k.3, v.4, v.5)

pub returns : goal.returns
returns g c =
    let t = c.index_mut.result.now in
    let whole = ap (λ s. turns_over c.self.inside.limits c.self.inside.keys.places (set c.self.inside.waiting.items c.args.at (served t.key t.deficit s))) c.put.ensures.left in
    subst (λ (v : TurnsOver g.row.S.Denot). (t : Served g.row.S.Denot) × (t ≡ get_or v.turns c.args.at t) × (c.put.result ≡ g.S.Source.answer t.source c.args.inner c.args.item)
    × (turns_over c.self.inside.limits c.self.inside.keys.places (set c.self.inside.waiting.items c.args.at (served c.index_mut.result.now.key c.index_mut.result.now.deficit c.put.new.self)) ≡ turns_over v.limits v.places (set v.turns c.args.at (served t.key t.deficit (g.S.Source.given t.source c.args.inner c.args.item)))))
    c.self.view_is (t, c.index_mut.ensures.value, c.put.ensures.answer, whole)
