use Rattle.tva_drr.proofs.Common.{ℕ, Option, sym, ap, ◌∙◌, subst, place_in, Hier, IsGroupPlace, groups_in}
use Rattle.tva_drr.proofs.GroupTurns.{keys-groups, group_place}
use Rattle.tva_drr.proofs.hier_queues.HierQueues.place.Goals as goal

pub returns : goal.returns
returns g c =
    let ts = c.self.inside.turns.turns in
    subst (λ (v : Hier g.row.T.Denot). IsGroupPlace c.args.outer v.groups c.place.result) c.self.view_is
    (subst (λ (o : Option ℕ). IsGroupPlace c.args.outer (groups_in ts) o) (sym (c.place.ensures ∙ ap (place_in c.args.outer) (sym (keys-groups ts)))) (group_place c.args.outer (groups_in ts)))
