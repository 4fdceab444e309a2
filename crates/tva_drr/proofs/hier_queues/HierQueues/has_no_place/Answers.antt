use Rattle.tva_drr.proofs.Common.{◌≡◌, ◌<◌, false, not, Some, leb, length, sym, ap, ◌∙◌, subst, arith, Hier, has_group, lacks_place, IsGroupPlace, groups_in}
use Rattle.tva_drr.proofs.GroupLists.{place_at, place_new}
use Rattle.tva_drr.proofs.GroupTurns.{group_of, group_read, length-groups}
use Rattle.tva_drr.proofs.Offering.{not_not}
use Rattle.tva_drr.proofs.hier_queues.HierQueues.has_no_place.Goals as goal

pub returns-in-Some : goal.returns-in-Some
returns-in-Some g c =
    let i = c.self.inside in
    let ts = i.turns.turns in
    let t = c.turn.result.now in
    let place = subst (λ (v : Hier g.row.T.Denot). IsGroupPlace c.args.outer v.groups (Some c.in-Some.at)) (sym c.self.view_is) (rw c.in-Some.is at c.requires) in
    let n : c.in-Some.at < length ts = omega (arith, place.0, length-groups ts) in
    subst (λ (v : Hier g.row.T.Denot). not c.takes_key.result ≡ lacks_place v c.args.outer c.args.inner) c.self.view_is
    (ap not c.takes_key.ensures ∙ (not_not _ ∙ sym (place_at i.limits i.inner c.args.outer c.args.inner c.in-Some.at (groups_in ts) (group_of t) place (group_read ts c.in-Some.at t n c.turn.ensures))))

pub returns-in-None : goal.returns-in-None
returns-in-None g c =
    let i = c.self.inside in
    let ts = i.turns.turns in
    let none = subst (λ (v : Hier g.row.T.Denot). has_group c.args.outer v.groups ≡ false) (sym c.self.view_is) (rw c.in-None.is at c.requires) in
    subst (λ (v : Hier g.row.T.Denot). leb i.limits.queues c.len.result ≡ lacks_place v c.args.outer c.args.inner) c.self.view_is
    (ap (λ z. leb i.limits.queues z) (c.len.ensures ∙ sym (length-groups ts)) ∙ sym (place_new i.limits i.inner c.args.outer c.args.inner (groups_in ts) c.self.invariant.0.inner.0 none))
