use Rattle.tva_index.proofs.Common.{◌≡◌, ◌<◌, Some, None, get_or, length, ap, sym, subst, arith, Placed, IsLastBelow}
use Rattle.tva_index.proofs.Chains.{step_read}
use Rattle.tva_index.proofs.buckets.Buckets.before.Goals as goal

pub index-requires : goal.index-requires
index-requires c = omega (arith, ap (λ (v : Placed). length v.homes) c.self.view_is, c.requires, c.self.invariant.0.same)

pub returns : goal.returns
returns c b h =
    let k = c.self.inside.links in
    let l : c.args.place < length k.homes.items = omega (arith, ap (λ (v : Placed). length v.homes) c.self.view_is, c.requires) in
    subst (λ (v : Placed). IsLastBelow v.homes c.args.place b c.place.result) c.self.view_is
    (subst (IsLastBelow k.homes.items c.args.place b) (sym c.place.ensures) (step_read k.last.items k.before.items k.homes.items c.args.place b c.index.result.now c.self.invariant.0 l c.index.ensures (subst (λ (v : Placed). get_or v.homes c.args.place None ≡ Some b) (sym c.self.view_is) h)))
