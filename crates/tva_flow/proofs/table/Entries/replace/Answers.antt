use Rattle.tva_flow.proofs.Common.{◌<◌, length, set, ap, arith, Kept, kept}
use Rattle.tva_flow.proofs.Indexed.{indexed-replace}
use Rattle.tva_flow.proofs.table.Entries.replace.Goals as goal

pub index_mut-requires : goal.index_mut-requires
index_mut-requires c = omega (arith, ap (λ (v : Kept). length v.items) c.self.view_is, c.requires)

pub invariant_of-self : goal.invariant_of-self
invariant_of-self c =
    let i = c.self.invariant in
    let es = c.self.inside.all.items in
    let l : c.args.at < length es = omega (arith, ap (λ (v : Kept). length v.items) c.self.view_is, c.requires) in
    (i.0, i.1, rw c.put-2.ensures (indexed-replace c.self.inside.slots c.self.inside.key es c.self.inside.places c.put.new.self c.self.inside.ends c.args.at c.args.entry i.2 l (rw c.bucket_of-bucket.ensures.value at c.put.ensures)))

pub returns : goal.returns
returns c = ap (λ (v : Kept). kept v.slots v.key (set v.items c.args.at c.args.entry)) c.self.view_is
