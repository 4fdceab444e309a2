use Rattle.tva_flow.proofs.Common.{◌≡◌, ◌<◌, length, get_or, set, ap, subst, arith, Kept, kept}
use Rattle.tva_flow.proofs.Indexed.{indexed-rewrite, some_place}
use Rattle.tva_flow.proofs.table.Entries.rewrite.Goals as goal

pub index_mut-requires : goal.index_mut-requires
index_mut-requires c = omega (arith, ap (λ (v : Kept). length v.items) c.self.view_is, c.requires.place)

pub invariant_of-self : goal.invariant_of-self
invariant_of-self c =
    let i = c.self.invariant in
    let es = c.self.inside.all.items in
    let l : c.args.at < length es = omega (arith, ap (λ (v : Kept). length v.items) c.self.view_is, c.requires.place) in
    let e = some_place es c.args.at l in
    let f = c.requires.flow e.0 (subst (λ (v : Kept). e.0 ≡ get_or v.items c.args.at e.0) c.self.view_is e.1) in
    let h = c.requires.end e.0 (subst (λ (v : Kept). e.0 ≡ get_or v.items c.args.at e.0) c.self.view_is e.1) in
    (i.0, i.1, indexed-rewrite c.self.inside.slots c.self.inside.key es c.self.inside.places c.self.inside.ends c.args.at e.0 c.args.renewed i.2 l e.1 f h)

pub returns : goal.returns
returns c = ap (λ (v : Kept). kept v.slots v.key (set v.items c.args.at c.args.renewed)) c.self.view_is
