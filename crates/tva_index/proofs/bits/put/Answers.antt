use Rattle.tva_index.proofs.Common.{◌≡◌, ◌++◌, ◌∷◌, [], set, Some, ap, ◌∙◌, sym, subst, arith, numbered, links_of, entries_of, IsKeyTree, IsEnd}
use Rattle.tva_index.proofs.Places.{led_to-some}
use Rattle.tva_index.proofs.Grown.{grown, last_free}
use Rattle.tva_index.proofs.bits.put.Goals as goal

pub returns-in-Some-clause-tree : goal.returns-in-Some-clause-tree
returns-in-Some-clause-tree c =
    let t = c.args.tree.now in
    let ps = t.places.items in
    let rest = c.pop.new.self.items in
    let place = c.in-Some.place in
    let f : t.free.items ≡ rest ++ place ∷ [] = c.in-Some.ensures.items in
    let tree = subst (IsKeyTree (links_of ps) (entries_of ps)) f c.requires.tree in
    let e = subst (IsEnd (links_of ps) (entries_of ps) c.args.key) c.in-Missing.is c.walk.ensures in
    let l = last_free (links_of ps) (entries_of ps) rest place tree c.args.key c.args.number c.in-Missing.link (omega arith) e in
    let links : links_of c.set_entry.new.places.items ≡ set (links_of ps) c.in-Missing.link (Some place) =
    c.set_entry.ensures.links ∙ (c.set_link.ensures.links ∙ ap (set (links_of ps) c.in-Missing.link) (led_to-some place l.behind)) in
    let entries : entries_of c.set_entry.new.places.items ≡ set (entries_of ps) place (Some (numbered c.args.key c.args.number)) =
    c.set_entry.ensures.entries ∙ ap (λ z. set z place (Some (numbered c.args.key c.args.number))) c.set_link.ensures.entries in
    subst (λ z. IsKeyTree z (entries_of c.set_entry.new.places.items) rest) (sym links)
    (subst (λ z. IsKeyTree (set (links_of ps) c.in-Missing.link (Some place)) z rest) (sym entries)
    (grown (links_of ps) (entries_of ps) rest place tree c.args.key c.args.number c.in-Missing.link (omega arith) e))
