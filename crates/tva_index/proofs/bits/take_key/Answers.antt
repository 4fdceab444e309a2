use Rattle.tva_index.proofs.Common.{◌≡◌, set, Some, None, ap, ◌∙◌, sym, subst, links_of, entries_of, entry_at, IsKeyTree, IsWithout, IsEnd}
use Rattle.tva_index.proofs.Paths.{has_key}
use Rattle.tva_index.proofs.Pruned.{pruned, without}
use Rattle.tva_index.proofs.bits.take_key.Goals as goal

pub returns-clause-tree : goal.returns-clause-tree
returns-clause-tree c =
    let t = c.args.tree.now in
    let ps = t.places.items in
    let at = c.in-Found.led.at in
    let leaf = c.leaf_below-leaf.result in
    let b = c.leaf_below-leaf.ensures in
    let e = subst (IsEnd (links_of ps) (entries_of ps) c.args.key) c.in-Found.is c.walk.ensures in
    let old = has_key c.args.key (entry_at (entries_of ps) at) e.entry in
    let links : links_of c.set_link.new.places.items ≡ set (links_of ps) leaf.link None =
    c.set_link.ensures.links ∙ ap (λ z. set z leaf.link None) (c.set_entry-in-Found.ensures.links ∙ c.set_entry.ensures.links) in
    let entries : entries_of c.set_link.new.places.items ≡ set (set (entries_of ps) at (Some b.below.key)) leaf.at None =
    c.set_link.ensures.entries ∙ (c.set_entry-in-Found.ensures.entries ∙ ap (λ z. set z leaf.at None) (c.set_entry.ensures.entries ∙ ap (set (entries_of ps) at) (c.entry_of-moved.ensures ∙ b.below.entry))) in
    subst (λ z. IsKeyTree z (entries_of c.set_link.new.places.items) c.push_reserved.new.self.items) (sym links)
    (subst (λ z. IsKeyTree (set (links_of ps) leaf.link None) z c.push_reserved.new.self.items) (sym entries)
    (subst (IsKeyTree (set (links_of ps) leaf.link None) (set (set (entries_of ps) at (Some b.below.key)) leaf.at None)) (sym c.push_reserved.ensures.items)
    (pruned (links_of ps) (entries_of ps) t.free.items c.requires.tree c.args.key at leaf b old.0 old.1 old.2)))

pub returns-clause-without : goal.returns-clause-without
returns-clause-without c =
    let t = c.args.tree.now in
    let ps = t.places.items in
    let at = c.in-Found.led.at in
    let leaf = c.leaf_below-leaf.result in
    let b = c.leaf_below-leaf.ensures in
    let e = subst (IsEnd (links_of ps) (entries_of ps) c.args.key) c.in-Found.is c.walk.ensures in
    let old = has_key c.args.key (entry_at (entries_of ps) at) e.entry in
    let entries : entries_of c.set_link.new.places.items ≡ set (set (entries_of ps) at (Some b.below.key)) leaf.at None =
    c.set_link.ensures.entries ∙ (c.set_entry-in-Found.ensures.entries ∙ ap (λ z. set z leaf.at None) (c.set_entry.ensures.entries ∙ ap (set (entries_of ps) at) (c.entry_of-moved.ensures ∙ b.below.entry))) in
    subst (IsWithout c.args.key (entries_of ps)) (sym entries)
    (without (links_of ps) (entries_of ps) t.free.items c.requires.tree c.args.key at leaf b old.0 old.1 old.2)
