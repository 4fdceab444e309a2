use Rattle.tva_index.proofs.Common.{◌≡◌, ◌+◌, ◌*◌, ◌/◌, ◌∙◌, ℕ, List, get_or, drop, map, min, sym, ap, subst, arith, eqb-true, drop-set-lt, length-map, length-set, map-set, AreNodesBut}
use Rattle.tva_index.proofs.Nodes.{nodes_all, nodes-mend, number_at}
use Rattle.tva_index.proofs.tree.mend.Goals as goal

pub returns-then-is_same-clause-nodes : goal.returns-then-is_same-clause-nodes
returns-then-is_same-clause-nodes g c =
    let f = g.N.Number.number in
    let xs = c.loop-at.nodes.items in
    let at = c.loop-at.at in
    let i = c.loop-at.invariant in
    let same = eqb-true (f c.index-in-loop-at-2.result.now) (f c.lesser-least.result) (sym c.is_same.ensures ∙ c.if-is_same.true) in
    nodes_all c.args.places at (map f xs) i.nodes (λ _. omega (arith, same, c.lesser-least.ensures, number_at f xs at _ (omega (arith, i.size, i.within)) c.index-in-loop-at-2.ensures, number_at f xs (2 * at) _ (omega (arith, i.size, i.within)) c.index.ensures, number_at f xs (2 * at + 1) _ (omega (arith, i.size, i.within)) c.index-in-loop-at.ensures))

pub loop-at-preserved : goal.loop-at-preserved
loop-at-preserved g c =
    let f = g.N.Number.number in
    let n = c.args.places in
    let xs = c.loop-at.nodes.items in
    let at = c.loop-at.at in
    let v = c.lesser-least.result in
    let i = c.loop-at.invariant in
    let least : f v ≡ min (get_or (map f xs) (2 * at) 0) (get_or (map f xs) (2 * at + 1) 0) = omega (arith, c.lesser-least.ensures, number_at f xs (2 * at) _ (omega (arith, i.size, i.within)) c.index.ensures, number_at f xs (2 * at + 1) _ (omega (arith, i.size, i.within)) c.index-in-loop-at.ensures) in
    record {
      size = length-set xs at v ∙ i.size;
      within = omega (arith, i.within);
      nodes = subst (λ (ys : List ℕ). AreNodesBut n ys (at / 2)) (sym (map-set f xs at v)) (nodes-mend n at (f v) (map f xs) i.nodes (omega (arith, c.loop-at-test.true)) i.within (length-map xs f ∙ i.size) least);
      leaves = ap (drop n) (map-set f xs at v) ∙ (drop-set-lt n (map f xs) at (f v) i.within ∙ i.leaves);
    }
