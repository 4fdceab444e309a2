use Rattle.tva_net.proofs.Common.{◌≡◌, ℕ, ◌+◌, ◌<◌, ◌++◌, ◌∷◌, [], All, List, length, get_or, sym, subst, ap, arith, length_push, NodeState, IsFirstNode}
use Rattle.tva_net.proofs.Firsts.{firsts_more, kept_more}
use Rattle.tva_net.proofs.building.nodes_of.Goals as goal

pub loop-number-preserved : goal.loop-number-preserved
loop-number-preserved c =
    let config = c.args.config.now in
    let i = c.loop-number.number in
    let nodes = c.loop-number.nodes.items in
    let v = c.in_ok-node_of.field-0 in
    let items : c.push.new.self.items ≡ nodes ++ v ∷ [] = c.in_ok-push.ensures.items in
    record {
      count = omega (arith, ap length items, length_push nodes v, c.loop-number.invariant.count);
      keeps = subst (All (λ (u : NodeState). u.keeps ≡ c.args.keeps)) (sym items) (kept_more c.args.keeps nodes v c.in_ok-node_of.ensures.keeps c.loop-number.invariant.keeps);
      each = subst (λ (vs : List NodeState). (n : ℕ) (d : NodeState) → n < i + 1 → IsFirstNode config [] n (get_or vs n d)) (sym items)
          (firsts_more config nodes i v c.loop-number.invariant.count c.in_ok-node_of.ensures.first c.loop-number.invariant.each);
    }
