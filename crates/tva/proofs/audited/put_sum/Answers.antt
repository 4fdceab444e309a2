use Rattle.tva.proofs.Common.{List, ℕ, ◌++◌, ap, ◌∙◌, decimal, name_of_node, worst_word}
use Rattle.tva.proofs.SumLines.{line_put}
use Rattle.tva.proofs.audited.put_sum.Goals as goal

pub returns : goal.returns
returns c =
    let s = c.args.sum.now in
    let old : List ℕ = c.args.text.now.items in
    line_put old (name_of_node c.args.plan.now s.node) (decimal s.grants) (decimal s.charges) (decimal s.bytes) (worst_word s.worst)
    c.extend_from_slice.new.self.items c.put_count.new.text.items c.put_count-2.new.text.items c.put_count-3.new.text.items
    c.extend_from_slice-2.new.self.items c.put_worst.new.text.items c.push.new.self.items
    (c.in_ok-extend_from_slice.ensures.items ∙ ap (λ (z : List ℕ). old ++ z) c.node_name.ensures)
    c.in_ok-put_count.ensures c.in_ok-put_count-2.ensures c.in_ok-put_count-3.ensures
    c.in_ok-extend_from_slice-2.ensures.items c.in_ok-put_worst.ensures c.in_ok-push.ensures.items
