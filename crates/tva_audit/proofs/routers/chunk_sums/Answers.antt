use Rattle.tva_audit.proofs.Common.{sym, ◌∙◌, ap, Global, Vec, RouterSum}
use Rattle.tva_audit.proofs.Parts.{none_more, one_more}
use Rattle.tva_audit.proofs.routers.chunk_sums.Goals as goal
use Rattle.tva_audit.proofs.routers.chunk_sums.Goals.{in-Some+in_ok-push, in_default}

pub loop-node-preserved : goal.loop-node-preserved
loop-node-preserved c =
    let nodes = c.args.nodes.now in
    let i = c.loop-node.node-index in
    let e = c.node-item.result in
    elim c.match-branch-2.branch [
      | in-Some+in_ok-push w ↦
          ap (λ (v : Vec RouterSum Global). v.items) w.all-is
          ∙ one_more nodes i e c.loop-node.all.items w.push.new.self.items w.in-Some.sum c.loop-node-test.true c.node-item.is c.loop-node.invariant
          (sym w.in-Some.is ∙ c.in_ok-sum.ensures) w.in_ok-push.ensures.items
      | in_default w ↦
          ap (λ (v : Vec RouterSum Global). v.items) w.all-is
          ∙ none_more nodes i e c.loop-node.all.items c.loop-node-test.true c.node-item.is c.loop-node.invariant (sym w.in_default.is ∙ c.in_ok-sum.ensures)
    ]
