use Rattle.tva_audit.proofs.Common.{◌≡◌, ◌<◌, ℕ, List, Option, get_or, length, sym, ap, ◌∙◌, subst, arith, Global, Vec, NodePlan, from_source, restarts_in, event_node, Tally, charges_in, StandsFor, RouterSum, sum_told, sums_among}
use Rattle.tva_audit.proofs.Tallied.{none_pushed, one_pushed, picked_more, stands_at}
use Rattle.tva_audit.proofs.tallies.sums_of.Goals as goal
use Rattle.tva_audit.proofs.tallies.sums_of.Goals.{in-Some+in_ok-push, in_default}

pub loop-place-preserved : goal.loop-place-preserved
loop-place-preserved c = λ told h.
    let config = c.args.config.now in
    let nodes = c.as_slice-nodes.result.now in
    let i = c.loop-place.place in
    let p = c.index-nodes-place.result in
    let t = c.index-tallies-place.result in
    let same : nodes ≡ config.nodes = c.as_slice-nodes.ensures in
    let within : i < length nodes = omega (arith, c.loop-place-test.true) in
    let below : i < length config.nodes = omega (arith, within, ap length same) in
    let es = from_source event_node i told in
    let stands : StandsFor t (restarts_in p) (charges_in es) =
    subst (λ (x : Tally). StandsFor x (restarts_in p) (charges_in es)) (sym c.index-tallies-place.is)
    (subst (λ (q : NodePlan). StandsFor (get_or c.args.tallies.now i t) (restarts_in q) (charges_in es)) (sym (c.index-nodes-place.is ∙ ap (λ (ns : List NodePlan). get_or ns i p) same))
    (stands_at config told c.args.tallies.now i t p h below)) in
    let chosen : c.sum_of.result ≡ sum_told i (get_or nodes i p) es = c.sum_of.ensures es stands ∙ ap (λ (q : NodePlan). sum_told i q es) c.index-nodes-place.is in
    let all = sums_among config told in
    let choice : ℕ → NodePlan → Option RouterSum = λ number plan. sum_told number plan (from_source event_node number told) in
    elim c.match-sum_of.branch [
      | in-Some+in_ok-push w ↦
          picked_more choice nodes i p c.sum_of.result c.loop-place.all.items c.match-sum_of.all.items all within chosen
          (ap (λ (v : Vec RouterSum Global). v.items) w.all-is ∙ w.in_ok-push.ensures.items ∙ one_pushed c.loop-place.all.items c.sum_of.result w.in-Some.sum w.in-Some.is)
          (c.loop-place.invariant told h)
      | in_default w ↦
          picked_more choice nodes i p c.sum_of.result c.loop-place.all.items c.match-sum_of.all.items all within chosen
          (ap (λ (v : Vec RouterSum Global). v.items) w.all-is ∙ none_pushed c.loop-place.all.items c.sum_of.result w.in_default.is)
          (c.loop-place.invariant told h)
    ]
