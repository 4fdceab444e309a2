use Rattle.tva_node.proofs.Common.{◌<◌, length, get_or, sym, subst, arith, ◌∙◌, length-set, NodeState, IsAdvanced, Keeps}
use Rattle.tva_node.proofs.Zips.{keeps_same, rest_more, zip_more, zip_whole}
use Rattle.tva_node.proofs.at_once.advance_each.Goals as goal

pub returns-in_err-advance-clause-kept : goal.returns-in_err-advance-clause-kept
returns-in_err-advance-clause-kept g c =
    let l = c.loop-place in
    let here : l.place < length l.nodes = omega (arith, c.loop-place-test.true, l.invariant.count) in
    let w = c.advance.new.self in
    let kept : Keeps (get_or l.nodes l.place c.index-nodes-place.result) w = c.in_err-advance.ensures.keeps in
    zip_whole c.args.nodes.now l.nodes l.place c.index-nodes-place.result w here l.invariant.count l.invariant.rest c.index-nodes-place.is
    Keeps keeps_same l.invariant.kept (subst (λ (v : NodeState). Keeps v w) (sym c.index-nodes-place.is) kept)

pub loop-place-preserved : goal.loop-place-preserved
loop-place-preserved g c =
    let l = c.loop-place in
    let here : l.place < length l.nodes = omega (arith, c.loop-place-test.true, l.invariant.count) in
    let old = c.args.nodes.now in
    let x = c.index-nodes-place.result in
    let w = c.advance.new.self in
    let kept : Keeps (get_or l.nodes l.place x) w = c.in_ok-advance.ensures.keeps in
    let done : IsAdvanced c.args.until.0 (get_or l.nodes l.place x) w = record { stands = c.in_ok-advance.ensures.stands; upto = c.in_ok-advance.ensures.upto } in
    record {
      ok = zip_more old l.nodes l.place x w here l.invariant.count l.invariant.rest c.index-nodes-place.is (IsAdvanced c.args.until.0) l.invariant.ok
          (subst (λ (v : NodeState). IsAdvanced c.args.until.0 v w) (sym c.index-nodes-place.is) done);
      kept = zip_more old l.nodes l.place x w here l.invariant.count l.invariant.rest c.index-nodes-place.is Keeps l.invariant.kept
          (subst (λ (v : NodeState). Keeps v w) (sym c.index-nodes-place.is) kept);
      rest = rest_more old l.nodes l.place x w here l.invariant.count l.invariant.rest c.index-nodes-place.is;
      count = length-set l.nodes l.place w ∙ l.invariant.count;
    }
