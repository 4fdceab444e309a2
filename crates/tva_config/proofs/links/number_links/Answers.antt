use Rattle.tva_config.proofs.Common.{◌≡◌, ◌∷◌, [], ◌++◌, sym, drop, drop_all, get_by_text, link_step, links_of, IsPairs, fault_told, next_at, continues_more, continues_stops, continues_ends, one_longer}
use Rattle.tva_config.proofs.Numbered.{pairs_push}
use Rattle.tva_config.proofs.links.number_links.Goals as goal

pub loop-i-preserved : goal.loop-i-preserved
loop-i-preserved c =
    let entries = c.args.entries.now in
    let i = c.loop-i.i in
    let done = c.loop-i.plans.items in
    let entry = c.index-entries-i.result in
    let pushed : c.push.new.self.items ≡ done ++ c.in_ok-plan.plan ∷ [] = c.in_ok-push.ensures.items in
    let more : IsPairs c.insert.new.self (done ++ c.in_ok-plan.plan ∷ []) =
    pairs_push c.loop-i.pairs c.insert.new.self done c.in_ok-plan.plan i c.loop-i.invariant.pairs
    c.in_ok-insert.ensures.updates.0 c.in_ok-plan.ensures.single (sym c.loop-i.invariant.count) in
    record {
      read = continues_more (link_step (get_by_text c.args.numbers.now)) done c.push.new.self.items (drop i entries) _ entries entry c.in_ok-plan.plan
          (next_at entries i entry c.loop-i-test.true c.index-entries-i.is) (sym c.in_ok-plan.ensures.plan) pushed c.loop-i.invariant.read;
      count = one_longer done c.push.new.self.items c.in_ok-plan.plan i pushed c.loop-i.invariant.count;
      pairs = rw pushed more;
    }

pub returns-in_err-plan-clause-answer : goal.returns-in_err-plan-clause-answer
unfolding links_of
returns-in_err-plan-clause-answer c =
    let entries = c.args.entries.now in
    let i = c.loop-i.i in
    let entry = c.index-entries-i.result in
    fault_told (λ links. links.plans.items) (links_of (get_by_text c.args.numbers.now) entries) c.from_residual.result c.in_err-plan.field-0.0 c.from_residual.ensures.1
    (continues_stops (link_step (get_by_text c.args.numbers.now)) c.loop-i.plans.items (drop i entries) _ entries entry c.in_err-plan.field-0.0
    (next_at entries i entry c.loop-i-test.true c.index-entries-i.is) (sym c.in_err-plan.ensures.plan) c.loop-i.invariant.read)

pub returns-clause-answer : goal.returns-clause-answer
unfolding links_of
returns-clause-answer c =
    continues_ends (link_step (get_by_text c.args.numbers.now)) c.loop-i.plans.items (drop c.loop-i.i c.args.entries.now) c.args.entries.now
    (drop_all c.loop-i.i c.args.entries.now c.loop-i-test.false) c.loop-i.invariant.read

pub returns-clause-pairs : goal.returns-clause-pairs
returns-clause-pairs c = λ i from to. c.loop-i.invariant.pairs from to i
