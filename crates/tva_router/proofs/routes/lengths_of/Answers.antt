use Rattle.tva_router.proofs.Common.{ℕ, ◌≤◌, ◌<◌, true, length, take, get_or, set, ◌+◌, sym, ◌∙◌, subst, arith, length-set, Route, AreMarked}
use Rattle.tva_router.proofs.Tables.{all_short, marked-more}
use Rattle.tva_router.proofs.routes.lengths_of.Goals as goal

pub loop-route-preserved : goal.loop-route-preserved
loop-route-preserved c =
    let none : Route = record { prefix = record { address = record { 0 = 0 }; bits = 0 }; link = 0 } in
    let bits : ℕ = (get_or c.args.routes.now c.loop-route.route-index none).prefix.bits in
    let short : bits ≤ 32 = all_short c.args.routes.now c.requires c.loop-route.route-index none c.loop-route-test.true in
    let fits : bits < length c.loop-route.lengths = omega (arith, short, c.loop-route.invariant.long) in
    record {
      long = length-set c.loop-route.lengths c.from.result true ∙ c.loop-route.invariant.long;
      marked = subst (λ (n : ℕ). AreMarked (take (c.loop-route.route-index + 1) c.args.routes.now) (set c.loop-route.lengths n true)) (sym c.from.ensures)
          (marked-more c.args.routes.now c.loop-route.route-index none c.loop-route.lengths c.loop-route-test.true fits c.loop-route.invariant.marked);
    }
