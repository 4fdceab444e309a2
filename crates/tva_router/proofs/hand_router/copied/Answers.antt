use Rattle.tva_router.proofs.Common.{rules, ◌≡◌, ◌∙◌, each_same}
use Rattle.tva_router.proofs.Copies.{restart_copied}
use Rattle.tva_router.proofs.hand_router.copied.Goals as goal

pub returns : goal.returns
returns c =
    let restarts : c.new-5.result ≡ c.args.plan.now.restarts =
    c.new-5.ensures ∙ c.in_ok-to_vec-4.ensures.items_if_clones_equal (λ x y e. restart_copied x y e.0 (each_same x.1 y.1 e.1.whole)) ∙ c.as_slice-4.ensures in
    rw restarts (search rules)
