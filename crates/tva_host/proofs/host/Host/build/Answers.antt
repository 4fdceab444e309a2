use Rattle.tva_host.proofs.Common.{◌≤◌, refl, ap, sym, subst, arith, HostPlan, Book, host_data, HasHistory}
use Rattle.tva_host.proofs.Standing.{has-beginning, first-nonce}
use Rattle.tva_host.proofs.host.Host.build.Goals as goal

pub invariant_of-result : goal.invariant_of-result
invariant_of-result c =
    let last : c.build-2.result.last ≤ 0 = subst (λ (b : Book). b.last ≤ 0) (sym c.build-2.ensures.book) (omega arith) in
    subst (λ (p : HostPlan). HasHistory (host_data c.args.node p 1 c.args.plan.now.nonce 0 c.in_ok-build.field-0 c.build-2.result)) (sym c.in_ok-copied.ensures)
    (has-beginning (host_data c.args.node c.args.plan.now 1 c.args.plan.now.nonce 0 c.in_ok-build.field-0 c.build-2.result) c.requires
    (record {
      next = refl;
      offered = first-nonce c.args.plan.now.nonce c.requires.nonce;
      margin = ap (λ (b : Book). b.margin) c.build-2.ensures.book;
      retry = ap (λ (b : Book). b.retry) c.build-2.ensures.book;
      version = ap (λ (b : Book). b.version) c.build-2.ensures.book;
      policy = c.in_ok-build.ensures;
      sender = c.build-2.ensures.stands;
    })
    last)
