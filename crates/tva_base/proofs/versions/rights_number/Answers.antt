use Rattle.tva_base.proofs.Common.{◌≡◌, ◌<◌, ◌+◌, ◌*◌, ◌^◌, ap, sym, subst, ℕ, arith, rights_number, rights_size}
use Rattle.tva_base.proofs.Widths.{number_fits, number_short}
use Rattle.tva_base.proofs.versions.rights_number.Goals as goal

pub overflow_mul-result : goal.overflow_mul-result
overflow_mul-result c =
    let short = number_short c.args.version c.args.rights c.requires in
    let is : c.args.rights.n * c.weight.result + c.args.rights.t ≡ rights_number c.args.version c.args.rights = ap (λ (w : ℕ). c.args.rights.n * w + c.args.rights.t) c.weight.ensures.seconds in
    omega arith

pub overflow_add-result : goal.overflow_add-result
overflow_add-result c =
    let short = number_short c.args.version c.args.rights c.requires in
    let is : c.args.rights.n * c.weight.result + c.args.rights.t ≡ rights_number c.args.version c.args.rights = ap (λ (w : ℕ). c.args.rights.n * w + c.args.rights.t) c.weight.ensures.seconds in
    omega arith

pub returns-clause-number : goal.returns-clause-number
returns-clause-number c = rw c.from.ensures (ap (λ (w : ℕ). c.args.rights.n * w + c.args.rights.t) c.weight.ensures.seconds)

pub returns-clause-fits : goal.returns-clause-fits
returns-clause-fits c =
    rw c.from.ensures
    (subst (λ (k : ℕ). k < 256 ^ rights_size c.args.version) (ap (λ (w : ℕ). c.args.rights.n * w + c.args.rights.t) (sym c.weight.ensures.seconds))
    (number_fits c.args.version c.args.rights c.requires))
