use Rattle.tva_transfer.proofs.Common.{sym, ap, ◌∙◌, unwrap_or, ne_eqb, eq-eqb, next_kept}
use Rattle.tva_transfer.proofs.Knowing.{range_of-kept, range_of-none}
use Rattle.tva_transfer.proofs.courier.range_at.Goals as goal

pub returns-in_default : goal.returns-in_default
returns-in_default c v files source k is = range_of-none files source c.args.upper c.in_default.not-Data

pub returns-then-first-next : goal.returns-then-first-next
returns-then-first-next c v files source k is =
    let other = ne_eqb c.in-Data.first (next_kept v.nexts source c.in-Data.transfer) (λ h. c.if-first-next.true (h ∙ (ap (λ o. unwrap_or o 0) (rw c.in-Data.is at is)))) in
    rw c.in-Data.is (sym (rw other at (range_of-kept v files k source c.in-Data.transfer c.in-Data.first c.in-Data.bytes)))

pub returns : goal.returns
returns c v files source k is =
    let same = eq-eqb c.in-Data.first (next_kept v.nexts source c.in-Data.transfer) (c.if-first-next.false ∙ sym (ap (λ o. unwrap_or o 0) (rw c.in-Data.is at is))) in
    rw c.in-Data.is (sym (rw same at (range_of-kept v files k source c.in-Data.transfer c.in-Data.first c.in-Data.bytes)))
