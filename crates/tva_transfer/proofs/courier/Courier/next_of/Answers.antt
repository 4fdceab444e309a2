use Rattle.tva_transfer.proofs.Common.{◌≡◌, ℕ, ◌&&◌, eqb, Some, sym, subst, ap, ◌∙◌, lookup, unwrap_or, Address, CourierData, Knows, next_kept}
use Rattle.tva_transfer.proofs.Compared.{next_kept-written, next_kept_by, lookup_by}
use Rattle.tva_transfer.proofs.Knowing.{knows_same, next_kept-still}
use Rattle.tva_transfer.proofs.courier.Courier.next_of.Goals as goal

pub returns-in-Some-clause-next : goal.returns-in-Some-clause-next
returns-in-Some-clause-next c =
    rw c.in-Data.is (subst (λ (v : CourierData). lookup (λ (key : Address × ℕ). eqb c.args.source.0 key.0.0 && eqb c.in-Data.transfer key.1) v.nexts ≡ Some c.in-Some.next) c.self.view_is
    (sym (lookup_by c.self.inside.nexts.entries c.args.source c.in-Data.transfer) ∙ sym c.get.ensures.value ∙ sym c.copied.ensures ∙ c.in-Some.is))

pub returns-clause-knows : goal.returns-clause-knows
returns-clause-knows c files k =
    let old = c.self.inside.nexts.entries in
    let new = c.insert.new.self.entries in
    let none : 0 ≡ next_kept old c.args.source c.in-Data.transfer =
    sym (ap (λ o. unwrap_or o 0) (sym c.get.ensures.value ∙ sym c.copied.ensures ∙ c.in_default-copied.is)) ∙ next_kept_by old c.args.source c.in-Data.transfer in
    knows_same _ files new
    (λ s t. next_kept-written old new c.args.source c.in-Data.transfer 0 c.in_ok-insert.ensures.updates.0 s t ∙ sym (next_kept-still old c.args.source c.in-Data.transfer 0 none s t))
    (subst (λ (v : CourierData). Knows v files) (sym c.self.view_is) k)

pub returns-clause-next : goal.returns-clause-next
returns-clause-next c =
    rw c.in-Data.is (sym (lookup_by c.insert.new.self.entries c.args.source c.in-Data.transfer) ∙ c.in_ok-insert.ensures.updates.1)
