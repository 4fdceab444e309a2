use Rattle.tva_transfer.proofs.Common.{◌≡◌, ℕ, List, ◌∷◌, false, eqb, sym, subst, ◌∙◌, arith, slice_get, IfSome, is_gt, eqb-true, eqb-false, false_from_ne_true, not-false, not-true, Address}
use Rattle.tva_transfer.proofs.Compared.{has_key_by, key_before, key_cmp, key_from}
use Rattle.tva_transfer.proofs.courier.first_due.Goals as goal

pub returns-in_err-to-clause-none : goal.returns-in_err-to-clause-none
returns-in_err-to-clause-none c = rw c.from_residual.ensures (λ place. sym (has_key_by c.args.due.now.keys c.args.dst place) ∙ (c.range.ensures.in_range tt).5 c.in_err-to.ensures.steps.0 (c.args.dst, place) (key_from c.args.dst place, tt))

first_at : (r rest : List (Address × ℕ)) (key q : Address × ℕ) → r ≡ key ∷ rest → IfSome (slice_get r 0) (λ k. is_gt (key_cmp k q) ≡ false) → is_gt (key_cmp key q) ≡ false
first_at r rest key q is h = subst (λ xs. IfSome (slice_get xs 0) (λ k. is_gt (key_cmp k q) ≡ false)) is h

pub returns-then-ne-clause-none : goal.returns-then-ne-clause-none
returns-then-ne-clause-none c place = false_from_ne_true _ (λ has.
    let key = c.in_ok-to.field-0.now in
    let first = first_at c.range.result _ key (c.args.dst, place) c.in_ok-to.ensures.steps ((c.range.ensures.in_range tt).2 (c.args.dst, place) (key_from c.args.dst place, tt) (has_key_by c.args.due.now.keys c.args.dst place ∙ has)) in
    let within = rw c.in_ok-to.ensures.steps at (c.range.ensures.in_range tt).1 in
    let above = (key_before (c.args.dst, 0) key within.0.0).0 in
    let below = (key_before key (c.args.dst, place) first).0 in
    let other : eqb key.0.0 c.args.dst.0 ≡ false = not-true _ (sym c.if-ne.ensures) in
    eqb-false key.0.0 c.args.dst.0 other (omega (arith, above, below)))

pub returns-clause-first : goal.returns-clause-first
returns-clause-first c place has =
    let key = c.in_ok-to.field-0.now in
    let first = first_at c.range.result _ key (c.args.dst, place) c.in_ok-to.ensures.steps ((c.range.ensures.in_range tt).2 (c.args.dst, place) (key_from c.args.dst place, tt) (has_key_by c.args.due.now.keys c.args.dst place ∙ has)) in
    (key_before key (c.args.dst, place) first).1 (eqb-true key.0.0 c.args.dst.0 (not-false _ (sym c.if-ne.ensures)))
