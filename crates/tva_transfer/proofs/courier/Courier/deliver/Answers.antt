use Rattle.tva_transfer.proofs.Common.{◌≡◌, ℕ, ◌&&◌, eqb, cond, Some, sym, ap, subst, ◌∙◌, refl, lookup, IsSome, unwrap_or, Address, CourierData, Knows, next_kept}
use Rattle.tva_transfer.proofs.Compared.{lookup_by, next_kept-written}
use Rattle.tva_transfer.proofs.Knowing.{behind, knows_delivered, next_kept-still}
use Rattle.tva_transfer.proofs.courier.Courier.deliver.Goals as goal
use Rattle.tva_transfer.proofs.courier.Courier.deliver.Goals.{in-Some, in_default}

pub returns-then-behind-next-clause-knows : goal.returns-then-behind-next-clause-knows
returns-then-behind-next-clause-knows c files k =
    let source = c.args.source in
    let transfer = c.args.transfer in
    let old = c.args.self.now.nexts in
    let kept : c.args.next ≡ next_kept old source transfer = sym (ap (λ o. unwrap_or o 0) c.requires.next) in
    let same : behind (next_kept old source transfer) c.args.first c.args.bytes ≡ next_kept old source transfer =
    ap (λ n. behind n c.args.first c.args.bytes) (sym kept) ∙ sym c.next_behind-behind.ensures ∙ c.if-behind-next.true ∙ kept in
    knows_delivered _ files source transfer c.args.first c.args.bytes old (next_kept-still old source transfer _ same) k

pub returns-clause-knows : goal.returns-clause-knows
returns-clause-knows c files k =
    let source = c.args.source in
    let transfer = c.args.transfer in
    let old = c.self.inside.nexts.entries in
    let is = subst (λ (v : CourierData). lookup (λ (key : Address × ℕ). eqb source.0 key.0.0 && eqb transfer key.1) v.nexts ≡ Some c.args.next) (sym c.self.view_is) c.requires.next in
    let kept : c.args.next ≡ next_kept old source transfer = sym (ap (λ o. unwrap_or o 0) is) in
    elim c.match-get_mut.branch [
      | in-Some w ↦
          let new = (c.get_mut.follows.lender c.next_behind-behind.result).entries in
          let updates = ((c.get_mut.follows.holds c.next_behind-behind.result).3 (subst (λ o. IsSome o) (sym (lookup_by old source transfer ∙ is)) refl)).0 in
          rw w.self-inside-is
          (knows_delivered _ files source transfer c.args.first c.args.bytes new
          (λ s t. next_kept-written old new source transfer c.next_behind-behind.result updates s t
          ∙ ap (λ n. cond (eqb source.0 s.0 && eqb transfer t) n (next_kept old s t)) (c.next_behind-behind.ensures ∙ ap (λ n. behind n c.args.first c.args.bytes) kept))
          (subst (λ (v : CourierData). Knows v files) (sym c.self.view_is) k))
      | in_default w ↦ absurd (cc (sym (lookup_by old source transfer ∙ is) ∙ sym w.in_default.ensures.value))
    ]
