use Rattle.tva_trace.proofs.Common.{rules, ◌∙◌, sym, ap, ◌<◌, ◌==◌, length, ◌+◌, arith, None, slice_split, length_push}
use Rattle.std.proofs.lemmas.Iterator.Splits.{YieldsList-from_slice_split}
use Rattle.std.proofs.lemmas.Iterator.Consumers.{YieldsList-turn, YieldsList-end}
use Rattle.tva_trace.proofs.ItemLists.{caps_of_items-some, read_more, read_none, read_all, too_many}
use Rattle.tva_trace.proofs.items.caps_of.Goals as goal

pub returns-then-as_slice-eq16 : goal.returns-then-as_slice-eq16
returns-then-as_slice-eq16 c =
    let turn = YieldsList-turn (YieldsList-from_slice_split _ (λ b. b == 59) c.args.text.now (cc) (cc) (cc) (λ x b q k. search rules)) c.loop-item.yielded _ c.loop-item.yielded_by _ _ c.in-Some.item c.in-Some.is c.next.ensures.steps in
    let many : 16 < length (slice_split (λ b. b == 59) c.args.text.now) = omega (arith, turn.0, c.loop-item.invariant.count, ap length c.as_slice.ensures.items) in
    sym (caps_of_items-some c.args.plans.now c.args.flow c.args.rights c.args.text.now None (sym c.is_empty.ensures ∙ c.if-is_empty.false) (too_many _ _ many))

pub returns-in_err-item_of : goal.returns-in_err-item_of
returns-in_err-item_of c =
    let turn = YieldsList-turn (YieldsList-from_slice_split _ (λ b. b == 59) c.args.text.now (cc) (cc) (cc) (λ x b q k. search rules)) c.loop-item.yielded _ c.loop-item.yielded_by _ _ c.in-Some.item c.in-Some.is c.next.ensures.steps in
    c.from_residual.ensures ∙ sym (caps_of_items-some c.args.plans.now c.args.flow c.args.rights c.args.text.now None (sym c.is_empty.ensures ∙ c.if-is_empty.false) (read_none c.args.plans.now c.args.flow c.args.rights _ (length c.loop-item.yielded) c.in-Some.item.now c.loop-item.caps turn.0 turn.1 (sym c.in_err-item_of.ensures) c.loop-item.invariant.read))

pub loop-item-preserved : goal.loop-item-preserved
loop-item-preserved c =
    let turn = YieldsList-turn (YieldsList-from_slice_split _ (λ b. b == 59) c.args.text.now (cc) (cc) (cc) (λ x b q k. search rules)) c.loop-item.yielded _ c.loop-item.yielded_by _ _ c.in-Some.item c.in-Some.is c.next.ensures.steps in
    record {
      can_next = search rules;
      finite = search rules;
      read = rw (c.push.ensures, length_push) (read_more c.args.plans.now c.args.flow c.args.rights _ (length c.loop-item.yielded) c.in-Some.item.now c.loop-item.caps c.in_ok-item_of.field-0 turn.0 turn.1 (sym c.in_ok-item_of.ensures) c.loop-item.invariant.read);
      count = rw (c.push.ensures, length_push, length_push) (ap (λ n. n + 1) c.loop-item.invariant.count);
      few = rw (c.push.ensures, length_push) (omega (arith, c.loop-item.invariant.few, ap length c.as_slice.ensures.items));
    }

pub returns : goal.returns
returns c =
    let end = YieldsList-end (YieldsList-from_slice_split _ (λ b. b == 59) c.args.text.now (cc) (cc) (cc) (λ x b q k. search rules)) c.loop-item.yielded _ c.loop-item.yielded_by _ _ c.in-None.is c.next.ensures.steps in
    sym (caps_of_items-some c.args.plans.now c.args.flow c.args.rights c.args.text.now _ (sym c.is_empty.ensures ∙ c.if-is_empty.false) (read_all c.args.plans.now c.args.flow c.args.rights _ (length c.loop-item.yielded) c.loop-item.caps end.1 (omega (arith, end.1, c.loop-item.invariant.count, c.loop-item.invariant.few)) c.loop-item.invariant.read))
