use Rattle.tva_flow.proofs.Common.{◌≡◌, ◌<◌, ◌∙◌, sym, length, set, Some, inr, arith, length-set, ltb-true, IsLeastPlace}
use Rattle.tva_flow.proofs.Late.{late-le, raised, turn_left, still_least}
use Rattle.tva_flow.proofs.table.ended_in.Goals as goal

pub loop-turn-init : goal.loop-turn-init
loop-turn-init c = record {
  size = c.requires.size.0;
  below = c.requires.below;
  least = c.in_ok-first.ensures;
  left = inr (omega (arith, late-le c.args.all.now.items c.args.ends.now));
}

pub returns-then-next-first-clause-place : goal.returns-then-next-first-clause-place
returns-then-next-first-clause-place c =
    let i = c.loop-turn.invariant in
    let es = c.args.all.now.items in
    let ns = c.loop-turn.ends in
    let e = c.index-entry.result.now in
    let n : length (set ns c.loop-turn.first e.end) ≡ length es = length-set ns c.loop-turn.first e.end ∙ i.size in
    let m : c.loop-turn.first < length es = omega (arith, i.least.0, i.size) in
    let w : IsLeastPlace (set ns c.loop-turn.first e.end) (Some c.loop-turn.first) = rw (← c.put.ensures, ← c.if-next-first.true) c.in_ok-next.ensures in
    still_least es ns c.loop-turn.first c.args.now e (raised es ns c.loop-turn.first e i.below i.least.0 m c.index-entry.ensures) n i.least.0 w (ltb-true _ _ (sym c.is_live.ensures ∙ c.if-not-is_live.false))

pub loop-turn-preserved : goal.loop-turn-preserved
loop-turn-preserved c =
    let i = c.loop-turn.invariant in
    let es = c.args.all.now.items in
    let ns = c.loop-turn.ends in
    let e = c.index-entry.result.now in
    let n : length (set ns c.loop-turn.first e.end) ≡ length es = length-set ns c.loop-turn.first e.end ∙ i.size in
    let m : c.loop-turn.first < length es = omega (arith, i.least.0, i.size) in
    record {
      size = rw c.put.ensures n;
      below = rw c.put.ensures (raised es ns c.loop-turn.first e i.below i.least.0 m c.index-entry.ensures);
      least = c.in_ok-next.ensures;
      left = rw c.put.ensures (turn_left es ns c.loop-turn.first c.loop-turn._turn c.args.now e i.below i.size i.least c.index-entry.ensures (ltb-true _ _ (sym c.is_live.ensures ∙ c.if-not-is_live.false)) i.left);
    }
