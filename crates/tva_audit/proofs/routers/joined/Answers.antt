use Rattle.tva_audit.proofs.Common.{◌≡◌, ℕ, ◌*◌, List, ◌++◌, length, take, Result, sym, ◌∙◌, ap, subst, arith, IfOk, slice_chunk, AllocError, Global, Vec, RouterSum, sums_told}
use Rattle.tva_audit.proofs.Parts.{no_chunk, part_told}
use Rattle.tva_audit.proofs.routers.joined.Goals as goal

pub loop-part-init : goal.loop-part-init
loop-part-init c = λ size nodes are. no_chunk nodes size c.new-all.result.items c.new-all.ensures.items

pub loop-part-preserved : goal.loop-part-preserved
loop-part-preserved c = λ size nodes are.
    let n = c.loop-part.part-index in
    let sums = c.in-Ok.sums in
    let there = sym c.part-item.is ∙ c.in-Ok.is in
    part_told nodes size n c.loop-part.all.items c.extend_from_slice.new.self.items sums.items (c.loop-part.invariant size nodes are)
    (subst (λ (r : Result (Vec RouterSum Global) AllocError). IfOk r (λ s. s.items ≡ sums_told (slice_chunk nodes size n))) there (are n c.part-item.result c.loop-part-test.true))
    (c.in_ok-extend_from_slice-in-Ok.ensures.items ∙ ap (λ (ss : List RouterSum). c.loop-part.all.items ++ ss) c.as_slice.ensures.value)

pub returns : goal.returns
returns c = λ size nodes are.
    let all : c.loop-part.part-index ≡ length c.args.parts.now = omega (arith, c.loop-part.auto.part-index-end, c.loop-part-test.false) in
    subst (λ (k : ℕ). c.loop-part.all.items ≡ sums_told (take (k * size) nodes)) all (c.loop-part.invariant size nodes are)
