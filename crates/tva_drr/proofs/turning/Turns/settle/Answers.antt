use Rattle.tva_drr.proofs.Common.{◌+◌, ◌^◌, ◌<◌, length, sym, subst, arith, IsNone, refl, nat_tests, Served, TurnsOver}
use Rattle.std.proofs.Common.{All}
use Rattle.tva_drr.proofs.Sources.{next_left, next_turned, kept-left, kept-turned}
use Rattle.tva_drr.proofs.turning.Turns.settle.Goals as goal

pub refill-requires : goal.refill-requires
refill-requires g c =
    rw c.leave.ensures.waiting (next_left (λ (t : Served g.row.S.Denot). t.deficit + c.self.inside.limits.quantum < 2 ^ 32) c.self.inside.waiting.items
    (subst (λ (v : TurnsOver g.row.S.Denot). All (λ (t : Served g.row.S.Denot). t.deficit + v.limits.quantum < 2 ^ 32) v.turns) (sym c.self.view_is) c.requires))

pub refill-requires-then-index-length : goal.refill-requires-then-index-length
refill-requires-then-index-length g c =
    rw c.rotate_left.ensures.items (next_turned (λ (t : Served g.row.S.Denot). t.deficit + c.self.inside.limits.quantum < 2 ^ 32) c.self.inside.waiting.items
    (subst (λ (v : TurnsOver g.row.S.Denot). All (λ (t : Served g.row.S.Denot). t.deficit + v.limits.quantum < 2 ^ 32) v.turns) (sym c.self.view_is) c.requires))

pub invariant_of-self : goal.invariant_of-self
invariant_of-self g c =
    let i = c.self.inside in
    let v = c.self.invariant in
    let n : 0 < length i.waiting.items = grind (arith, nat_tests) in
    let none = c.next_length.ensures.none (subst (λ o. IsNone o) (sym c.in-None.is) refl) in
    let k = kept-left g.S.Source.emptied (g.S.Source.fresh i.limits) i.keys.places c.self.inside.limits.quantum i.keys.keys i.waiting.items i.spare.items c.index.result.now n c.index.ensures none (v.0, v.1, v.2, v.3) in
    rw (c.refill.ensures.left, c.leave.ensures.waiting, c.leave.ensures.spare, c.leave-in-None.ensures) (
      k.0,
      k.1,
      k.2,
      k.3,
      omega (arith, v.4, c.refill.ensures.same, c.leave.ensures.same.0),
      omega (arith, v.5, c.leave.ensures.same.1),
    )

pub invariant_of-self-then-index-length : goal.invariant_of-self-then-index-length
invariant_of-self-then-index-length g c =
    let i = c.self.inside in
    let v = c.self.invariant in
    let k = kept-turned g.S.Source.emptied (g.S.Source.fresh i.limits) i.keys.places c.self.inside.limits.quantum i.keys.keys i.waiting.items i.spare.items (v.0, v.1, v.2, v.3) in
    rw (c.refill-then-index-length.ensures.left, c.rotate_left.ensures.items, c.turn.ensures) (
      k.0,
      k.1,
      k.2,
      k.3,
      omega (arith, v.4, c.refill-then-index-length.ensures.same, c.rotate_left.ensures.capacity),
      v.5,
    )
