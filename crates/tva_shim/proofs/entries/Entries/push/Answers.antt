use Rattle.tva_shim.proofs.Common.{arith}
use Rattle.tva_shim.proofs.Paired.{as_many, entries_more, paired_more}
use Rattle.tva_shim.proofs.entries.Entries.push.Goals as goal

pub push-requires : goal.push-requires
push-requires c =
    (omega arith, omega (arith, c.requires, as_many c.self.inside.tags.items c.self.inside.precaps.items _ c.self.invariant.0 c.self.view_is))

pub push-requires-2 : goal.push-requires-2
push-requires-2 c = (
  omega arith,
  omega (arith, c.requires, c.self.invariant.0, as_many c.self.inside.tags.items c.self.inside.precaps.items _ c.self.invariant.0 c.self.view_is),
)

pub invariant_of-self : goal.invariant_of-self
invariant_of-self c =
    rw (c.push.ensures.items, c.push-2.ensures.items)
    (entries_more c.self.inside.tags.items c.self.inside.precaps.items _ c.args.entry c.self.invariant.0 c.self.view_is c.self.invariant.1 c.requires (search (c.self.ranges, c.well_formed)) (search (c.self.ranges, c.well_formed)))

pub returns : goal.returns
returns c =
    rw (c.push.ensures.items, c.push-2.ensures.items)
    (paired_more c.self.inside.tags.items c.self.inside.precaps.items _ c.args.entry c.self.invariant.0 c.self.view_is)
