-- Crate: how addresses' pairs, rights and grants are ordered: by their first field, and where it is the same by the
-- next.
use Rattle.std.specs.{declared.cmp.Ordering.Ordering, Ordering.nat_cmp, Ordering.ordering_then}
use Rattle.tva_base.specs.declared.packet.{Flow.Flow, Grant.Grant, Rights.Rights}

abbrev pub flow_order : Flow → Flow → Ordering
flow_order a b = ordering_then (nat_cmp a.src.0 b.src.0) (nat_cmp a.dst.0 b.dst.0)

abbrev pub rights_order : Rights → Rights → Ordering
rights_order a b = ordering_then (nat_cmp a.n b.n) (nat_cmp a.t b.t)

abbrev pub grant_order : Grant → Grant → Ordering
grant_order a b = ordering_then (flow_order a.flow b.flow) (ordering_then (rights_order a.rights b.rights) (nat_cmp a.second b.second))
