use Rattle.tva_report.proofs.Common.{sym, rules}
use Rattle.std.proofs.lemmas.List.Sorted.{IsPartitionPoint-from_clause, IsPartitionedBy-leb}
use Rattle.tva_base.specs.Changes.{has_come}
use Rattle.tva_report.proofs.Boots.{count_to_point, never_falls}
use Rattle.tva_report.proofs.charged.boot_among.Goals as goal

pub returns : goal.returns
returns c =
    let now = c.args.now.0 in
    let parted = IsPartitionedBy-leb (λ change. change.0.0) c.args.restarts.now now (never_falls (λ change. change.0.0) c.args.restarts.now c.requires) in
    sym (count_to_point (λ change. has_come now change.0) c.args.restarts.now c.partition_point.result c.partition_point.ensures.bound
    (IsPartitionPoint-from_clause (λ change. has_come now change.0) c.args.restarts.now c.partition_point.result c.partition_point.ensures.partitioned parted (search rules)))
