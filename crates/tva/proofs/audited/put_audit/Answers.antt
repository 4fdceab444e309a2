use Rattle.tva.proofs.Common.{flat_map, sum_line}
use Rattle.tva.proofs.SumLines.{audit_put}
use Rattle.tva.proofs.audited.put_audit.Goals as goal

pub returns : goal.returns
returns c =
    audit_put (flat_map (sum_line c.args.plan.now) c.args.sums.now) c.put_sums.new.text.items c.put_count.new.text.items c.push.new.self.items c.args.lines
    c.in_ok-put_sums.ensures c.in_ok-put_count.ensures c.in_ok-push.ensures.items
