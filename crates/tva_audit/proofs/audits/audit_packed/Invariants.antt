use Rattle.tva_audit.proofs.Common.{◌-◌}
use Rattle.tva_audit.proofs.Windowed.{FollowedBy}
use Rattle.tva_audit.proofs.Worked.{IsAfoot}
use Rattle.tva_audit.proofs.audits.audit_packed.Given as goal

-- what the network gave before the last window is followed
abbrev pub invariant-loop-alloc : goal.invariant-loop-alloc
invariant-loop-alloc g l = IsAfoot l.config l.fn.rows (FollowedBy l.config l.fn.rows l.report l.followed) l.events.items l.net

abbrev pub decreases-loop-alloc : goal.decreases-loop-alloc
decreases-loop-alloc g l = l.net.limit - l.net.totals.events
