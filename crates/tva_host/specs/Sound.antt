-- Kit: that each host of the program keeps some history, for the invariant of its model.
use Rattle.std.specs.Prelude.{◌≤◌}
use Rattle.tva_base.specs.Plan.{IsHostPlan}
use Rattle.tva_sender.specs.Showable.{AreShowable}
use Rattle.tva_host.specs.{History.History, Stands.HostData, Stands.Keeps}

-- by a valid plan, with a history in which a shim could carry all that was prepared and taken
pub record HasHistory (v : HostData) : Type 0 where
  pub history : History
  pub valid : IsHostPlan v.plan
  pub keeps : Keeps v history
  pub showable : AreShowable v.plan.version history.contacts
  pub past : v.sender.last ≤ v.last
