-- Kit: how an audit follows a run: the report is compared with the lines of what happened, and the charges are added up.
use Rattle.std.specs.Prelude.{◌≡◌, ℕ, cond, is_some, List, [], map, Result, OnOk}
use Rattle.std.specs.declared.alloc.AllocError.{AllocError}
use Rattle.tva_base.specs.declared.event.Event.{Event}
use Rattle.tva_plan.specs.declared.config.Config.{Config}
use Rattle.tva_lines.specs.Lines.{text_of_event}
use Rattle.tva_report.specs.Lines.{first_bad}
use Rattle.tva_report.specs.Ahead.{bad_ahead}
use Rattle.tva_report.specs.Compared as compared
use Rattle.tva_audit.specs.declared.followed.Followed.{Followed}
use Rattle.tva_audit.specs.Tallies.{AreTallied}

-- the events whose lines are still to be compared: none, once there is a difference
abbrev pub left : Followed → List Event → List Event
left f events = cond (is_some f.comparison.wanted) [] events

-- it stands for a report and for these events
pub record Follows (config : Config) (report : List ℕ) (told : List Event) (f : Followed) : Type 0 where
  pub compares : compared.StandsFor f.comparison report (map (text_of_event config) told)
  pub tallied : AreTallied config told f.tallies.items

-- what is ahead in the report tells its first bad line, and where memory wasn't wanting it stands for these events
pub record HasFollowed (config : Config) (report : List ℕ) (told : List Event) (result : Result Unit AllocError)
    (f : Followed) : Type 0 where
  pub bad : first_bad report ≡ bad_ahead f.comparison.ahead
  pub follows : OnOk result (Follows config report told f)
