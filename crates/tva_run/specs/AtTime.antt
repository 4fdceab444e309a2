-- Kit: a node's log within one time, while its inputs are taken and its links decide in turn.
use Rattle.std.specs.Prelude.{◌≡◌, ℕ, ◌<◌, ◌≤◌, ◌⊎◌, List, [], None}
use Rattle.std.specs.List.{AllByRecursion}
use Rattle.tva_run.specs.Joins.{IsInOrder}
use Rattle.tva_run.specs.declared.kinds.Input.{Input}
use Rattle.tva_run.specs.Sites.{Site}
use Rattle.tva_run.specs.Entries.{Entry, entry_time, entry_rank}
use Rattle.tva_run.specs.NodeLog.{GoesOn, LeavesNone, starts}

-- before the time, or at it and of no higher rank
abbrev pub IsPlaced : ℕ → ℕ → Entry → Type 0
IsPlaced time rank e = (entry_time e < time) ⊎ ((entry_time e ≡ time) × (entry_rank e ≤ rank))

-- these inputs are taken, and at the time the links below that number have decided
pub record IsAt (site : Site) (time rank : ℕ) (taken : List Input) (log : List Entry) : Type 0 where
  pub in_order : IsInOrder entry_time entry_rank log
  pub placed : AllByRecursion (IsPlaced time rank) log
  pub steps : GoesOn site [] taken log
  pub none_before : LeavesNone site time log
  pub none_now : (link : ℕ) → link < rank → starts site log link time ≡ None
