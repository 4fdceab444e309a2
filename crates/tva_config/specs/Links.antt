-- Product: what links must be to the nodes and to one another.
use Rattle.std.specs.Prelude.{ℕ, ◌+◌, ◌==◌, ◌&&◌, Bool, List, [], ◌∷◌, length, Ok, Option, Some, None, codes}
use Rattle.std.specs.List.{list_any, position_from}
use Rattle.tva_base.specs.declared.plan.LinkPlan.{LinkPlan}
use Rattle.tva_config_entries.specs.declared.faults.ConfigTable.TheVariants as table
use Rattle.tva_config_entries.specs.declared.faults.ConfigRule.TheVariants as rule
use Rattle.tva_config_entries.specs.declared.entries.{HostEntry.HostEntry, LinkEntry.LinkEntry}
use Rattle.tva_config_entries.specs.Faults.{Read, ◌>>=◌, at, fault_at, unless, found}
use Rattle.tva_plan.specs.Wiring.{links_from}

-- the link is from this node to that
abbrev pub joins : ℕ → ℕ → LinkPlan → Bool
joins from to link = (link.from == from) && (link.to == to)

-- the number of the link from one node to another
abbrev pub link_between : List LinkPlan → ℕ → ℕ → Option ℕ
link_between links from to = position_from (joins from to) 0 links

-- both ends are nodes, by the numbers of names, and two, and no earlier link has the same
abbrev pub link_step : (List ℕ → Option ℕ) → List LinkPlan → LinkEntry → Read LinkPlan
link_step node earlier link = do
  from ← found (node link.from) (fault_at (at table.Link (length earlier)) rule.Ends (codes "from"))
  to ← found (node link.to) (fault_at (at table.Link (length earlier)) rule.Ends (codes "to"))
  apart ← unless (from == to) (fault_at (at table.Link (length earlier)) rule.Ends (codes "to"))
  single ← unless (list_any (joins from to) earlier) (fault_at (at table.Link (length earlier)) rule.Pair (codes "to"))
  Ok (record { from = from; to = to; delay = link.delay; tag = link.tag; limits = link.limits })

-- the element of a list of one
abbrev pub only : {A : Type 0} → List A → Option A
only (x ∷ []) = Some x
only _ = None

-- each host, behind so many routers, has one link out
abbrev pub uplink_step : ℕ → List LinkPlan → List ℕ → HostEntry → Read ℕ
uplink_step routers links earlier host =
    found (only (links_from (routers + length earlier) links))
    (fault_at (at table.Host (length earlier)) rule.Uplink (codes "name"))
