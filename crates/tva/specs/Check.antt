-- Product: the line of the command `check`.
use Rattle.std.specs.Prelude.{ℕ, List, ◌++◌, codes, decimal}
use Rattle.tva_plan.specs.declared.config.Config.{Config}
use Rattle.tva_plan.specs.Counts.{node_count, link_count, route_count, slot_count}

-- what a configuration holds: nodes, links, and the routes and slots of all routers together
unfoldable pub check_line : Config → List ℕ
check_line config =
    codes "config nodes=" ++ decimal (node_count config)
    ++ codes " links=" ++ decimal (link_count config)
    ++ codes " routes=" ++ decimal (route_count config)
    ++ codes " slots=" ++ decimal (slot_count config) ++ codes "\n"
