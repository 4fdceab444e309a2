-- Product: the nodes of a network, and what reaches each.
use Rattle.std.specs.Prelude.{ℕ, zero, suc, ◌+◌, ◌*◌, ◌==◌, if◌then◌else◌, List, [], map, filter}
use Rattle.std.specs.Prelude.{slice_get, slice_index_or, Option, Some, None}
use Rattle.std.specs.Option.{option_map, option_map_or}
use Rattle.std.specs.List.{filter_map}
use Rattle.tva_base.specs.declared.plan.LinkPlan.{LinkPlan}
use Rattle.tva_shim.specs.Packets.{packet_length}
use Rattle.tva_plan.specs.declared.config.Config.{Config}
use Rattle.tva_plan.specs.Wiring.{picked}
use Rattle.tva_rows.specs.declared.rows.Row.{Row}
use Rattle.tva_run.specs.declared.kinds.Input.{Input}
use Rattle.tva_run.specs.declared.kinds.Input.TheVariants.{FromTrace, Arrival}
use Rattle.tva_run.specs.declared.kinds.Sending.{Sending}
use Rattle.tva_run.specs.Sites.{Site, site_of}
use Rattle.tva_run.specs.Entries.{Entry, Took, Started}
use Rattle.tva_run.specs.Told.{at_time}

-- ## nodes

-- a link with its number, where it begins at that node
abbrev pub link_from : ℕ → ℕ → LinkPlan → Option (ℕ × LinkPlan)
link_from node number link = if link.from == node then Some (number, link) else None

-- the links out of a node, in the order of their numbers
abbrev pub links_out : ℕ → List LinkPlan → List (ℕ × LinkPlan)
links_out node links = picked (link_from node) 0 links

-- the node of that number
abbrev pub site_at : Config → ℕ → Option Site
site_at config node =
    option_map (λ plan. site_of node plan (links_out node config.links)) (slice_get config.nodes node)

-- a log for each node; none past the last node
abbrev pub Logs : Type 0
Logs = List (List Entry)

abbrev pub log_at : Logs → ℕ → List Entry
log_at logs node = slice_index_or logs node []

-- ## what reaches a node

-- its rows of the trace
abbrev pub rows_at : List Row → ℕ → List Input
rows_at rows node = map FromTrace (filter (λ row. row.node == node) rows)

-- a packet that a link starts is sent in its length's time, and then under way for the link's delay
abbrev pub arrival_of : ℕ → LinkPlan → Entry → Option Input
arrival_of number link (Took input content) = None
arrival_of number link (Started time on class packet) =
    if on == number
    then Some (Arrival (at_time (time + packet_length packet * link.limits.ns_per_byte + link.delay)) number packet)
    else None

-- what arrives on a link of what the node before it starts
abbrev pub arrivals : ℕ → LinkPlan → List Entry → List Input
arrivals number link log = filter_map (arrival_of number link) log

-- what arrives at a node on a link: nothing where the link does not end there
abbrev pub arrivals_at : Logs → ℕ → ℕ → LinkPlan → List Input
arrivals_at logs node number link = if link.to == node then arrivals number link (log_at logs link.from) else []

-- what reaches a node from each source: the trace, then each link by its number
abbrev pub reaches : Config → List Row → Logs → ℕ → ℕ → List Input
reaches config rows logs node zero = rows_at rows node
reaches config rows logs node (suc number) =
    option_map_or (arrivals_at logs node number) (slice_get config.links number) []

-- what a node's sending is where it arrives
abbrev pub arrival : Sending → Input
arrival sent = Arrival sent.arrive sent.link sent.packet
