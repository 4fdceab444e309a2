-- The top level and its tables, as the code and as the definitions see them.
use Rattle.tva_config_entries.proofs.Common.{◌≡◌, ◌+◌, length, length-map, counts_of, seen_top}
use Rattle.tva_config_entries.specs.declared.top.TopTable.{TopTable}

pub counts_seen : (t : TopTable) → counts_of (length t.routers.items + length t.hosts.items) (length t.links.items) (length t.routes.items) (length t.restarts.items) (length t.reroutes.items)
    ≡ counts_of (length (seen_top t).routers + length (seen_top t).hosts) (length (seen_top t).links) (length (seen_top t).routes)
    (length (seen_top t).restarts) (length (seen_top t).reroutes)
counts_seen t = simp length-map
