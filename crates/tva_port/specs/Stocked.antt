-- Kit: a port with memory for packets by value.
use Rattle.std.specs.Prelude.{◌≡◌, ◌+◌, ◌≤◌, List}
use Rattle.tva_base.specs.Plan.{AreLinkLimits}
use Rattle.tva_port.specs.Log.{Entry}
use Rattle.tva_port.specs.Stands.{PortData, StandsFor}
use Rattle.tva_port.specs.Counts.{waiting_count, places_in, StockData}

-- the port stands for a log; with what waits there is memory for each place and one packet more, and there is room
-- for all
pub record IsStocked (v : PortData) (stock : StockData) : Type 0 where
  pub log : List Entry
  pub stands : StandsFor v log
  pub limits : AreLinkLimits v.limits
  pub count : stock.count + waiting_count v.waiting ≡ places_in v.limits + 1
  pub room : places_in v.limits + 1 ≤ stock.room
