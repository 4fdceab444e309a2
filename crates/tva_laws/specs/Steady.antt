-- Crate: that a path is steady in the logs of a network.
use Rattle.std.specs.Prelude.{◌≡◌, ℕ, ◌<◌, true, false, List, ◌∷◌, ◌++◌, slice_get, Some}
use Rattle.tva_base.specs.declared.packet.Fate.{Fate}
use Rattle.tva_base.specs.declared.plan.HostPlan.{HostPlan}
use Rattle.tva_base.specs.declared.plan.RouterPlan.{RouterPlan}
use Rattle.tva_shim.specs.Packets.{PacketData}
use Rattle.tva_router.specs.Boots.{charges_at}
use Rattle.tva_router.specs.Marks.{is_marked}
use Rattle.tva_plan.specs.declared.config.Config.{Config}
use Rattle.tva_plan.specs.declared.config.NodePlan.TheVariants.{Router, Host}
use Rattle.tva_run.specs.declared.kinds.Input.TheVariants.{Arrival}
use Rattle.tva_run.specs.Entries.{Entry, Took, Arrived}
use Rattle.tva_run.specs.Parts.{charges}
use Rattle.tva_run.specs.Told.{at_time}
use Rattle.tva_run.specs.Reaching.{Logs, log_at}
use Rattle.tva_laws.specs.Deals.{coming, comings, deals}
use Rattle.tva_laws.specs.Paths.{IsSteadyPath, shows}

-- whose path it is, and where: in a configuration the host with its number, the router with its, and the delay between them
-- in nanoseconds
pub record Walk : Type 0 where
  pub config : Config
  pub sender : ℕ
  pub host : HostPlan
  pub node : ℕ
  pub router : RouterPlan
  pub delay : ℕ

-- a packet that shows a grant comes to the router behind these entries, on a link, unmarked and below the hop limit, and the
-- path is steady up to it
pub record IsSteadyIn (logs : Logs) (walk : Walk) (before : List Entry) (time link : ℕ) (packet : PacketData) (fate : Fate)
    (onward : PacketData) : Type 0 where
  pub sender : slice_get walk.config.nodes walk.sender ≡ Some (Host walk.host)
  pub node : slice_get walk.config.nodes walk.node ≡ Some (Router walk.router)
  pub rest : List Entry
  pub here : log_at logs walk.node
      ≡ before ++ Took (Arrival (at_time time) link packet) (Arrived (Some link) packet fate onward) ∷ rest
  pub unmarked : is_marked packet.carried ≡ false
  pub hops : packet.hops < 32
  pub shown : shows packet.carried ≡ true
  pub steady : IsSteadyPath walk.host walk.router walk.delay (deals packet.flow.dst (log_at logs walk.sender))
      (comings packet.flow before) (charges_at walk.router time (charges before))
      (coming (Arrival (at_time time) link packet) packet fate)
