-- Product: what every run keeps of files, by the logs of its nodes.
use Rattle.std.specs.Prelude.{◌≡◌, ℕ, ◌+◌, ◌≤◌, ◌==◌, ◌&&◌, if◌then◌else◌, List, [], ◌∷◌, ◌++◌, slice_get, sum_by}
use Rattle.std.specs.Prelude.{Option, Some, None}
use Rattle.std.specs.Option.{option_and_then}
use Rattle.std.specs.List.{filter_map}
use Rattle.tva_base.specs.declared.addresses.Address.{Address}
use Rattle.tva_base.specs.declared.event.DataLine.{DataLine}
use Rattle.tva_base.specs.declared.packet.Flow.{Flow}
use Rattle.tva_base.specs.declared.packet.Upper.{Upper}
use Rattle.tva_base.specs.declared.packet.Upper.TheVariants.{Data}
use Rattle.tva_base.specs.declared.plan.HostPlan.{HostPlan}
use Rattle.tva_shim.specs.Packets.{PacketData}
use Rattle.tva_plan.specs.declared.config.Config.{Config}
use Rattle.tva_plan.specs.declared.config.NodePlan.TheVariants.{Host}
use Rattle.tva_transfer.specs.declared.transfers.Transfer.{Transfer}
use Rattle.tva_transfer.specs.Couriers.{Follow, to_from}
use Rattle.tva_run.specs.declared.kinds.Input.{Input}
use Rattle.tva_run.specs.Sites.{Site}
use Rattle.tva_run.specs.Entries.{Content, Received, Entry, Took, Started, entry_time}
use Rattle.tva_run.specs.Parts.{files}
use Rattle.tva_run.specs.Reaching.{Logs, log_at, site_at}
use Rattle.tva_run.specs.Run.{logs_before}
use Rattle.tva_laws.specs.Origins.{made_in}

-- the range of a source's transfer that a packet brought
abbrev pub range_by : Address → ℕ → PacketData → DataLine → Option DataLine
range_by source transfer packet r =
    if (packet.flow.src.0 == source.0) && (r.transfer == transfer) then Some r else None

abbrev pub range_in : Address → ℕ → Content → Option DataLine
range_in source transfer (Received from packet receipt went range) =
    option_and_then (range_by source transfer packet) range
range_in source transfer _ = None

abbrev pub range_at : Address → ℕ → Entry → Option DataLine
range_at source transfer (Took input content) = range_in source transfer content
range_at source transfer (Started time link class packet) = None

-- the ranges of a source's transfer that were delivered at a node, in their order, and how many bytes they have
abbrev pub ranges : Address → ℕ → List Entry → List DataLine
ranges source transfer log = filter_map (range_at source transfer) log

abbrev pub bytes_delivered : Address → ℕ → List Entry → ℕ
bytes_delivered source transfer log = sum_by (λ r. r.bytes) (ranges source transfer log)

-- the node is a host with that plan
abbrev pub IsHostAt : Config → ℕ → HostPlan → Type 0
IsHostAt config node plan = (site : Site) × (site_at config node ≡ Some site) × (site.plan ≡ Host plan)

-- the transfer of that number at a host
abbrev pub transfer_at : HostPlan → List Entry → ℕ → Option Transfer
transfer_at plan log transfer = slice_get (files plan log).transfers transfer

-- an entry of the log makes a packet of that flow with that upper part
pub record HasMade (log : List Entry) (goes : Flow) (brings : Upper) : Type 0 where
  pub before : List Entry
  pub input : Input
  pub content : Content
  pub rest : List Entry
  pub here : log ≡ before ++ Took input content ∷ rest
  pub packet : PacketData
  pub makes : made_in content ≡ Some packet
  pub flow : packet.flow ≡ goes
  pub upper : packet.upper ≡ brings

-- by these logs, a range that is delivered at a node is of a file of its source: the node and the source are hosts, the
-- source began a transfer of that number to the node and sent it just this range, which has a byte at least and ends
-- within the file's size
pub record IsOfFile (config : Config) (logs : Logs) (node : ℕ) (source : Address) (transfer : ℕ) (r : DataLine)
    : Type 0 where
  pub to : HostPlan
  pub receiver : IsHostAt config node to
  pub other : ℕ
  pub from : HostPlan
  pub sender : IsHostAt config other from
  pub address : from.address ≡ source
  pub file : Transfer
  pub is : transfer_at from (log_at logs other) transfer ≡ Some file
  pub dst : file.dst ≡ to.address
  pub within : r.first + r.bytes ≤ file.size
  pub some : 1 ≤ r.bytes
  pub sent : HasMade (log_at logs other) (to_from to.address source) (Data transfer r.first r.bytes)

-- at each node the ranges of a source's transfer follow one another from the first byte on, and each is of a file of its
-- source by what all nodes did before it is delivered; at each place of a source's log no more of a transfer is
-- acknowledged than was delivered at its destination before; and of one to nobody's address nothing is
pub record KeepsFiles (config : Config) (logs : Logs) : Type 0 where
  pub in_order : (node : ℕ) (source : Address) (transfer : ℕ) → Follow 0 (ranges source transfer (log_at logs node))
  pub of_file : (node : ℕ) (before : List Entry) (e : Entry) (rest : List Entry) → log_at logs node ≡ before ++ e ∷ rest
      → (source : Address) (transfer : ℕ) (r : DataLine) → range_at source transfer e ≡ Some r
      → IsOfFile config (logs_before (entry_time e) logs) node source transfer r
  pub acknowledged : (node other : ℕ) (to from : HostPlan) → IsHostAt config node to → IsHostAt config other from
      → (before : List Entry) (e : Entry) (rest : List Entry) → log_at logs other ≡ before ++ e ∷ rest
      → (transfer : ℕ) (file : Transfer) → transfer_at from (before ++ e ∷ []) transfer ≡ Some file
      → file.dst ≡ to.address
      → file.acked ≤ bytes_delivered from.address transfer (log_at (logs_before (entry_time e) logs) node)
  pub nobody : (other : ℕ) (from : HostPlan) → IsHostAt config other from
      → (transfer : ℕ) (file : Transfer) → transfer_at from (log_at logs other) transfer ≡ Some file
      → ((node : ℕ) (to : HostPlan) → IsHostAt config node to → file.dst ≡ to.address → ⊥) → file.acked ≡ 0
