-- Product: what happened at a host with one of its peers, and what came to a router of one flow, as their logs tell
-- it.
use Rattle.std.specs.Prelude.{ℕ, ◌==◌, not, ◌&&◌, if◌then◌else◌, List, [], ◌∷◌, ◌++◌, Option, Some, None}
use Rattle.std.specs.List.{filter_map, flat_map}
use Rattle.tva_base.specs.declared.addresses.Address.{Address}
use Rattle.tva_base.specs.declared.event.BackKind.{BackKind}
use Rattle.tva_base.specs.declared.event.BackKind.TheVariants as became
use Rattle.tva_base.specs.declared.packet.Fate.{Fate}
use Rattle.tva_base.specs.declared.packet.Flow.{Flow}
use Rattle.tva_base.specs.declared.packet.Grant.{Grant}
use Rattle.tva_base.specs.declared.packet.Rights.{Rights}
use Rattle.tva_shim.specs.declared.kinds.ReturnInfo.{ReturnInfo}
use Rattle.tva_shim.specs.declared.kinds.ReturnInfo.TheVariants as backs
use Rattle.tva_shim.specs.Packets.{PacketData}
use Rattle.tva_shim.specs.Shows.{back_in}
use Rattle.tva_flow.specs.Charges.{same_flow}
use Rattle.tva_router.specs.Marks.{is_marked}
use Rattle.tva_host.specs.declared.made.Made.{Made}
use Rattle.tva_rows.specs.declared.rows.RowWhat.{RowWhat}
use Rattle.tva_rows.specs.declared.rows.RowWhat.TheVariants.{Send, Inject, File, Tick}
use Rattle.tva_run.specs.declared.kinds.Input.{Input}
use Rattle.tva_run.specs.declared.kinds.Input.TheVariants.{FromTrace, Arrival}
use Rattle.tva_run.specs.Entries.{Content, Arrived, Sent, Received, Entry, Took, Started, input_time}

-- ## at a host

-- a packet for the peer was prepared at a time; a grant of the peer was taken, with its rights and capabilities; or a
-- notice came from the peer
pub data Deal : Type 0 where
  Prepared : (time : ℕ) (packet : PacketData) → Deal
  Granted : (rights : Rights) (caps : List ℕ) → Deal
  Noticed : Deal

-- a row's packet was prepared where the row sends, and not where it injects
abbrev pub sent_for : Address → ℕ → RowWhat → PacketData → List Deal
sent_for peer time (Send dst payload) packet = if peer.0 == dst.0 then Prepared time packet ∷ [] else []
sent_for peer time (Inject flow payload carries) packet = []
sent_for peer time (File dst size segment) packet = if peer.0 == dst.0 then Prepared time packet ∷ [] else []
sent_for peer time (Tick dst) packet = if peer.0 == dst.0 then Prepared time packet ∷ [] else []

abbrev pub sent_at : Address → Input → PacketData → List Deal
sent_at peer (FromTrace row) packet = sent_for peer row.time.0 row.what packet
sent_at peer (Arrival time link other) packet = []

-- what return info brought: a grant that was taken, or a notice
abbrev pub granted_in : ReturnInfo → List Deal
granted_in (backs.Grant rights caps) = Granted rights caps ∷ []
granted_in _ = []

abbrev pub brought : BackKind → ReturnInfo → List Deal
brought became.Notice back = Noticed ∷ []
brought became.Grant back = granted_in back
brought _ back = []

abbrev pub replied : ℕ → Option Made → List Deal
replied time None = []
replied time (Some made) = Prepared time made.packet ∷ []

-- a receipt brings return info, and then the reply is prepared
abbrev pub dealt_in : Address → Input → Content → List Deal
dealt_in peer input (Sent made outcome) = sent_at peer input made.packet
dealt_in peer input (Received from packet receipt went range) =
    if peer.0 == packet.flow.src.0
    then brought receipt.back (back_in packet.carried) ++ replied (input_time input) receipt.reply
    else []
dealt_in peer input _ = []

abbrev pub dealt_at : Address → Entry → List Deal
dealt_at peer (Took input content) = dealt_in peer input content
dealt_at peer (Started time link class packet) = []

-- all that happened with that peer, in its order
abbrev pub deals : Address → List Entry → List Deal
deals peer log = flat_map (dealt_at peer) log

-- ## at a router

-- a packet that came in unmarked: when, the packet, and the grant to which it was charged
pub record Coming : Type 0 where
  pub time : ℕ
  pub packet : PacketData
  pub charge : Option Grant

abbrev pub coming : Input → PacketData → Fate → Coming
coming input packet fate = record { time = input_time input; packet = packet; charge = fate.charge }

abbrev pub came_in : Flow → Input → Content → Option Coming
came_in flow input (Arrived from packet fate onward) =
    if same_flow packet.flow flow && not (is_marked packet.carried) then Some (coming input packet fate) else None
came_in flow input _ = None

abbrev pub came_at : Flow → Entry → Option Coming
came_at flow (Took input content) = came_in flow input content
came_at flow (Started time link class packet) = None

-- all unmarked packets of that flow, in the order in which they came
abbrev pub comings : Flow → List Entry → List Coming
comings flow log = filter_map (came_at flow) log
