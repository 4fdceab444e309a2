-- Product: where a packet was made, and what no router changes in it on its way.
use Rattle.std.specs.Prelude.{◌≡◌, true, List, ◌∷◌, ◌++◌, length, Option, Some, None}
use Rattle.std.specs.Option.{option_map}
use Rattle.tva_shim.specs.declared.kinds.Shown.{Shown}
use Rattle.tva_shim.specs.declared.kinds.Kind.{Kind}
use Rattle.tva_shim.specs.declared.kinds.Kind.TheVariants as kinds
use Rattle.tva_shim.specs.declared.packets.Carried.{Carried}
use Rattle.tva_shim.specs.declared.packets.Carried.TheVariants as carried
use Rattle.tva_shim.specs.Shims.{ShimData}
use Rattle.tva_shim.specs.Packets.{PacketData}
use Rattle.tva_run.specs.declared.kinds.Input.{Input}
use Rattle.tva_run.specs.Entries.{Content, Arrived, Sent, Ticked, Received, Entry, Took}
use Rattle.tva_run.specs.Reaching.{Logs, log_at}

-- ## what stays as it was made

-- the nonce, the rights and the number of capabilities
pub record KeepsShown (a b : Shown) : Type 0 where
  pub nonce : b.nonce ≡ a.nonce
  pub rights : b.rights ≡ a.rights
  pub count : length b.caps ≡ length a.caps

-- the kind, and what is shown
abbrev pub KeepsKind : Kind → Kind → Type 0
KeepsKind (kinds.Request entries) (kinds.Request more) = Unit {0}
KeepsKind (kinds.List a) (kinds.List b) = KeepsShown a b
KeepsKind (kinds.Nonce a) (kinds.Nonce b) = b ≡ a
KeepsKind (kinds.Renewal a) (kinds.Renewal b) = KeepsShown a b
KeepsKind _ _ = ⊥

-- the version, the protocol and the return info; and a mark is never taken off
pub record KeepsShim (a b : ShimData) : Type 0 where
  pub version : b.version ≡ a.version
  pub mark : a.demoted ≡ true → b.demoted ≡ true
  pub protocol : b.protocol ≡ a.protocol
  pub kind : KeepsKind a.kind b.kind
  pub back : b.back ≡ a.back

abbrev pub KeepsCarried : Carried → Carried → Type 0
KeepsCarried carried.Nothing carried.Nothing = Unit {0}
KeepsCarried (carried.Shim a) (carried.Shim b) = KeepsShim a b
KeepsCarried (carried.Malformed a) (carried.Malformed b) = b ≡ a
KeepsCarried _ _ = ⊥

-- the one packet as it was made, and the other as it is somewhere on its way
pub record Keeps (a b : PacketData) : Type 0 where
  pub id : b.id ≡ a.id
  pub flow : b.flow ≡ a.flow
  pub payload : b.payload ≡ a.payload
  pub carried : KeepsCarried a.carried b.carried
  pub upper : b.upper ≡ a.upper

-- ## where it was made

-- the packet that a node makes: a router that of a row, a host that of a row or a reply
abbrev pub made_in : Content → Option PacketData
made_in (Arrived None packet fate onward) = Some packet
made_in (Arrived (Some link) packet fate onward) = None
made_in (Sent made outcome) = Some made.packet
made_in Ticked = None
made_in (Received from packet receipt went range) = option_map (λ made. made.packet) receipt.reply

-- the packet that comes to a node
abbrev pub comes_in : Content → Option PacketData
comes_in (Arrived from packet fate onward) = Some packet
comes_in (Sent made outcome) = None
comes_in Ticked = None
comes_in (Received from packet receipt went range) = Some packet

-- at a place of the log of the node that its identity names the packet was made, and it kept what no router changes
pub record HasOrigin (logs : Logs) (packet : PacketData) : Type 0 where
  pub made : PacketData
  pub before : List Entry
  pub input : Input
  pub content : Content
  pub rest : List Entry
  pub here : log_at logs packet.id.node ≡ before ++ Took input content ∷ rest
  pub makes : made_in content ≡ Some made
  pub keeps : Keeps made packet
