-- Product: what a packet shows to the nodes that it passes.
use Rattle.std.specs.Prelude.{ℕ, List, []}
use Rattle.tva_base.specs.declared.packet.Class.{Class}
use Rattle.tva_base.specs.declared.packet.Class.TheVariants as classes
use Rattle.tva_shim.specs.declared.{entries.Entry.Entry, kinds.Kind.Kind, kinds.ReturnInfo.ReturnInfo}
use Rattle.tva_shim.specs.{declared.packets.Carried.Carried, Shims.entries_of, Changes.last_tag, Changes.tag_before}
use Rattle.tva_shim.specs.Packets.{PacketData}
use Rattle.tva_shim.specs.declared.kinds.Kind.TheVariants as kinds
use Rattle.tva_shim.specs.declared.kinds.ReturnInfo.TheVariants as backs
use Rattle.tva_shim.specs.declared.packets.Carried.TheVariants as carried

-- the entries of a request that a packet carries
abbrev pub entries_in : Carried → List Entry
entries_in (carried.Shim shim) = entries_of shim.kind
entries_in _ = []

-- the key under which a packet of a class is queued; a legacy packet needs none
abbrev pub key_of : Class → PacketData → ℕ
key_of classes.Request p = last_tag (entries_in p.carried)
key_of classes.Regular p = p.flow.dst.0
key_of classes.Legacy p = 0

-- the inner key of a request on a link with two levels; a packet without entries has 0
abbrev pub inner_key_of : PacketData → ℕ
inner_key_of p = tag_before (entries_in p.carried)

abbrev pub kind_nonce : Kind → ℕ
kind_nonce (kinds.Request entries) = 0
kind_nonce (kinds.List shown) = shown.nonce
kind_nonce (kinds.Nonce nonce) = nonce
kind_nonce (kinds.Renewal shown) = shown.nonce

-- the nonce that a packet shows, if any
abbrev pub nonce_in : Carried → ℕ
nonce_in (carried.Shim shim) = kind_nonce shim.kind
nonce_in _ = 0

-- the return info that a packet shows
abbrev pub back_in : Carried → ReturnInfo
back_in (carried.Shim shim) = shim.back
back_in _ = backs.Nothing
