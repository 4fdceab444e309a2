-- Product: the packets that a host makes.
use Rattle.std.specs.Prelude.{ℕ, Bool, true, false, if◌then◌else◌, []}
use Rattle.tva_base.specs.declared.{addresses.Address.Address, packet.Flow.Flow, packet.Upper.Upper}
use Rattle.tva_base.specs.{declared.plan.HostPlan.HostPlan, declared.event.ShapeKind.ShapeKind, Ordinals.ordinal_behind}
use Rattle.tva_base.specs.declared.packet.Upper.TheVariants as upper
use Rattle.tva_base.specs.declared.event.ShapeKind.TheVariants as kind_shown
use Rattle.tva_shim.specs.declared.kinds.{Shown.Shown, Kind.Kind, ReturnInfo.ReturnInfo}
use Rattle.tva_shim.specs.{declared.packets.Carried.Carried, Shims.ShimData, Packets.PacketData, Packets.made_with}
use Rattle.tva_shim.specs.declared.kinds.Kind.TheVariants as kinds
use Rattle.tva_shim.specs.declared.kinds.ReturnInfo.TheVariants as backs
use Rattle.tva_shim.specs.declared.packets.Carried.TheVariants as carried
use Rattle.tva_policy.specs.Grants.{Sent}
use Rattle.tva_sender.specs.{declared.shape.Held.Held, declared.shape.Shape.Shape, Shapes.shape_of, Book.of_peer}
use Rattle.tva_sender.specs.declared.shape.Shape.TheVariants as shapes
use Rattle.tva_host.specs.declared.made.Made.{Made}
use Rattle.tva_host.specs.History.{History, with_deed, with_packet, with_prepared, next_nonce}

-- what is told of a shape
abbrev pub kind_shown_of : Shape → ShapeKind
kind_shown_of shapes.Request = kind_shown.Request
kind_shown_of (shapes.List held) = kind_shown.List
kind_shown_of (shapes.NonceOnly nonce) = kind_shown.Nonce
kind_shown_of (shapes.Renewal held) = kind_shown.Renewal
kind_shown_of shapes.Legacy = kind_shown.Legacy

abbrev pub is_legacy : Shape → Bool
is_legacy shapes.Legacy = true
is_legacy _ = false

-- what is held of a grant, for the first router to check
abbrev pub held_shown : Held → Shown
held_shown held = record { nonce = held.nonce; pointer = 0; rights = held.rights; caps = held.caps }

-- the kind of a packet in that shape: what shows nothing is a request, which has no entries yet
abbrev pub kind_of : Shape → Kind
kind_of (shapes.List held) = kinds.List (held_shown held)
kind_of (shapes.NonceOnly nonce) = kinds.Nonce nonce
kind_of (shapes.Renewal held) = kinds.Renewal (held_shown held)
kind_of _ = kinds.Request []

-- the shim of that version of a packet in that shape with return info, marked where the shape shows nothing
abbrev pub shim_of : ℕ → Shape → ReturnInfo → ShimData
shim_of version shape back = record {
  version = version;
  demoted = is_legacy shape;
  protocol = 6;
  kind = kind_of shape;
  back = back;
}

-- what a packet in that shape carries that is no reply
abbrev pub carried_by : ℕ → Shape → Carried
carried_by version shape =
    if is_legacy shape then carried.Nothing else carried.Shim (shim_of version shape backs.Nothing)

-- the next packet of the node, with an upper part, and the next one without
abbrev pub next_with : ℕ → History → Flow → ℕ → Carried → Upper → PacketData
next_with node h flow payload carries above =
    made_with (record { node = node; ordinal = ordinal_behind h.made }) flow payload carries above

abbrev pub next_packet : ℕ → History → Flow → ℕ → Carried → PacketData
next_packet node h flow payload carries = next_with node h flow payload carries upper.Nothing

-- the shape of the next packet for a peer, with a body of so many bytes
abbrev pub next_shape : HostPlan → History → ℕ → Address → ℕ → Shape
next_shape plan h now dst body =
    shape_of plan.margin plan.retry plan.version (of_peer dst h.contacts) now body (next_nonce plan h)

-- the next packet of the host for a peer, in that shape
abbrev pub next_made : ℕ → HostPlan → History → Address → ℕ → Carried → Upper → Shape → Made
next_made node plan h dst payload carries above shape = record {
  packet = next_with node h (record { src = plan.address; dst = dst }) payload carries above;
  shape = kind_shown_of shape;
}

-- the history after a packet for a peer was prepared and made
abbrev pub with_made : HostPlan → ℕ → Address → ℕ → History → History
with_made plan now dst body h = with_packet (with_prepared plan.version now dst (next_shape plan h now dst body) body h)

-- the packet that a host sends to a destination with an upper part, over what the host did and met
unfoldable pub intended : ℕ → HostPlan → History → ℕ → Address → ℕ → Upper → Made
intended node plan h now dst payload above =
    next_made node plan h dst payload (carried_by plan.version (next_shape plan h now dst payload)) above
    (next_shape plan h now dst payload)

-- its destination is noted for the policy, and it is prepared and made
unfoldable pub after_intending : HostPlan → History → ℕ → Address → ℕ → History
after_intending plan h now dst payload = with_made plan now dst payload (with_deed (Sent dst) h)
