-- The length of a packet in a shape is the one that its sender counts.
use Rattle.tva_host.proofs.Common.{◌≡◌, ℕ, ◌+◌, false, length, refl, ap, ◌∙◌, arith, Address, Upper, HostPlan, ReturnInfo, Carried, layout, return_size, PacketData, packet_length, carried_bytes, Shape, length_of, History, is_legacy, shim_of, carried_by, next_shape, intended}
use Rattle.tva_shim.specs.declared.kinds.ReturnInfo.TheVariants as backs
use Rattle.tva_shim.specs.declared.packets.Carried.TheVariants as carried
use Rattle.tva_shim.proofs.Sizes.{length-layout}

shim-length : (version : ℕ) (shape : Shape) (back : ReturnInfo) (payload : ℕ) → is_legacy shape ≡ false
    → 20 + length (layout (shim_of version shape back)) + payload ≡ length_of version shape (payload + return_size version back)
shim-length version shape back payload counted = grind (arith, length-layout)

pub made-length : (version : ℕ) (shape : Shape) (back : ReturnInfo) (p : PacketData) → is_legacy shape ≡ false → p.carried ≡ carried.Shim (shim_of version shape back)
    → packet_length p ≡ length_of version shape (p.payload + return_size version back)
made-length version shape back p counted carries = ap (λ (c : Carried). 20 + carried_bytes c + p.payload) carries ∙ shim-length version shape back p.payload counted

pub intended-length : (node : ℕ) (plan : HostPlan) (h : History) (now : ℕ) (dst : Address) (payload : ℕ) (above : Upper) → is_legacy (next_shape plan h now dst payload) ≡ false
    → packet_length (intended node plan h now dst payload above).packet ≡ length_of plan.version (next_shape plan h now dst payload) payload
unfolding intended
intended-length node plan h now dst payload above counted =
    let shape = next_shape plan h now dst payload in
    let carries : carried_by plan.version shape ≡ carried.Shim (shim_of plan.version shape backs.Nothing) = rw counted refl in
    let size : payload + return_size plan.version backs.Nothing ≡ payload = omega arith in
    made-length plan.version shape backs.Nothing (intended node plan h now dst payload above).packet counted carries ∙ ap (length_of plan.version shape) size
