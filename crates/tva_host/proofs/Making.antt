-- The packets that were made are those of the definitions.
use Rattle.tva_host.proofs.Common.{◌≡◌, ℕ, Option, Some, ap, ◌∙◌, Address, Upper, HostPlan, ReturnInfo, Carried, PacketData, upper_size, Sent, Shape, Made, History, with_deed, with_packet, with_prepared, HostData, Keeps, next_with, next_shape, next_made, kind_shown_of, carried_by, shim_of, intended, after_intending, body_of, reply_of, after_reply, arith}
use Rattle.tva_base.specs.declared.packet.Flow.{Flow}
use Rattle.tva_base.specs.declared.event.ShapeKind.{ShapeKind}
use Rattle.tva_shim.specs.declared.packets.Carried.TheVariants as carried

abbrev made : PacketData → ShapeKind → Made
made packet shape = record { packet = packet; shape = shape }

-- a packet from the host's address, numbered next
pub made-next : (node : ℕ) (plan : HostPlan) (h : History) (dst : Address) (payload : ℕ) (shape : Shape) (n : ℕ) (p : HostPlan) (flow : Flow) (carries : Carried) (above : Upper) (packet : PacketData) (kind : ShapeKind)
    → n ≡ node → p ≡ plan → flow ≡ record { src = p.address; dst = dst } → packet ≡ next_with n h flow payload carries above → kind ≡ kind_shown_of shape
    → made packet kind ≡ next_made node plan h dst payload carries above shape
made-next node plan h dst payload shape n p flow carries above packet kind same here to is told = cc

-- the shape by the plan and the size of the body
shape-by : (plan p : HostPlan) (h : History) (now : ℕ) (dst : Address) (body size : ℕ) (shape : Shape) → p ≡ plan → body ≡ size → shape ≡ next_shape p h now dst body → shape ≡ next_shape plan h now dst size
shape-by plan p h now dst body size shape here sized is = is ∙ ap (λ (q : HostPlan). next_shape q h now dst body) here ∙ ap (next_shape plan h now dst) sized

-- what a send row gives, by its shape
pub made-intended : (node : ℕ) (plan p : HostPlan) (h : History) (now : ℕ) (dst : Address) (payload body : ℕ) (shape : Shape) (carries : Carried) (above : Upper) (m : Made)
    → p ≡ plan → body ≡ payload → shape ≡ next_shape p h now dst body → carries ≡ carried_by plan.version shape → m ≡ next_made node plan h dst payload carries above shape → m ≡ intended node plan h now dst payload above
unfolding intended
made-intended node plan p h now dst payload body shape carries above m here size e f is = cc

pub keeps-intended : (plan p : HostPlan) (v : HostData) (h : History) (now : ℕ) (dst : Address) (payload body : ℕ) (shape : Shape)
    → p ≡ plan → body ≡ payload → shape ≡ next_shape p h now dst body → Keeps v (with_packet (with_prepared p.version now dst shape body (with_deed (Sent dst) h))) → Keeps v (after_intending plan h now dst payload)
unfolding after_intending
keeps-intended plan p v h now dst payload body shape here size e was = grind (arith, shape-by)

-- a reply, by its return info and its shape
pub reply-made : (node : ℕ) (plan : HostPlan) (h : History) (now : ℕ) (src : Address) (answer : Option ReturnInfo) (back : ReturnInfo) (above : Upper) (body : ℕ) (shape : Shape) (m : Made)
    → answer ≡ Some back → body ≡ body_of plan.version back above → shape ≡ next_shape plan h now src body → m ≡ next_made node plan h src (upper_size above) (carried.Shim (shim_of plan.version shape back)) above shape
    → Some m ≡ reply_of node plan h now src answer above
reply-made node plan h now src answer back above body shape m there size e is = cc

pub keeps-reply : (plan : HostPlan) (v : HostData) (h : History) (now : ℕ) (src : Address) (answer : Option ReturnInfo) (back : ReturnInfo) (above : Upper) (body : ℕ) (shape : Shape)
    → answer ≡ Some back → body ≡ body_of plan.version back above → shape ≡ next_shape plan h now src body → Keeps v (with_packet (with_prepared plan.version now src shape body h))
    → Keeps v (after_reply plan now src answer above h)
keeps-reply plan v h now src answer back above body shape there size e k = grind arith
