-- An upper part that is to be answered is that of the reply.
use Rattle.tva_host.proofs.Common.{◌≡◌, ℕ, true, eqb, Option, IfSome, Address, Upper, HostPlan, ReturnInfo, PacketData, History, brought_by, reply_of, upper_of, receipt_of, arith}
use Rattle.tva_base.specs.declared.packet.Upper.TheVariants as upper

brought : (node : ℕ) (plan : HostPlan) (h : History) (now : ℕ) (src : Address) (answer : Option ReturnInfo) (above : Upper)
    → upper_of (reply_of node plan h now src (brought_by above answer) above) ≡ above
brought node plan h now src answer above = grind arith

brings : (node : ℕ) (plan : HostPlan) (h : History) (now : ℕ) (src : Address) (answer : Option ReturnInfo) (above : Upper)
    → IfSome (reply_of node plan h now src answer above) (λ made. made.packet.upper ≡ above)
brings node plan h now src answer above = grind arith

-- the host answers with it
pub answer_is_shown : (node : ℕ) (plan : HostPlan) (h : History) (now : ℕ) (p : PacketData) (above : Upper) → eqb p.flow.dst.0 plan.address.0 ≡ true
    → upper_of (receipt_of node plan h now p above).reply ≡ above
unfolding receipt_of
answer_is_shown node plan h now p above here = grind arith

-- where there is nothing to answer, the reply has no upper part
pub nothing_is_shown : (node : ℕ) (plan : HostPlan) (h : History) (now : ℕ) (p : PacketData) → upper_of (receipt_of node plan h now p upper.Nothing).reply ≡ upper.Nothing
unfolding receipt_of
nothing_is_shown node plan h now p = grind arith

-- each reply has it
pub reply_is_shown : (node : ℕ) (plan : HostPlan) (h : History) (now : ℕ) (p : PacketData) (above : Upper) → IfSome (receipt_of node plan h now p above).reply (λ made. made.packet.upper ≡ above)
unfolding receipt_of
reply_is_shown node plan h now p above = grind arith
