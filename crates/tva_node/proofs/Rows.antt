-- The call on a host that a row is, by the packet that it makes.
use Rattle.tva_node.proofs.Common.{arith, nat_tests, ◌≡◌, ℕ, List, Option, Result, refl, ◌∙◌, ap, IfOk, option_map, Address, Upper, Made, Call, Intended, call_with, sent_with, call_of_row}
use Rattle.tva_host.specs.Sending.{intended}
use Rattle.tva_host.specs.Stands.{HostData}
use Rattle.tva_rows.specs.declared.rows.RowWhat.TheVariants as rows

shown : (h : HostData) (calls : List Call) (now : ℕ) (dst : Address) (above : Upper) → (let made = sent_with h calls now dst above in Intended now dst made.packet.payload made.packet.upper ≡ call_with now dst above)
unfolding intended
shown h calls now dst above = refl

-- a segment that is sent
pub segment_call : (h : HostData) (calls : List Call) (now : ℕ) (dst : Address) (above : Upper) (made : Made) → made ≡ sent_with h calls now dst above
    → Intended now dst made.packet.payload made.packet.upper ≡ call_with now dst above
segment_call h calls now dst above made e = ap (λ (m : Made). Intended now dst m.packet.payload m.packet.upper) e ∙ shown h calls now dst above

-- a tick, for which there may be none
pub tick_call : (h : HostData) (calls : List Call) (now : ℕ) (dst : Address) (due : Option Upper) (made : Option Made) → made ≡ option_map (sent_with h calls now dst) due
    → option_map (λ (m : Made). call_of_row now (rows.Tick dst) m.packet) made ≡ option_map (call_with now dst) due
tick_call h calls now dst due made e = grind (arith, nat_tests, shown)

-- where two things hold of what is answered
pub if_both : {T E : Type 0} (P Q R : T → Type 0) (r : Result T E) → ((x : T) → P x → Q x → R x) → IfOk r P → IfOk r Q → IfOk r R
if_both P Q R r f p q = grind (arith, nat_tests)
