-- Crate: what memory holds of the inputs that a node was given, and when the next of those that wait comes.
use Rattle.std.specs.Prelude.{◌≡◌, ℕ, List, [], ◌∷◌, length, Bool, true, false, Option, Some, None}
use Rattle.tva_run.specs.declared.kinds.Input.{Input}
use Rattle.tva_run.specs.declared.kinds.Input.TheVariants.{FromTrace, Arrival}
use Rattle.tva_run.specs.declared.kinds.Sending.{Sending}
use Rattle.tva_run.specs.Entries.{input_time}
use Rattle.tva_waiting.specs.Kept.{KeptList}
use Rattle.tva_waiting.specs.declared.memory.Memory.{Memory}
use Rattle.tva_waiting.specs.declared.memory.Memory.TheVariants as memory

-- of inputs memory holds all or none
abbrev pub HoldsInputs : Memory → KeptList Input → Type 0
HoldsInputs memory.All inbox = inbox.gone ≡ 0
HoldsInputs memory.Nothing inbox = inbox.gone ≡ length inbox.all

-- the time of the next input that is not taken
abbrev pub first_time : List Input → Option ℕ
first_time [] = None
first_time (input ∷ inputs) = Some (input_time input)

-- what a packet on its way is where it arrives
abbrev pub arrived : Sending → Input
arrived sent = Arrival sent.arrive sent.link sent.packet

-- the next input that is not taken is a row
abbrev pub is_row_first : List Input → Bool
is_row_first [] = false
is_row_first (FromTrace row ∷ inputs) = true
is_row_first (Arrival time link packet ∷ inputs) = false
