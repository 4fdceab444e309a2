-- Kit: what a host sends to a peer and takes from it, and what a router on the way makes of it.
use Rattle.std.specs.Prelude.{ℕ, List, [], ◌∷◌, ◌++◌, Option, Some, None}
use Rattle.std.specs.Option.{option_or, option_map, unwrap_or}
use Rattle.tva_base.specs.declared.packet.Rights.{Rights}
use Rattle.tva_flow.specs.Charges.{Charge}
use Rattle.tva_sender.specs.declared.shape.Shape.{Shape}
use Rattle.tva_sender.specs.Contacts.{Contact, Prepared, Taken, Notice, last_taking}

-- a packet that was prepared at a time, in a shape and of a length, with its charge at the router, if it
-- was authorised there; a grant that was taken, with its rights and capabilities and the time at which
-- the last ask before it came to the router; or a notice
pub data Mile : Type 0 where
  Went : ℕ → Shape → ℕ → Option Charge → Mile
  Got : Rights → List ℕ → ℕ → Mile
  Told : Mile

-- what the sender sees of it
abbrev pub contact_in : Mile → Contact
contact_in (Went sent s bytes paid) = Prepared sent s bytes
contact_in (Got rights caps came) = Taken rights caps
contact_in Told = Notice

abbrev pub contacts : List Mile → List Contact
contacts [] = []
contacts (m ∷ ms) = contact_in m ∷ contacts ms

-- what the router charges
abbrev pub paid_in : Mile → List Charge
paid_in (Went sent s bytes None) = []
paid_in (Went sent s bytes (Some c)) = c ∷ []
paid_in (Got rights caps came) = []
paid_in Told = []

abbrev pub charges_in : List Mile → List Charge
charges_in [] = []
charges_in (m ∷ ms) = paid_in m ++ charges_in ms

-- when the ask of the last grant came to the router
abbrev pub ask_came_in : Mile → Option ℕ
ask_came_in (Went sent s bytes paid) = None
ask_came_in (Got rights caps came) = Some came
ask_came_in Told = None

abbrev pub last_came : List Mile → Option ℕ
last_came [] = None
last_came (m ∷ ms) = option_or (last_came ms) (ask_came_in m)

-- the rights of the last grant that was taken
abbrev pub last_got : List Mile → Option Rights
last_got ms = option_map (λ t. t.rights) (last_taking [] (contacts ms))

-- the miles since the last grant, of which those are the first
abbrev pub since_got : List Mile → List Mile → List Mile
since_got own [] = own
since_got own (Went sent s bytes paid ∷ ms) = since_got (own ++ Went sent s bytes paid ∷ []) ms
since_got own (Got rights caps came ∷ ms) = since_got [] ms
since_got own (Told ∷ ms) = since_got (own ++ Told ∷ []) ms

-- the miles after the first notice, and those that count for the life of a grant: all, or those since a notice
abbrev pub after_told : List Mile → Option (List Mile)
after_told [] = None
after_told (Went sent s bytes paid ∷ ms) = after_told ms
after_told (Got rights caps came ∷ ms) = after_told ms
after_told (Told ∷ ms) = Some ms

abbrev pub since_notified : List Mile → List Mile
since_notified ms = unwrap_or (after_told ms) ms
