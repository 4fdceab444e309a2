-- Product: several couriers, each at a host of its own: what passes between them.
use Rattle.std.specs.Prelude.{◌≡◌, ◌≢◌, ℕ, ◌+◌, ◌≤◌, ◌==◌, true, if◌then◌else◌, List, [], ◌∷◌, ◌++◌, map, filter, Option, Some, None}
use Rattle.std.specs.{Option.option_map, Option.IsSomeAnd, List.filter_map}
use Rattle.tva_base.specs.declared.{addresses.Address.Address, packet.Flow.Flow, packet.Upper.Upper, packet.Upper.TheVariants.Nothing, event.DataLine.DataLine}
use Rattle.tva_shim.specs.Packets.{PacketData}
use Rattle.tva_transfer.specs.declared.transfers.Transfer.{Transfer}
use Rattle.tva_transfer.specs.Files.{Files, Act, Filed, Ticked, Came, files_of, first_segment, segment_due, answered, is_addressed_to, is_of}

-- an act at the courier of that number
pub record Step : Type 0 where
  pub at : ℕ
  pub act : Act

abbrev pub acts_at : ℕ → List Step → List Act
acts_at number steps = filter_map (λ s. if s.at == number then Some s.act else None) steps

-- what the courier of that number knows of files after these steps, where the couriers have these addresses
abbrev pub files_at : (ℕ → Address) → ℕ → List Step → Files
files_at home number steps = files_of (home number) (acts_at number steps)

abbrev pub to_from : Address → Address → Flow
to_from dst src = record { src = src; dst = dst }

-- the flow and the upper part of what a host of that address sends at an act
abbrev pub sent_by : Address → Files → Act → Option (Flow × Upper)
sent_by home files (Filed dst size segment) = Some (to_from dst home, first_segment files dst size segment)
sent_by home files (Ticked dst) = option_map (λ above. (to_from dst home, above)) (segment_due files dst)
sent_by home files (Came p) = Some (to_from p.flow.src home, answered home files p)

-- the courier of that number sent them in one of these steps
abbrev pub IsSent : (ℕ → Address) → List Step → ℕ → Flow → Upper → Type 0
IsSent home steps number flow above =
    (before after : List Step) × (act : Act) × (steps ≡ before ++ record { at = number; act = act } ∷ after)
    × (sent_by (home number) (files_at home number before) act ≡ Some (flow, above))

-- a packet may come in after these steps: where it has an upper part and a courier as its source, that one sent it
abbrev pub IsFrom : (ℕ → Address) → List Step → PacketData → Type 0
IsFrom home before p =
    (number : ℕ) → p.flow.src ≡ home number → p.upper ≢ Nothing → IsSent home before number p.flow p.upper

-- so may each that comes in at a courier and is for it
abbrev pub AreFrom : (ℕ → Address) → List Step → Type 0
AreFrom home steps = (before after : List Step) (number : ℕ) (p : PacketData)
    → steps ≡ before ++ record { at = number; act = Came p } ∷ after → is_addressed_to (home number) p ≡ true
    → IsFrom home before p

-- the ranges of a source's transfer that were delivered
abbrev pub ranges_of : Files → Address → ℕ → List DataLine
ranges_of files source transfer = map (λ r. r.1) (filter (is_of source transfer) files.ranges)

-- from a place on, ranges follow one another without a gap and without an overlap
abbrev pub Follow : ℕ → List DataLine → Type 0
Follow from [] = Unit {0}
Follow from (r ∷ rs) = (r.first ≡ from) × Follow (from + r.bytes) rs

-- a range is one of a transfer to that destination, and ends at most at its size
abbrev pub IsWithin : Address → DataLine → Option Transfer → Type 0
IsWithin dst r sent = IsSomeAnd sent (λ t. (t.dst ≡ dst) × (r.first + r.bytes ≤ t.size))
