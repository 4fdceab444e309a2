-- Kit: what holds of every courier of the program, for the invariant of its model.
use Rattle.std.specs.Prelude.{ℕ, ◌≡◌, ◌≤◌, ◌==◌, ◌&&◌, Bool, false, List, slice_get, Some}
use Rattle.std.specs.{List.list_any, Map.lookup, Option.option_map_or}
use Rattle.tva_base.specs.declared.{addresses.Address.Address, packet.Upper.Upper, packet.Upper.TheVariants.Data}
use Rattle.tva_transfer.specs.{declared.transfers.Transfer.Transfer, Files.is_due}

-- a file of at most 100,000,000 bytes, in segments of at most 1,500
abbrev pub IsSized : Transfer → Type 0
IsSized t = (t.size ≤ 100000000) × (t.segment ≤ 1500)

-- the transfer at the place goes to the destination and isn't done
abbrev pub is_due_at : List Transfer → Address → ℕ → Bool
is_due_at ts dst place = option_map_or (is_due dst) (slice_get ts place) false

abbrev pub has_key : List (Address × ℕ) → Address → ℕ → Bool
has_key keys dst place = list_any (λ key. (dst.0 == key.0.0) && (place == key.1)) keys

-- the keys are the destinations and the places of the transfers that aren't done
pub record IsSound (ts : List Transfer) (keys : List (Address × ℕ)) : Type 0 where
  pub sized : (place : ℕ) (t : Transfer) → slice_get ts place ≡ Some t → IsSized t
  pub due : (dst : Address) (place : ℕ) → has_key keys dst place ≡ is_due_at ts dst place

-- where the next range begins of what a source sends is kept
abbrev pub IsNext : List ((Address × ℕ) × ℕ) → Address → Upper → ℕ → Type 0
IsNext nexts source (Data transfer first bytes) next =
    lookup (λ key. (source.0 == key.0.0) && (transfer == key.1)) nexts ≡ Some next
IsNext nexts source _ next = Unit {0}
