-- Crate: what a courier keeps, and for which calls on its host and acts it stands.
use Rattle.std.specs.Prelude.{◌≡◌, ℕ, ◌==◌, ◌&&◌, List, unwrap_or}
use Rattle.std.specs.Map.{lookup}
use Rattle.tva_base.specs.declared.{addresses.Address.Address, packet.Upper.Upper}
use Rattle.tva_shim.specs.Packets.{upper_size}
use Rattle.tva_host.specs.{declared.made.Made.Made, Calls.Call, Calls.Intended, Calls.history_of, Sending.intended}
use Rattle.tva_host.specs.Stands as host
use Rattle.tva_transfer.specs.declared.transfers.Transfer.{Transfer}
use Rattle.tva_transfer.specs.Files.{Files, Act, files_of, next_of}

-- a courier: its host, its transfers by their numbers, and where the next range begins of a source and a transfer
pub record CourierData : Type 0 where
  pub host : host.HostData
  pub transfers : List Transfer
  pub nexts : List ((Address × ℕ) × ℕ)

abbrev pub courier_data : host.HostData → List Transfer → List ((Address × ℕ) × ℕ) → CourierData
courier_data h transfers nexts = record { host = h; transfers = transfers; nexts = nexts }

-- where it begins, as far as the courier knows
abbrev pub next_kept : List ((Address × ℕ) × ℕ) → Address → ℕ → ℕ
next_kept nexts source transfer =
    unwrap_or (lookup (λ key. (source.0 == key.0.0) && (transfer == key.1)) nexts) 0

-- it keeps what its host knows of files
pub record Knows (v : CourierData) (files : Files) : Type 0 where
  pub transfers : v.transfers ≡ files.transfers
  pub nexts : (source : Address) (transfer : ℕ)
      → next_kept v.nexts source transfer ≡ next_of files source transfer

-- what the host knows of files after these acts
abbrev pub known : host.HostData → List Act → Files
known h acts = files_of h.plan.address acts

-- its host stands for these calls, and it keeps what its host knows after these acts
pub record StandsFor (v : CourierData) (calls : List Call) (acts : List Act) : Type 0 where
  pub host : host.StandsFor v.host calls
  pub files : Knows v (known v.host acts)

-- the packet that the host sends with an upper part after these calls, and that call
abbrev pub sent_with : host.HostData → List Call → ℕ → Address → Upper → Made
sent_with h calls now dst above = intended h.node h.plan (history_of h.plan calls) now dst (upper_size above) above

abbrev pub call_with : ℕ → Address → Upper → Call
call_with now dst above = Intended now dst (upper_size above) above
