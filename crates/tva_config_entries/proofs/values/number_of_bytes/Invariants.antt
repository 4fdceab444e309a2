use Rattle.tva_config_entries.proofs.Common.{◌≡◌, ◌<◌, ◌^◌, take, number_of_bytes}
use Rattle.tva_config_entries.proofs.values.number_of_bytes.Given as goal

abbrev pub invariant-loop-byte : goal.invariant-loop-byte
invariant-loop-byte l = record { value : l.number ≡ number_of_bytes (take l.byte-index l.bytes); room : l.number < 256 ^ l.byte-index }
