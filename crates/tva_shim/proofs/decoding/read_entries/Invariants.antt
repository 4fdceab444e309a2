use Rattle.tva_shim.proofs.Common.{◌≡◌, length, IsEntry, entry_bytes}
use Rattle.tva_shim.proofs.Reading.{Begun}
use Rattle.tva_shim.proofs.decoding.read_entries.Given as goal

-- the entries so far are the first of those that the bytes begin with
abbrev pub invariant-loop : goal.invariant-loop
invariant-loop l = record {
  begun : Begun IsEntry entry_bytes l.count l.bytes l.entries l.rest;
  count : length l.entries ≡ l.counter;
}
