use Rattle.tva_shim.proofs.Common.{◌≡◌, length, IsCap, eight_bytes}
use Rattle.tva_shim.proofs.Reading.{Begun}
use Rattle.tva_shim.proofs.decoding.read_caps.Given as goal

-- the capabilities so far are the first of those that the bytes begin with
abbrev pub invariant-loop : goal.invariant-loop
invariant-loop l = record {
  begun : Begun IsCap eight_bytes l.count l.bytes l.caps l.rest;
  count : length l.caps ≡ l.counter;
}
