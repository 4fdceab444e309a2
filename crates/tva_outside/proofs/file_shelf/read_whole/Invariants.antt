use Rattle.tva_outside.proofs.Common.{◌≤◌, vec_len, Consumes}
use Rattle.tva_outside.proofs.file_shelf.read_whole.Given as goal

-- what is read so far is within the limit, and is what the reader has given
abbrev pub invariant-loop : goal.invariant-loop
invariant-loop g l = record {
  within : vec_len l.bytes ≤ l.max;
  given : Consumes (g.F.Read.remaining l.fn.file) (g.F.Read.remaining l.file) l.bytes.items;
}
