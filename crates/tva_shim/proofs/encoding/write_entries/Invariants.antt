use Rattle.tva_shim.proofs.Common.{◌≡◌, ◌+◌, ◌*◌, ◌++◌, take, flat_map, array_vec_len, entry_bytes}
use Rattle.tva_shim.proofs.encoding.write_entries.Given as goal

-- the entries so far are written
abbrev pub invariant-loop-entry : goal.invariant-loop-entry
invariant-loop-entry l = record {
  items : l.bytes.items ≡ l.initial.bytes.items ++ flat_map entry_bytes (take l.entry-index l.entry-items);
  len : array_vec_len l.bytes ≡ array_vec_len l.initial.bytes + 10 * l.entry-index;
}
