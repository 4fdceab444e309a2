use Rattle.tva_shim.proofs.Common.{◌≡◌, ◌+◌, ◌*◌, ◌++◌, take, flat_map, array_vec_len, eight_bytes}
use Rattle.tva_shim.proofs.encoding.write_caps.Given as goal

-- the capabilities so far are written
abbrev pub invariant-loop-cap : goal.invariant-loop-cap
invariant-loop-cap l = record {
  items : l.bytes.items ≡ l.fn.bytes.items ++ flat_map eight_bytes (take l.cap-index l.cap-items);
  len : array_vec_len l.bytes ≡ array_vec_len l.fn.bytes + 8 * l.cap-index;
}
