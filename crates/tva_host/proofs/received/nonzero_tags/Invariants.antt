use Rattle.tva_host.proofs.Common.{◌≡◌, ◌≤◌, take}
use Rattle.arrayvec.specs.ArrayVec.{array_vec_len}
use Rattle.tva_shim.specs.Changes.{nonzero_tags}
use Rattle.tva_host.proofs.received.nonzero_tags.Given as goal

-- the nonzero tags of the entries so far
abbrev pub invariant-loop-entry : goal.invariant-loop-entry
invariant-loop-entry l = record {
  tags : l.tags.items ≡ nonzero_tags (take l.entry-index l.entry-items);
  len : array_vec_len l.tags ≤ l.entry-index;
}
