use Rattle.tva_shim.proofs.Common.{◌≡◌, filter, nat_lt, take, last_or_zero}
use Rattle.tva_shim.proofs.shims.last_tag_of.Given as goal

-- the last nonzero tag so far
abbrev pub invariant-loop-tag : goal.invariant-loop-tag
invariant-loop-tag l = l.last ≡ last_or_zero (filter (nat_lt 0) (take l.tag-index l.tags))
