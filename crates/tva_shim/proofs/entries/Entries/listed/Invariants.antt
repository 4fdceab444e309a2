use Rattle.tva_shim.proofs.Common.{◌≡◌, take, paired}
use Rattle.tva_shim.proofs.entries.Entries.listed.Given as goal

-- the list has the entries so far
abbrev pub invariant-loop-place : goal.invariant-loop-place
invariant-loop-place l = l.list.items ≡ paired (take l.place l.self-inside.tags.items) (take l.place l.self-inside.precaps.items)
