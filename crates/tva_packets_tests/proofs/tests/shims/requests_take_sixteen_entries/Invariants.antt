use Rattle.tva_shim.specs.Changes.{IsRequest}
use Rattle.tva_packets_tests.proofs.tests.shims.requests_take_sixteen_entries.Given as goal

-- the shim stays a request
abbrev pub invariant-loop-tag : goal.invariant-loop-tag
invariant-loop-tag g l = IsRequest l.shim.kind

abbrev pub invariant-loop-tag-2 : goal.invariant-loop-tag-2
invariant-loop-tag-2 g l = IsRequest l.shim.kind
