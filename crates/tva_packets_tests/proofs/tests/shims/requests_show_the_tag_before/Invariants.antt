use Rattle.tva_shim.specs.Changes.{IsRequest}
use Rattle.tva_packets_tests.proofs.tests.shims.requests_show_the_tag_before.Given as goal

-- the shim stays a request
abbrev pub invariant-loop-tag : goal.invariant-loop-tag
invariant-loop-tag g l = IsRequest l.shim.kind
