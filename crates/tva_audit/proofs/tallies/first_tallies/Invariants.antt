use Rattle.tva_audit.proofs.Tallied.{AreFresh}
use Rattle.tva_audit.proofs.tallies.first_tallies.Given as goal

-- so many tallies, to which nothing was told
abbrev pub invariant-loop : goal.invariant-loop
invariant-loop l = AreFresh l.counter l.tallies.items
