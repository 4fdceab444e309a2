use Rattle.tva_port.proofs.Common.{◌≡◌, ◌+◌, length}
use Rattle.tva_port.proofs.stock.Stock.add.Given as goal

abbrev pub invariant-loop : goal.invariant-loop
invariant-loop l = length l.self-inside.places.items ≡ length l.initial.self-inside.places.items + l.counter
