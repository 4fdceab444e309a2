use Rattle.tva_net.proofs.Common.{◌≡◌, ◌+◌, take, least_delay}
use Rattle.tva_net.proofs.timing.window_length.Given as goal

abbrev pub invariant-loop-link : goal.invariant-loop-link
invariant-loop-link l = l.least ≡ least_delay (l.fn.horizon.0 + 1) (take (l.link-index + 1) l.links)
