use Rattle.tva_port.proofs.Common.{refl, free_after, decision, after_decision}
use Rattle.tva_port.proofs.Steady.{steady, rests_after, misses_after, none_again}
use Rattle.tva_port.proofs.laws.links_rest.Goals as goal

pub returns-clause-again : goal.returns-clause-again
returns-clause-again c l log now a = none_again l log now (decision l log now) a refl

pub returns-clause-rests : goal.returns-clause-rests
returns-clause-rests c l log now until time g n i h k = rests_after l log now (decision l log now) until time g n refl i h k

pub returns-clause-missed : goal.returns-clause-missed
returns-clause-missed c l log now until g n i m = misses_after l log now (decision l log now) until g n refl m i

pub returns-clause-steady : goal.returns-clause-steady
returns-clause-steady c l log now until time a g n i s h k =
    steady l log now (free_after l (after_decision l log now)) (decision l log now) until time a g n refl s i h k
