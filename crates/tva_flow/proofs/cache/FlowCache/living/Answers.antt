use Rattle.tva_flow.proofs.Common.{ap, sym, ◌∙◌, subst, arith, ltb, count_by-le-length, Entry, Cache, StandsFor}
use Rattle.tva_flow.proofs.Counting.{living_is}
use Rattle.tva_flow.proofs.cache.FlowCache.living.Goals as goal

pub returns-clause-count : goal.returns-clause-count
returns-clause-count c h v =
    c.living.ensures ∙ living_is c.self.inside.entries.slots c.self.inside.clock_offset c.self.inside.last c.args.now.0 c.self.inside.entries.items h (subst (λ (z : Cache). StandsFor z h) (sym c.self.view_is) v) (rw (ap (λ (v : Cache). v.last) c.self.view_is) c.requires)

pub overflow_cast-result : goal.overflow_cast-result
overflow_cast-result c =
    omega (arith, c.living.ensures, count_by-le-length (λ (e : Entry). ltb c.args.now.0 e.end) c.self.inside.entries.items, c.self.invariant.0, c.self.invariant.2)
