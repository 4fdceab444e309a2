use Rattle.std.proofs.Common.{rules}
use Rattle.tva_drr.proofs.Aheads.{offer_under, falls_under, enough_under, most_under}
use Rattle.tva_drr.proofs.group_laws.bytes_ahead_of_groups_fall.Goals as goal

pub returns-clause-offer : goal.returns-clause-offer
returns-clause-offer g c h outer inner bytes o i item v w = search (rules, offer_under)

pub returns-clause-taken : goal.returns-clause-taken
returns-clause-taken g c h outer inner bytes left v w k m = search (rules, falls_under)

pub returns-clause-enough : goal.returns-clause-enough
returns-clause-enough g c h outer inner bytes = enough_under g.T.Measured.measure h.limits h.inner outer inner bytes h.groups

pub returns-clause-bound : goal.returns-clause-bound
returns-clause-bound g c h outer inner bytes v w s = most_under g.T.Measured.measure h.limits h.inner outer inner bytes h.groups v w s
