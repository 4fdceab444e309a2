use Rattle.tva_plan.proofs.Common.{◌∙◌, sym, subst, ◌<◌, length, ℕ, Option, IfSome, zero-add, node_named}
use Rattle.tva_plan.proofs.Named.{named_from-within}
use Rattle.tva_plan.proofs.names.number_of.Goals as goal

pub returns-clause-number : goal.returns-clause-number
unfolding node_named
returns-clause-number c = c.copied.ensures ∙ c.get.ensures.value ∙ c.requires c.args.name.now

pub returns-clause-within : goal.returns-clause-within
returns-clause-within c =
    let is = c.copied.ensures ∙ c.get.ensures.value ∙ c.requires c.args.name.now in
    let within = named_from-within c.args.name.now 0 c.args.plans.now in
    let P : Option ℕ → Type 0 = λ found. IfSome found (λ k. k < length c.args.plans.now) in
    subst P (sym is) (rw zero-add at within)
