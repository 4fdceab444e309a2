use Rattle.tva_router.proofs.Common.{◌≡◌, ℕ, false, get_or, ap, subst, ◌∙◌, get, leads}
use Rattle.tva_router.specs.Tables.{same_prefix}
use Rattle.tva_router.proofs.Tables.{place_looked, place_unmarked, route_within}
use Rattle.tva_router.proofs.routes.place_at.Goals as goal

pub returns-then-table-from-clause-place : goal.returns-then-table-from-clause-place
returns-then-table-from-clause-place c =
    c.copied.ensures ∙ c.get.ensures.value
    ∙ ap (λ (n : ℕ). get same_prefix c.args.table.now.places (c.args.bits, n)) c.front_of.ensures
    ∙ place_looked c.args.routes.now c.args.table.now c.args.dst c.args.bits c.requires.table

pub returns-then-table-from-clause-within : goal.returns-then-table-from-clause-within
returns-then-table-from-clause-within c = route_within (leads c.args.bits c.args.dst) c.args.routes.now _ (returns-then-table-from-clause-place c)

pub returns-else-table-from-clause-place : goal.returns-else-table-from-clause-place
returns-else-table-from-clause-place c = place_unmarked c.args.routes.now c.args.table.now.lengths c.args.dst c.args.bits c.requires.table.marked
    (subst (λ (n : ℕ). get_or c.args.table.now.lengths n false ≡ false) c.from.ensures c.if-table-from.false)
