use Rattle.tva_node.proofs.Common.{rules, ◌≡◌, ℕ, List, map, sym, subst, IsNonDecreasingBy-from_sort_by_key, answers_always, Prefix, Time, of_prefix, move_time}
use Rattle.tva_base.specs.Plan.{AreRising}
use Rattle.tva_node.proofs.Making.{by_time}
use Rattle.tva_node.proofs.changes.Changes.of.Goals as goal

pub returns-clause-moves : goal.returns-clause-moves
returns-clause-moves c =
    let file = c.in_ok-by_time.by_time.items in
    let moves = c.sort_by_key.new.self.items in
    let same : file ≡ c.args.moves.now = search (rules, c.in_ok-by_time.ensures) in
    let rise = subst (λ (xs : List (Time × Prefix × ℕ)). (prefix : Prefix) → AreRising (map move_time (of_prefix prefix xs))) (sym same) c.requires in
    rw (← same) (by_time file moves rise c.in_ok-sort_by_key.ensures.permutation (IsNonDecreasingBy-from_sort_by_key move_time _ c.in_ok-sort_by_key.ensures.sorted (λ a r q k. search rules)) (c.in_ok-sort_by_key.ensures.stable move_time (answers_always _ _ _ (λ f a r q k. search rules))))
