use Rattle.tva_router.proofs.Common.{◌≡◌, ℕ, true, List, sym, subst, IfValid, is_good, IsGoodOrNone}
use Rattle.tva_router.proofs.Answers.{known_good}
use Rattle.tva_router.proofs.guard.Guard.answer_to_shown.Goals as goal

pub check_known-checked-requires-clause-known : goal.check_known-checked-requires-clause-known
check_known-checked-requires-clause-known c =
    subst (λ (m : List ℕ). IsGoodOrNone m c.known_at-known.result) (sym c.requires.may.guard.master) (known_good c.args.plan.now.master c.args.self.now.cache.entries c.place-at.result c.known_at-known.result
    c.place-at.ensures.within c.known_at-known.ensures c.requires.may.guard.known)

pub answer_to_checked-requires-clause-good : goal.answer_to_checked-requires-clause-good
answer_to_checked-requires-clause-good c =
    subst (λ (m : List ℕ). IfValid c.check_known-checked.result (λ g. is_good m g c.in-Some.cap ≡ true)) c.requires.may.guard.master c.check_known-checked.ensures.good
