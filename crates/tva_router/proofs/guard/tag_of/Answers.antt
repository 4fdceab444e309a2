use Rattle.tva_router.proofs.Common.{◌≡◌, ℕ, List, ◌==◌, sym, subst, find, option_map_or, ArePlaces}
use Rattle.tva_router.proofs.guard.tag_of.Goals as goal

pub tag_in-requires : goal.tag_in-requires
tag_in-requires c = subst (λ (z : List (ℕ × ℕ)). ArePlaces z c.args.places.now) (sym c.as_slice.ensures) c.requires

pub returns-in-Some : goal.returns-in-Some
returns-in-Some c =
    rw c.in-Some.is
    (subst (λ (z : List (ℕ × ℕ)). c.tag_in.result ≡ option_map_or (λ pair. pair.1) (find (λ pair. pair.0 == c.in-Some.link) z) 0) c.as_slice.ensures c.tag_in.ensures)
