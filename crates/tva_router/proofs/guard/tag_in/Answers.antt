use Rattle.tva_router.proofs.Common.{ℕ, Option, eqb, sym, ap, ◌∙◌, option_map_or}
use Rattle.tva_router.proofs.Links.{find_there, find_nowhere}
use Rattle.tva_router.proofs.guard.tag_in.Goals as goal

pub returns-in-Some : goal.returns-in-Some
returns-in-Some c = sym (ap (λ (o : Option (ℕ × ℕ)). option_map_or (λ (pair : ℕ × ℕ). pair.1) o 0) (find_there (λ (pair : ℕ × ℕ). eqb pair.0 c.args.link) c.args.incoming.now c.in-Some.place (0, 0) (sym c.place_of.ensures.place ∙ c.in-Some.is)))

pub returns-in-None : goal.returns-in-None
returns-in-None c = sym (ap (λ (o : Option (ℕ × ℕ)). option_map_or (λ (pair : ℕ × ℕ). pair.1) o 0) (find_nowhere (λ (pair : ℕ × ℕ). eqb pair.0 c.args.link) c.args.incoming.now (sym c.place_of.ensures.place ∙ c.in-None.is)))
