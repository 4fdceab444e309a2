-- What is remembered of places stays right where an address is added.
use Rattle.tva_sender.proofs.Common.{ℕ, zero, suc, List, [], ◌∷◌, ◌++◌, Option, IsFirstAt, IsRecent, arith}
use Rattle.tva_sender.specs.declared.places.Hint.{Hint}

first-more : (a : ℕ) (xs ys : List ℕ) (i : ℕ) → IsFirstAt a xs i → IsFirstAt a (xs ++ ys) i
first-more a [] ys i f = absurd f
first-more a (x ∷ xs) ys zero f = f
first-more a (x ∷ xs) ys (suc i) f = (f.0, first-more a xs ys i f.1)

pub recent-more : (xs ys : List ℕ) (o : Option Hint) → IsRecent xs o → IsRecent (xs ++ ys) o
recent-more xs ys o r = grind (arith, first-more)
