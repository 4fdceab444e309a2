-- Crate: what offers and takes do to the items under each two keys: none is lost or doubled, and the items under
-- two keys go in the order in which they came.
use Rattle.std.specs.Prelude.{◌≡◌, ◌≢◌, ℕ, List, [], ◌∷◌, ◌++◌}
use Rattle.tva_drr.specs.Order.{IsFront}
use Rattle.tva_drr.specs.Groups.{Group, Hier, items_under}

module _ {T : Type 0} where
  -- the item goes last among the items under its keys, and the items under all other keys stay
  pub record GoesLastUnder (outer inner : ℕ) (item : T) (old new : Hier T) : Type 0 where
    pub own : items_under new outer inner ≡ items_under old outer inner ++ item ∷ []
    pub others : (o i : ℕ) → (o ≡ outer → i ≢ inner) → items_under new o i ≡ items_under old o i

  -- the item was the first under its keys, and is gone; the items under all other keys stay
  pub record GoesFirstUnder (outer inner : ℕ) (item : T) (old new : Hier T) : Type 0 where
    pub own : items_under old outer inner ≡ item ∷ items_under new outer inner
    pub others : (o i : ℕ) → (o ≡ outer → i ≢ inner) → items_under new o i ≡ items_under old o i

  -- the outer key's group stands at the front, and in it the inner key's queue
  abbrev pub AreFront : ℕ → ℕ → List (Group T) → Type 0
  AreFront outer inner [] = ⊥
  AreFront outer inner (g ∷ gs) = (g.key ≡ outer) × IsFront inner g.queues.queues
