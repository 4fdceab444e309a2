-- Crate: what offers and takes do to each key's items: none is lost or doubled, and a key's items go in the order
-- in which they came.
use Rattle.std.specs.Prelude.{◌≡◌, ◌≢◌, ℕ, List, [], ◌∷◌, ◌++◌}
use Rattle.tva_drr.specs.Queues.{Queue, Fair, items_of}

module _ {T : Type 0} where
  -- the item goes last among its key's items, and the items of each other key stay
  pub record GoesLast (key : ℕ) (item : T) (old new : Fair T) : Type 0 where
    pub own : items_of key new.queues ≡ items_of key old.queues ++ item ∷ []
    pub others : (k : ℕ) → k ≢ key → items_of k new.queues ≡ items_of k old.queues

  -- the item was the first of its key's items, and is gone; the items of each other key stay
  pub record GoesFirst (key : ℕ) (item : T) (old new : Fair T) : Type 0 where
    pub own : items_of key old.queues ≡ item ∷ items_of key new.queues
    pub others : (k : ℕ) → k ≢ key → items_of k new.queues ≡ items_of k old.queues

  -- the key's queue stands at the front
  abbrev pub IsFront : ℕ → List (Queue T) → Type 0
  IsFront key [] = ⊥
  IsFront key (q ∷ qs) = q.key ≡ key
