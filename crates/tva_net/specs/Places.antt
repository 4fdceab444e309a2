-- Crate: places of nodes, in their order, and what these nodes have.
use Rattle.std.specs.Prelude.{◌≡◌, ℕ, ◌<◌, List, [], ◌∷◌, length, slice_index_or}
use Rattle.std.specs.List.{AllByRecursion}
use Rattle.tva_node.specs.States.{NodeState}
use Rattle.tva_net.specs.News.{HasNoNews}

-- each is less than those behind it
abbrev pub Rises : List ℕ → Type 0
Rises [] = Unit {0}
Rises (place ∷ places) = AllByRecursion (λ other. place < other) places × Rises places

-- the place is none of these
abbrev pub IsElsewhere : List ℕ → ℕ → Type 0
IsElsewhere places place = AllByRecursion (λ other. other ≡ place → ⊥) places

-- places of so many nodes, in their order
pub record ArePlaces (count : ℕ) (places : List ℕ) : Type 0 where
  pub rises : Rises places
  pub within : AllByRecursion (λ place. place < count) places

-- the nodes elsewhere have no news
abbrev pub AreQuietElsewhere : List NodeState → List ℕ → Type 0
AreQuietElsewhere nodes places =
    (place : ℕ) (d : NodeState) → place < length nodes → IsElsewhere places place → HasNoNews (slice_index_or nodes place d)
