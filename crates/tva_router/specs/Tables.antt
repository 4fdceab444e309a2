-- Kit: the tables by which a router finds its links, for the contracts of the functions on them.
use Rattle.std.specs.Prelude.{◌≡◌, ◌≤◌, ℕ, ◌==◌, ◌&&◌, nat_eq, Bool, true, false, List, All, slice_index_or}
use Rattle.std.specs.List.{position_from}
use Rattle.std.specs.HashMap.{HashMap, get}
use Rattle.std.specs.declared.hash.FoldHasher.{FoldHasher}
use Rattle.std.specs.declared.hash.BuildHasherDefault.{BuildHasherDefault}
use Rattle.tva_base.specs.declared.plan.Route.{Route}
use Rattle.tva_base.specs.declared.plan.RouterPlan.{RouterPlan}
use Rattle.tva_router.specs.declared.routes.RouteTable.{RouteTable}
use Rattle.tva_router.specs.declared.finding.Ways.{Ways}

-- the places of links, by their numbers
abbrev pub Places : Type 0
Places = HashMap ℕ ℕ (BuildHasherDefault FoldHasher)

-- the place of each of these links, counted from a number on, and of no other
abbrev pub ArePlacesFrom : {X : Type 0} → ℕ → List (ℕ × X) → Places → Type 0
ArePlacesFrom from links places = (link : ℕ) → get nat_eq places link ≡ position_from (λ o. o.0 == link) from links

abbrev pub ArePlaces : {X : Type 0} → List (ℕ × X) → Places → Type 0
ArePlaces links places = ArePlacesFrom 0 links places

-- the places of routes, by the bits and the address of their prefixes
abbrev pub PrefixPlaces : Type 0
PrefixPlaces = HashMap (ℕ × ℕ) ℕ (BuildHasherDefault FoldHasher)

abbrev pub same_prefix : ℕ × ℕ → ℕ × ℕ → Bool
same_prefix x y = (x.0 == y.0) && (x.1 == y.1)

abbrev pub has_prefix : ℕ → ℕ → Route → Bool
has_prefix bits address route = (route.prefix.bits == bits) && (route.prefix.address.0 == address)

-- the place of the first of these routes with each prefix, counted from a number on, and of no other
abbrev pub AreRoutePlacesFrom : ℕ → List Route → PrefixPlaces → Type 0
AreRoutePlacesFrom from routes places =
    (bits address : ℕ) → get same_prefix places (bits, address) ≡ position_from (has_prefix bits address) from routes

-- the length of each route's prefix is marked
abbrev pub AreMarked : List Route → List Bool → Type 0
AreMarked routes lengths = All (λ route. slice_index_or lengths route.prefix.bits false ≡ true) routes

-- the table knows the places of these routes alone, and not their links
pub record IsTableOf (routes : List Route) (table : RouteTable) : Type 0 where
  pub short : All (λ route. route.prefix.bits ≤ 32) routes
  pub marked : AreMarked routes table.lengths
  pub places : AreRoutePlacesFrom 0 routes table.places

-- the tables are those of the plan
pub record AreWays (plan : RouterPlan) (ways : Ways) : Type 0 where
  pub routes : IsTableOf plan.routes ways.routes
  pub places : ArePlaces plan.outgoing ways.places
