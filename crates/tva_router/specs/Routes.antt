-- Product: which link leads to a destination.
use Rattle.std.specs.Prelude.{◌≡◌, ◌≤◌, ℕ, ◌==◌, ◌&&◌, max, Bool, true, if◌then◌else◌, List, map, filter, Option, All}
use Rattle.std.specs.Prelude.{Contains}
use Rattle.std.specs.Option.{option_map}
use Rattle.std.specs.List.{fold, find}
use Rattle.tva_base.specs.declared.addresses.Address.{Address}
use Rattle.tva_base.specs.declared.addresses.Prefix.{Prefix}
use Rattle.tva_base.specs.declared.plan.Route.{Route}
use Rattle.tva_base.specs.Addresses.{holds}
use Rattle.tva_base.specs.Changes.{same_prefix}

-- the greatest length of the prefixes that the destination begins with
abbrev pub longest : List Route → Address → ℕ
longest routes dst = fold max 0 (map (λ route. route.prefix.bits) (filter (λ route. holds route.prefix dst) routes))

-- the destination begins with a prefix of that length
abbrev pub leads : ℕ → Address → Route → Bool
leads bits dst route = holds route.prefix dst && (route.prefix.bits == bits)

-- the link of the longest prefix that the destination begins with
unfoldable pub link_to : List Route → Address → Option ℕ
link_to routes dst = option_map (λ route. route.link) (find (leads (longest routes dst) dst) routes)

-- a route, with that link where its prefix is the one named
abbrev pub route_with : Prefix → ℕ → Route → Route
route_with prefix link r = if same_prefix r.prefix prefix then record r { link = link } else r

-- the routes where the one of a prefix has that link
abbrev pub rerouted : Prefix → ℕ → List Route → List Route
rerouted prefix link routes = map (route_with prefix link) routes

-- the route is one of these, the destination begins with its prefix, and with no longer one of theirs
pub record IsWay (routes : List Route) (dst : Address) (route : Route) : Type 0 where
  pub there : Contains routes route
  pub begins : holds route.prefix dst ≡ true
  pub greatest : All (λ r. holds r.prefix dst ≡ true → r.prefix.bits ≤ route.prefix.bits) routes
