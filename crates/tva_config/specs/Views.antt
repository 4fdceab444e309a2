-- Kit: what the values of the code stand for, for the clauses within the crate.
use Rattle.std.specs.Prelude.{◌≡◌, ◌==◌, ◌&&◌, nat_le, nat_eq, ℕ, Bool, false, List, Option, Some, None, String}
use Rattle.std.specs.declared.hash.{FoldHasher.FoldHasher, BuildHasherDefault.BuildHasherDefault}
use Rattle.std.specs.{declared.alloc.Global.Global, HashMap.HashMap, HashMap.get, HashMap.get_by_text, List.list_any}
use Rattle.std.specs.HashSet.{HashSet, contains}
use Rattle.tva_base.specs.declared.plan.LinkPlan.{LinkPlan}
use Rattle.tva_config.specs.declared.joined.{JoinedLists.JoinedLists, OwnedLists.OwnedLists, OwnedRoute.OwnedRoute, OwnedRestart.OwnedRestart, OwnedReroute.OwnedReroute}
use Rattle.tva_config.specs.{Read.Owned, Stages.Joined, Nodes.node_of, Links.link_between, Routes.is_for}
use Rattle.tva_config.specs.Changes.{is_late_restart, is_late_reroute}

abbrev pub seen_owned : OwnedLists → Owned
seen_owned o = record { routes = o.routes.items; restarts = o.restarts.items; reroutes = o.reroutes.items }

abbrev pub seen_joined : JoinedLists → Joined
seen_joined j = record { links = j.links.items; uplinks = j.uplinks.items; owned = seen_owned j.owned }

-- a map from names to numbers of nodes
abbrev pub Numbers : Type 0
Numbers = HashMap (String Global) ℕ (BuildHasherDefault FoldHasher)

-- it has the number of each name, and nothing else
abbrev pub IsNumbers : Numbers → List (List ℕ) → Type 0
IsNumbers numbers names = (q : List ℕ) → get_by_text numbers q ≡ node_of names q

-- a map from two ends to a link's number
abbrev pub Pairs : Type 0
Pairs = HashMap (ℕ × ℕ) ℕ (BuildHasherDefault FoldHasher)

abbrev pub same_ends : ℕ × ℕ → ℕ × ℕ → Bool
same_ends x y = (x.0 == y.0) && (x.1 == y.1)

-- what it has at two ends
abbrev pub link_at : Pairs → ℕ → ℕ → Option ℕ
link_at pairs from to = get same_ends pairs (from, to)

-- it has the number of each link, and nothing else
abbrev pub IsPairs : Pairs → List LinkPlan → Type 0
IsPairs pairs links = (from to : ℕ) → link_at pairs from to ≡ link_between links from to

-- a set of routes' routers and prefixes
abbrev pub Seen : Type 0
Seen = HashSet (ℕ × ℕ × ℕ) (BuildHasherDefault FoldHasher)

abbrev pub same_route : ℕ × ℕ × ℕ → ℕ × ℕ × ℕ → Bool
same_route x y = (x.0 == y.0) && (x.1 == y.1) && (x.2 == y.2)

-- it has the router and the prefix of each route, and nothing else
abbrev pub IsSeen : Seen → List OwnedRoute → Type 0
IsSeen seen routes = (router address bits : ℕ) → contains same_route seen (router, address, bits)
    ≡ list_any (is_for router (record { address = record { 0 = address }; bits = bits })) routes

-- a last time that isn't smaller than another
abbrev pub is_late : Option ℕ → ℕ → Bool
is_late None time = false
is_late (Some last) time = nat_le time last

-- a map from routers to the times of their last restarts
abbrev pub Restarted : Type 0
Restarted = HashMap ℕ ℕ (BuildHasherDefault FoldHasher)

abbrev pub restarted_at : Restarted → ℕ → Option ℕ
restarted_at map router = get nat_eq map router

-- by it, there is a restart of a router at no smaller time exactly where there is one
abbrev pub IsRestarted : Restarted → List OwnedRestart → Type 0
IsRestarted map restarts = (router time : ℕ) → is_late (restarted_at map router) time
    ≡ list_any (is_late_restart router time) restarts

-- a map from routers and prefixes to the times of their last changes
abbrev pub Rerouted : Type 0
Rerouted = HashMap (ℕ × ℕ × ℕ) ℕ (BuildHasherDefault FoldHasher)

-- by it, there is a change for a router and a prefix at no smaller time exactly where there is one
abbrev pub IsRerouted : Rerouted → List OwnedReroute → Type 0
IsRerouted map reroutes = (router address bits time : ℕ) → is_late (get same_route map (router, address, bits)) time
    ≡ list_any (is_late_reroute router (record { address = record { 0 = address }; bits = bits }) time) reroutes
