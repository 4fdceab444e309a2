-- Kit: links out of a node, which of them decides first, and the keys by which it is found.
use Rattle.std.specs.Prelude.{◌≡◌, ℕ, ◌+◌, ◌*◌, ◌<◌, ◌≤◌, ◌==◌, nat_le, min, if◌then◌else◌, Bool, false, List, [], ◌∷◌, All, length, get_or, set, slice_index, Option, Some, None, IfSome}
use Rattle.tva_base.specs.declared.plan.LinkPlan.{LinkPlan}
use Rattle.tva_node.specs.declared.links.Link.{Link}

-- ## links

-- a link out that decides nothing by itself yet
abbrev pub first_link : ℕ × LinkPlan → Link
first_link o = record { number = o.0; plan = o.1; next = None }

-- ## when they decide

-- the sooner of two times
abbrev pub sooner : Option ℕ → Option ℕ → Option ℕ
sooner None other = other
sooner (Some a) None = Some a
sooner (Some a) (Some b) = Some (min a b)

-- the next time at which one of the links decides by itself
abbrev pub least_next : List Link → Option ℕ
least_next [] = None
least_next (link ∷ links) = sooner link.next (least_next links)

-- a link decides by that time
abbrev pub is_asked : Option ℕ → ℕ → Bool
is_asked None now = false
is_asked (Some time) now = nat_le time now

-- when a link decides next where that one is asked at that time
abbrev pub next_asked : Option ℕ → ℕ → Link → Option ℕ
next_asked None now link = link.next
next_asked (Some number) now link = if number == link.number then Some now else link.next

abbrev pub asked_by : Option ℕ → ℕ → Link → Link
asked_by queued now link = record link { next = next_asked queued now link }

-- the links with a next decision of the one in that place
abbrev pub with_next : ℕ → Option ℕ → List Link → Link → List Link
with_next place next links d = set links place (record (get_or links place d) { next = next })

-- ## the first of them

-- of the links that decide by that time the soonest: none of them decides earlier, or at one time in front of it
abbrev pub IsFirstAsked : ℕ → List Link → Option ℕ → Type 0
IsFirstAsked now links None = All (λ l. is_asked l.next now ≡ false) links
IsFirstAsked now links (Some place) =
    (place < length links)
    × ((d : Link) → (time : ℕ) × ((get_or links place d).next ≡ Some time) × (time ≤ now)
    × ((other : ℕ) → other < place → IfSome (get_or links other d).next (λ t. time < t))
    × ((other : ℕ) → other < length links → IfSome (get_or links other d).next (λ t. time ≤ t)))

-- the key of a link in that place by when it decides next, past all others where it doesn't
abbrev pub IsKey : ℕ → Option ℕ → ℕ → Type 0
IsKey place None key = key ≡ 18446744073709551616 * 65536 + place
IsKey place (Some time) key = (time < 18446744073709551616) × (key ≡ time * 65536 + place)

-- each link has its key
pub record AreKeys (keys : List ℕ) (links : List Link) : Type 0 where
  pub count : length keys ≡ length links
  pub few : length links ≤ 65536
  pub each : (place : ℕ) (d : Link) → place < length links → IsKey place (get_or links place d).next (slice_index keys place)

-- so many keys of links that don't decide
pub record AreNoKeys (size : ℕ) (keys : List ℕ) : Type 0 where
  pub count : length keys ≡ size
  pub each : (place : ℕ) → place < size → IsKey place None (slice_index keys place)

-- so many links have lower numbers than that
pub record IsRankOf (number : ℕ) (links : List Link) (count : ℕ) : Type 0 where
  pub within : count ≤ length links
  pub before : (place : ℕ) (d : Link) → place < count → (get_or links place d).number < number
  pub behind : (place : ℕ) (d : Link) → count ≤ place → place < length links → number ≤ (get_or links place d).number
