-- Product: what links give the nodes at their ends, and what their queues hold.
use Rattle.std.specs.Prelude.{ℕ, ◌+◌, ◌*◌, ◌==◌, List, [], ◌∷◌, sum_by, if◌then◌else◌, Option, Some, None}
use Rattle.std.specs.List.{cons_option}
use Rattle.tva_base.specs.declared.{limits.LinkLimits.LinkLimits, plan.LinkPlan.LinkPlan}

-- what a choice takes of each element, which it sees with its number
abbrev pub picked : {A B : Type 0} → (ℕ → A → Option B) → ℕ → List A → List B
picked choice number [] = []
picked choice number (x ∷ xs) = cons_option (choice number x) (picked choice (number + 1) xs)

-- the numbers of the links that begin at a node
abbrev pub number_from : ℕ → ℕ → LinkPlan → Option ℕ
number_from node number link = if link.from == node then Some number else None

unfoldable pub links_from : ℕ → List LinkPlan → List ℕ
links_from node links = picked (number_from node) 0 links

-- the links into a node, each with its tag
abbrev pub tagged_to : ℕ → ℕ → LinkPlan → Option (ℕ × ℕ)
tagged_to node number link = if link.to == node then Some (number, link.tag) else None

unfoldable pub incoming_of : ℕ → List LinkPlan → List (ℕ × ℕ)
incoming_of node links = picked (tagged_to node) 0 links

-- the links out of a node, each with its limits
abbrev pub limited_from : ℕ → ℕ → LinkPlan → Option (ℕ × LinkLimits)
limited_from node number link = if link.from == node then Some (number, link.limits) else None

unfoldable pub outgoing_of : ℕ → List LinkPlan → List (ℕ × LinkLimits)
outgoing_of node links = picked (limited_from node) 0 links

-- the queues behind a tag, one on a link with one level
abbrev pub queues_behind : Option ℕ → ℕ
queues_behind None = 1
queues_behind (Some inner) = inner

-- the places of a link's queues
abbrev pub places : LinkPlan → ℕ
places link =
    link.limits.request.queues * queues_behind link.limits.request_inner * link.limits.request.ring
    + link.limits.regular.queues * link.limits.regular.ring
    + link.limits.legacy_ring

-- the places of the queues of all links together
abbrev pub all_places : List LinkPlan → ℕ
all_places links = sum_by places links
