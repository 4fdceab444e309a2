-- Product: the names of nodes, of which bytes they are, which node has a name, and which are hosts.
use Rattle.std.specs.Prelude.{ℕ, ◌==◌, ◌&&◌, ◌||◌, nat_le, List, Option, Bool, true, false, slice_get}
use Rattle.std.specs.{Option.option_map_or, List.position_from, Str.bytes_eq}
use Rattle.tva_plan.specs.declared.config.NodePlan as nodes
use Rattle.tva_plan.specs.declared.config.NodePlan.TheVariants as node

-- a letter, a digit, `_` or `-`
abbrev pub is_name_byte : ℕ → Bool
is_name_byte b =
    (nat_le 65 b && nat_le b 90) || (nat_le 97 b && nat_le b 122) || (nat_le 48 b && nat_le b 57)
    || (b == 95) || (b == 45)

-- the name of a node, by its plan
abbrev pub name_at : nodes.NodePlan → List ℕ
name_at (node.Router p) = p.name
name_at (node.Host p) = p.name

-- the number of the node that has a name, of plans that are numbered from that number on
abbrev pub named_from : List ℕ → ℕ → List nodes.NodePlan → Option ℕ
named_from name number plans = position_from (λ plan. bytes_eq (name_at plan) name) number plans

unfoldable pub node_named : List nodes.NodePlan → List ℕ → Option ℕ
node_named plans name = named_from name 0 plans

abbrev pub is_host_plan : nodes.NodePlan → Bool
is_host_plan (node.Router p) = false
is_host_plan (node.Host p) = true

-- whether the node of that number is a host
abbrev pub is_host : List nodes.NodePlan → ℕ → Bool
is_host plans number = option_map_or is_host_plan (slice_get plans number) false
