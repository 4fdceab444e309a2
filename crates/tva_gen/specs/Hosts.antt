-- Product: the hosts of a plan, and the text of an address.
use Rattle.std.specs.Prelude.{ℕ, ◌/◌, ◌%◌, ◌^◌, List, [], ◌∷◌, decimal}
use Rattle.std.specs.List.{join_with_byte}
use Rattle.tva_base.specs.declared.{addresses.Address.Address, plan.HostPlan.HostPlan}
use Rattle.tva_plan.specs.declared.config.NodePlan as nodes
use Rattle.tva_plan.specs.declared.config.NodePlan.TheVariants as node

-- the hosts, in the order of the nodes
abbrev pub hosts_in : List nodes.NodePlan → List HostPlan
hosts_in [] = []
hosts_in (node.Router plan ∷ plans) = hosts_in plans
hosts_in (node.Host plan ∷ plans) = plan ∷ hosts_in plans

-- the four bytes of an address, the highest first, with dots between them
abbrev pub address_text : Address → List ℕ
address_text a =
    join_with_byte 46 (decimal (a.0 / 2 ^ 24) ∷ decimal (a.0 / 2 ^ 16 % 256) ∷ decimal (a.0 / 2 ^ 8 % 256)
    ∷ decimal (a.0 % 256) ∷ [])
