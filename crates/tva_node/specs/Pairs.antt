-- Crate: a link out of a node, as it stands among the links of its site.
use Rattle.std.specs.Prelude.{ℕ}
use Rattle.tva_base.specs.declared.plan.LinkPlan.{LinkPlan}
use Rattle.tva_node.specs.declared.links.Link.{Link}

-- a link's number and plan
abbrev pub link_pair : Link → ℕ × LinkPlan
link_pair link = (link.number, link.plan)
