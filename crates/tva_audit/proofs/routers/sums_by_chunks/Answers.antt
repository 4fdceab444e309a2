use Rattle.tva_audit.proofs.Common.{rules, ◌≡◌, List, ◌∙◌, subst, IfOk, slice_index_or, NodeState, sums_told}
use Rattle.tva_audit.proofs.Parts.{joined_told}
use denote.Param.Send.{sendable}
use Rattle.std.proofs.Crossing.{crosses}
use Rattle.tva_node.proofs.Crosses.{node_sync}
use Rattle.tva_audit.proofs.routers.sums_by_chunks.Goals as goal

pub map_chunks-requires-sync-T : goal.map_chunks-requires-sync-T
map_chunks-requires-sync-T g c κs within = first_of (search (sendable, node_sync), search (sendable, node_sync, rules), search (sendable, crosses, node_sync) depth 40 fits 2000)

pub returns : goal.returns
returns g c =
    let items = c.in_ok-parts.parts.items in
    let nodes = c.args.nodes.now in
    joined_told c.joined.result c.as_slice.result.now items nodes c.args.size c.as_slice.ensures.value c.joined.ensures
    (λ n d below. let fact = (c.in_ok-parts.ensures.each n d below).1 in
    subst (λ (ns : List NodeState). IfOk (slice_index_or items n d) (λ sums. sums.items ≡ sums_told ns)) fact.argument_is.value fact.call)
    c.requires.size (c.as_slice.ensures.len ∙ c.in_ok-parts.ensures.len)
