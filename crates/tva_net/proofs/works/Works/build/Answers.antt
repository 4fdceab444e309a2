use Rattle.tva_net.proofs.Common.{◌≡◌, ◌+◌, refl, ◌∙◌, ap, least_delay}
use Rattle.tva_net.proofs.Begin.{begins}
use Rattle.tva_net.proofs.works.Works.build.Goals as goal

pub returns-clause-works : goal.returns-clause-works
returns-clause-works c =
    let config = c.args.config.now in
    let links : c.in_ok-links.links.items ≡ config.links = c.in_ok-links.ensures.items_if_clones_equal (λ x y e. e) ∙ c.as_slice.ensures in
    begins config c.args.rows c.in_ok-nodes.nodes.items c.requires.config c.requires.rows c.in_ok-nodes.ensures.first
    config.horizon.0 c.window_length.result c.in_ok-links.links.items
    refl links (c.window_length.ensures ∙ ap (least_delay (config.horizon.0 + 1)) (c.as_slice-3.ensures.value ∙ links))
