use Rattle.tva_net.proofs.Common.{◌≡◌, get_or, length, sym, ◌∙◌, ap, links_out}
use Rattle.tva_net.proofs.Firsts.{site_fits, site_there}
use Rattle.tva_net.proofs.building.node_of.Goals as goal

pub build_keeping-requires-clause-site : goal.build_keeping-requires-clause-site
build_keeping-requires-clause-site c =
    let n = c.args.number in
    let config = c.args.config.now in
    let p = c.index-plans-from.result in
    let is : p ≡ get_or config.nodes n p = cc in
    let out : c.as_slice-2.result.now ≡ links_out n config.links = c.as_slice-2.ensures.value ∙ (c.in_ok-links.ensures ∙ ap (links_out n) c.as_slice.ensures) in
    site_fits config n p c.as_slice-2.result.now c.requires.config c.requires.node is out

pub returns-clause-first : goal.returns-clause-first
returns-clause-first c =
    let n = c.args.number in
    let config = c.args.config.now in
    let p = c.index-plans-from.result in
    let e = c.in_ok-node.ensures in
    let is : p ≡ get_or config.nodes n p = cc in
    let out : c.as_slice-2.result.now ≡ links_out n config.links = c.as_slice-2.ensures.value ∙ (c.in_ok-links.ensures ∙ ap (links_out n) c.as_slice.ensures) in
    record {
      site = site_there config n p c.as_slice-2.result.now c.in_ok-node.node.site c.requires.node is out e.site;
      horizon = e.horizon;
      inbox = e.empty.0;
      nothing = (e.empty.1, e.empty.2, e.worked);
      news = record { told = ap (λ g. g.told) e.gone ∙ ap length (sym e.empty.1); sent = ap (λ g. g.sent) e.gone ∙ ap length (sym e.empty.2) };
      stands = e.stands;
    }
