use Rattle.tva_net.proofs.Common.{map, news, picked}
use Rattle.tva_net.proofs.NodePlaces.{picked_step}
use Rattle.tva_net.proofs.gathering.news_of.Goals as goal

pub loop-place-preserved : goal.loop-place-preserved
loop-place-preserved c =
    picked_step news c.args.nodes.now c.args.places.now c.loop-place.place-index c.index-nodes-place.result (map (λ event. event.now) c.loop-place.told.items) (map (λ event. event.now) c.push_news.new.told.items)
    (picked news c.args.nodes.now c.args.places.now) c.loop-place-test.true (c.requires c.loop-place.place-index 0 c.loop-place-test.true)
    c.index-nodes-place.is c.in_ok-push_news.ensures c.loop-place.invariant
