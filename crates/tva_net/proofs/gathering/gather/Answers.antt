use Rattle.tva_net.proofs.Common.{◌<◌, List, All, length, sym, subst, All-from_recursion, NodeState, news, IsByTime, picked}
use Rattle.tva_net.proofs.Handed.{if_ok}
use Rattle.tva_net.proofs.News.{told_join}
use Rattle.tva_net.proofs.gathering.gather.Goals as goal

pub told_alone-requires-clause-within : goal.told_alone-requires-clause-within
told_alone-requires-clause-within c = All-from_recursion (λ place. place < length c.args.nodes.now) c.args.places.now c.requires.places.within

pub returns-in-Some-clause-join : goal.returns-in-Some-clause-join
returns-in-Some-clause-join c =
    told_join c.args.nodes.now c.args.places.now c.in-Some.events.items c.requires.numbers c.requires.stand c.requires.places c.requires.others c.in-Some.ensures.by

pub told_in_order-requires : goal.told_in_order-requires
told_in_order-requires c =
    subst (λ (vs : List NodeState). All (λ place. place < length vs) c.args.places.now) (sym (c.told_alone.ensures.none c.in-None.is))
    (All-from_recursion (λ place. place < length c.args.nodes.now) c.args.places.now c.requires.places.within)

pub returns-in-None-clause-join : goal.returns-in-None-clause-join
returns-in-None-clause-join c =
    if_ok _ _ (λ events by. told_join c.args.nodes.now c.args.places.now events.items c.requires.numbers c.requires.stand c.requires.places c.requires.others
    (subst (λ (vs : List NodeState). IsByTime (picked news vs c.args.places.now) events.items) (c.told_alone.ensures.none c.in-None.is) by))
    c.told_in_order.result c.told_in_order.ensures
