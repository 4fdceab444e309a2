use Rattle.tva_net.proofs.Common.{◌≡◌, List, get_or, sym, subst, ◌∙◌, Event, NeverFalls, news, event_time, IsByTime, picked}
use Rattle.tva_net.proofs.Handed.{by_itself, handed_none, handed_one, if_some, same_there, taken}
use Rattle.tva_net.proofs.News.{told_on}
use Rattle.tva_net.proofs.gathering.told_alone.Goals as goal

pub returns-in-Some-clause-by : goal.returns-in-Some-clause-by
returns-in-Some-clause-by c =
    let u = c.index-nodes-place.result in
    let v = get_or c.args.nodes.now c.in-Some.place u in
    let told : List Event = picked news c.args.nodes.now c.args.places.now in
    let only : told ≡ news v = c.in-Some.ensures.only u in
    let falls = subst (NeverFalls event_time) (sym only) (told_on v (c.requires.stand c.in-Some.place u c.in-Some.ensures.within)) in
    if_some (λ list. list.items ≡ news v) (λ events. IsByTime told events.items) (λ list e. by_itself told list.items (e ∙ sym only) falls) c.take_news.result c.take_news.ensures.told

pub returns-in-Some-clause-none : goal.returns-in-Some-clause-none
returns-in-Some-clause-none c = λ e. same_there c.args.nodes.now c.in-Some.place c.index-nodes-place.result c.take_news.new.self (c.take_news.ensures.none e)

pub returns-in-Some-clause-handed : goal.returns-in-Some-clause-handed
returns-in-Some-clause-handed c =
    let nodes = c.args.nodes.now in
    let u = c.index-nodes-place.result in
    let w = c.take_news.new.self in
    handed_one nodes c.in-Some.place u w c.in-Some.ensures.within (taken (get_or nodes c.in-Some.place u) w c.take_news.result c.take_news.ensures.left c.take_news.ensures.none)

pub returns-in-None-clause-handed : goal.returns-in-None-clause-handed
returns-in-None-clause-handed c = handed_none c.args.nodes.now
