use Rattle.tva_net.proofs.Common.{◌≡◌, List, [], All, sym, subst, ◌∙◌, arith, flat_map, Sending, unsent, GotMails, HandedOn, HavePosted, IsPostable, mail_to, AreNoted, AllZip-long}
use Rattle.tva_node.proofs.Decides.{on_both}
use Rattle.tva_net.proofs.Forgotten.{got_handed, handed_keeps, handed_then_got, noted_handed}
use Rattle.tva_net.proofs.Handed.{unsent_whole}
use Rattle.tva_net.proofs.Mails.{all_keep, all_quiet, postables_still}
use Rattle.tva_net.proofs.posting.post_all.Goals as goal

pub returns-in_err-hand_over_each-clause-keeps : goal.returns-in_err-hand_over_each-clause-keeps
returns-in_err-hand_over_each-clause-keeps c = handed_keeps c.args.nodes.now c.hand_over_each.new.nodes c.in_err-hand_over_each.ensures.handed

pub post_sent-requires-clause-few : goal.post_sent-requires-clause-few
post_sent-requires-clause-few c =
    let count = AllZip-long HandedOn c.args.nodes.now c.hand_over_each.new.nodes c.in_ok-hand_over_each.ensures.handed in
    omega (arith, count, c.requires.few)

pub post_sent-requires-clause-postable : goal.post_sent-requires-clause-postable
post_sent-requires-clause-postable c =
    let xs = c.args.nodes.now in
    let ys = c.hand_over_each.new.nodes in
    let whole : c.hand_over_each.new.sent.items ≡ flat_map unsent xs = c.in_ok-hand_over_each.ensures.sent ∙ sym (unsent_whole xs c.args.places.now c.requires.placed c.requires.others) in
    subst (All (IsPostable c.args.horizon.0 c.args.links.now ys)) (sym whole)
    (postables_still (λ n. []) c.args.horizon.0 c.args.links.now xs ys (flat_map unsent xs) (got_handed xs ys c.in_ok-hand_over_each.ensures.handed) c.requires.postable)

pub post_sent-requires-clause-noted : goal.post_sent-requires-clause-noted
post_sent-requires-clause-noted c = noted_handed c.args.times.now c.args.nodes.now c.hand_over_each.new.nodes c.in_ok-hand_over_each.ensures.handed c.requires.noted

pub returns-clause-posted : goal.returns-clause-posted
returns-clause-posted c =
    let xs = c.args.nodes.now in
    let ys = c.hand_over_each.new.nodes in
    let zs = c.post_sent.new.nodes in
    let horizon = c.args.horizon.0 in
    let links = c.args.links.now in
    let e = c.in_ok-hand_over_each.ensures in
    let sent : List Sending = c.hand_over_each.new.sent.items in
    let whole : sent ≡ flat_map unsent xs = e.sent ∙ sym (unsent_whole xs c.args.places.now c.requires.placed c.requires.others) in
    on_both (GotMails (mail_to horizon links sent) ys zs) (AreNoted c.post_sent.new.times zs) (HavePosted horizon links c.post_sent.new.times xs zs) c.post_sent.result
    (λ got noted. record {
      got = handed_then_got (mail_to horizon links (flat_map unsent xs)) xs ys zs e.handed (subst (λ (ss : List Sending). GotMails (mail_to horizon links ss) ys zs) whole got);
      told = all_quiet ys zs c.post_sent.ensures.keeps e.told;
      noted = noted;
    }) c.post_sent.ensures.got c.post_sent.ensures.noted

pub returns-clause-keeps : goal.returns-clause-keeps
returns-clause-keeps c =
    all_keep c.args.nodes.now c.hand_over_each.new.nodes c.post_sent.new.nodes
    (handed_keeps c.args.nodes.now c.hand_over_each.new.nodes c.in_ok-hand_over_each.ensures.handed) c.post_sent.ensures.keeps
