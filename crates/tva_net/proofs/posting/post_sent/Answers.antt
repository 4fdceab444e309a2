use Rattle.tva_net.proofs.Common.{rules, ◌≡◌, ◌∷◌, List, All, sym, subst, ◌∙◌, ap, arith, drain_items, take_all, All-head, All-tail, Sending, IsPostable, KeepsWork, mail_to, AllZip-same}
use Rattle.tva_net.proofs.Mails.{IsGoing, all_keep, going_first, going_one, keeps_same, still_postable}
use Rattle.tva_net.proofs.posting.post_sent.Goals as goal

pub loop-sending-init : goal.loop-sending-init
loop-sending-init c =
    let nodes = c.args.nodes.now in
    let a = c.into_iter-sending-iterator.ensures in
    let b = c.drain-sending-items.ensures in
    let e : drain_items c.into_iter-sending-iterator.result ≡ c.args.sent.now.items = ap drain_items a.into_iter_gives ∙ (b.rest ∙ take_all _ c.args.sent.now.items (omega arith)) in
    record {
      going = subst (λ (ss : List Sending). IsGoing (mail_to c.args.horizon.0 c.args.links.now c.args.sent.now.items) (mail_to c.args.horizon.0 c.args.links.now ss) nodes nodes) (sym e)
          (going_first (mail_to c.args.horizon.0 c.args.links.now c.args.sent.now.items) nodes);
      left = subst (All (IsPostable c.args.horizon.0 c.args.links.now nodes)) (sym e) c.requires.postable;
      noted = c.requires.noted;
      keeps = AllZip-same KeepsWork keeps_same nodes;
    }

pub post_one-requires-clause-few : goal.post_one-requires-clause-few
post_one-requires-clause-few c = let n = c.loop-sending.invariant.going.got.count in omega (arith, n, c.requires.few)

pub post_one-requires-clause-postable : goal.post_one-requires-clause-postable
post_one-requires-clause-postable c =
    let g = c.loop-sending.invariant.going in
    let s = c.in-Some.sending in
    let rest : List Sending = drain_items c.next.new.self in
    let e : drain_items c.loop-sending.sending-iterator ≡ s ∷ rest = search rules in
    still_postable g.done c.args.horizon.0 c.args.links.now c.args.nodes.now c.loop-sending.nodes s g.got
    (All-head (IsPostable c.args.horizon.0 c.args.links.now c.args.nodes.now) s rest (subst (All (IsPostable c.args.horizon.0 c.args.links.now c.args.nodes.now)) e c.loop-sending.invariant.left))

pub returns-in_err-post_one-clause-keeps : goal.returns-in_err-post_one-clause-keeps
returns-in_err-post_one-clause-keeps c = all_keep c.args.nodes.now c.loop-sending.nodes c.post_one.new.nodes c.loop-sending.invariant.keeps c.in_err-post_one.ensures.keeps

pub loop-sending-preserved : goal.loop-sending-preserved
loop-sending-preserved c =
    let nodes = c.args.nodes.now in
    let now = c.loop-sending.nodes in
    let more = c.post_one.new.nodes in
    let s = c.in-Some.sending in
    let rest : List Sending = drain_items c.next.new.self in
    let e : drain_items c.loop-sending.sending-iterator ≡ s ∷ rest = search rules in
    record {
      going = going_one c.args.horizon.0 c.args.links.now c.args.sent.now.items (drain_items c.loop-sending.sending-iterator) rest s nodes now more e c.loop-sending.invariant.going c.in_ok-post_one.ensures.got;
      left = All-tail (IsPostable c.args.horizon.0 c.args.links.now nodes) s rest (subst (All (IsPostable c.args.horizon.0 c.args.links.now nodes)) e c.loop-sending.invariant.left);
      noted = c.in_ok-post_one.ensures.noted;
      keeps = all_keep nodes now more c.loop-sending.invariant.keeps c.in_ok-post_one.ensures.keeps;
    }
