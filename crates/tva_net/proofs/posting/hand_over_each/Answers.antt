use Rattle.tva_net.proofs.Common.{ℕ, ◌+◌, ◌<◌, List, ◌∷◌, ◌++◌, drop, get_or, length, set, sym, subst, ◌∙◌, ap, arith, drop_all, drop_more, get_or_default, All-from_recursion, Sending, unsent, picked, HandedOn, IsElsewhere, AllZip-same, AllZip-long}
use Rattle.std.proofs.Common.{append-nil}
use Rattle.tva_net.proofs.Forgotten.{AreHanding, all_handed, handed_same, handed_set, handing_first, handing_more, over_on, over_told}
use Rattle.tva_net.proofs.NodePlaces.{picked_last, picked_step}
use Rattle.tva_net.proofs.posting.hand_over_each.Goals as goal

pub loop-place-init : goal.loop-place-init
loop-place-init c = record {
  sent = ap (λ (ss : List Sending). ss ++ picked unsent c.args.nodes.now c.args.places.now) c.requires.empty;
  handing = handing_first c.args.places.now c.args.nodes.now c.requires.placed.rises c.requires.others;
  handed = AllZip-same HandedOn handed_same c.args.nodes.now;
}

pub bounds-nodes-place : goal.bounds-nodes-place
bounds-nodes-place c =
    let n = AllZip-long HandedOn c.args.nodes.now c.loop-place.nodes c.loop-place.invariant.handed in
    let inside = All-from_recursion (λ place. place < length c.args.nodes.now) c.args.places.now c.requires.placed.within c.loop-place.place-index 0 c.loop-place-test.true in
    omega (arith, n, inside)

pub returns-in_err-hand_over-clause-handed : goal.returns-in_err-hand_over-clause-handed
returns-in_err-hand_over-clause-handed c =
    let place = get_or c.args.places.now c.loop-place.place-index 0 in
    let now = c.loop-place.nodes in
    let u = c.index-nodes-place.result in
    let n = AllZip-long HandedOn c.args.nodes.now now c.loop-place.invariant.handed in
    let inside = All-from_recursion (λ place. place < length c.args.nodes.now) c.args.places.now c.requires.placed.within c.loop-place.place-index 0 c.loop-place-test.true in
    let here : place < length now = omega (arith, n, inside) in
    all_handed c.args.nodes.now now _ c.loop-place.invariant.handed
    (handed_set now place u c.hand_over.new.self here (subst (HandedOn (get_or now place u)) (sym c.in_err-hand_over.ensures.err) (handed_same (get_or now place u))))

pub loop-place-preserved : goal.loop-place-preserved
loop-place-preserved c =
    let nodes = c.args.nodes.now in
    let places = c.args.places.now in
    let i = c.loop-place.place-index in
    let place = get_or places i 0 in
    let now = c.loop-place.nodes in
    let u = c.index-nodes-place.result in
    let v = get_or now place u in
    let w = c.hand_over.new.self in
    let n = AllZip-long HandedOn nodes now c.loop-place.invariant.handed in
    let inside = All-from_recursion (λ place. place < length nodes) places c.requires.placed.within i 0 c.loop-place-test.true in
    let here : place < length now = omega (arith, n, inside) in
    let next : AreHanding (place ∷ drop (i + 1) places) nodes now = subst (λ (ps : List ℕ). AreHanding ps nodes now) (drop_more places i 0 c.loop-place-test.true) c.loop-place.invariant.handing in
    record {
      sent = picked_step unsent nodes places i v c.loop-place.sent.items c.hand_over.new.sent.items (picked unsent nodes places) c.loop-place-test.true inside
          (next.same.0 u ∙ get_or_default nodes place u v inside) c.in_ok-hand_over.ensures.sent c.loop-place.invariant.sent;
      handing = handing_more place (drop (i + 1) places) nodes now w here (over_told v w c.in_ok-hand_over.ensures.same) next;
      handed = all_handed nodes now (set now place w) c.loop-place.invariant.handed (handed_set now place u w here (over_on v w c.in_ok-hand_over.ensures.same));
    }

pub returns-clause-sent : goal.returns-clause-sent
returns-clause-sent c =
    sym (append-nil c.loop-place.sent.items)
    ∙ (ap (λ (ss : List Sending). c.loop-place.sent.items ++ ss) (sym (picked_last unsent c.args.nodes.now c.args.places.now c.loop-place.place-index c.loop-place-test.false))
    ∙ c.loop-place.invariant.sent)

pub returns-clause-told : goal.returns-clause-told
returns-clause-told c = λ n d l.
    c.loop-place.invariant.handing.quiet n d l
    (subst (λ (ps : List ℕ). IsElsewhere ps n) (sym (drop_all c.loop-place.place-index c.args.places.now c.loop-place-test.false)) tt)
