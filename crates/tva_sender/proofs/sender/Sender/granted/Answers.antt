use Rattle.tva_sender.proofs.Common.{◌≡◌, Bool, ◌&&◌, refl, sym, subst, ap, ◌∙◌, None, Option, arith, le_refl, Peer, is_within, takes, Book, StandsFor, Keeps, IsKept, of_peer, peer_at, knows}
use Rattle.tva_sender.proofs.Placed.{found_at, no_place, within_place, near-found}
use Rattle.tva_sender.proofs.Standing.{same_rules, stands_taken, strange_at, near_after}
use Rattle.tva_sender.proofs.sender.Sender.granted.Goals as goal

pub returns-in_default-clause-taken : goal.returns-in_default-clause-taken
returns-in_default-clause-taken c h s =
    let absent : None ≡ peer_at c.args.src c.args.self.now.peers = subst (λ (b : Book). None ≡ peer_at c.args.src b.peers) c.self.view_is (no_place _ _ c.args.src.0 c.self.invariant.0.addresses c.in_default.ensures.place) in
    rw (strange_at c.args.self.now h c.args.src s absent).asked refl

pub index_mut-requires : goal.index_mut-requires
index_mut-requires c =
    omega (arith, within_place _ _ c.args.src.0 c.in-Some.at c.self.invariant.0.addresses c.in-Some.ensures.place)

-- the peer that was found is near, as it was
pub invariant_of-self-2 : goal.invariant_of-self-2
invariant_of-self-2 c =
    let f = found_at _ _ _ _ c.args.src.0 c.in-Some.at c.index_mut.result.now c.take.new.self c.self.invariant.0 c.in-Some.ensures.place c.index_mut.ensures.value in (
      rw c.in-Some.ensures.same f.placed,
      near_after c.self.inside.last.0 c.self.inside.peers.items _ c.args.src.0 c.take.new.self c.self.invariant.1
          (c.take.ensures.near c.self.inside.last.0 (near-found _ _ _ c.args.src.0 c.index_mut.result.now.1 (le_refl _) c.self.invariant.1 f.found)) f.here f.others,
    )

pub returns-clause-taken : goal.returns-clause-taken
returns-clause-taken c h s =
    let f = found_at _ _ _ _ c.args.src.0 c.in-Some.at c.index_mut.result.now c.take.new.self c.self.invariant.0 c.in-Some.ensures.place c.index_mut.ensures.value in
    let kept : Keeps c.index_mut.result.now.1 (of_peer c.args.src h) = subst (λ (o : Option Peer). IsKept o (of_peer c.args.src h)) (sym f.found) ((subst (λ (v : Book). StandsFor v h) (sym c.self.view_is) s).kept c.args.src) in
    subst (λ (v : Book). c.take.result ≡ takes v.version (of_peer c.args.src h) c.args.rights) c.self.view_is
    (c.take.ensures.taken ∙ ap (λ (b : Bool). b && is_within c.self.inside.version c.args.rights) (sym kept.awaits))

pub returns-clause-stands : goal.returns-clause-stands
returns-clause-stands c h s =
    let f = found_at _ _ _ _ c.args.src.0 c.in-Some.at c.index_mut.result.now c.take.new.self c.self.invariant.0 c.in-Some.ensures.place c.index_mut.ensures.value in
    stands_taken _ _ h c.args.src c.args.rights c.args.caps.now c.index_mut.result.now.1 c.take.new.self c.take.result (subst (λ (v : Book). StandsFor v h) (sym c.self.view_is) s)
    (same_rules _ _ refl refl refl (le_refl _)) c.take.ensures.taken f.found f.here f.others c.take.ensures.answered c.take.ensures.ignored

pub returns-clause-known : goal.returns-clause-known
returns-clause-known c a =
    let f = found_at _ _ _ _ c.args.src.0 c.in-Some.at c.index_mut.result.now c.take.new.self c.self.invariant.0 c.in-Some.ensures.place c.index_mut.ensures.value in
    f.known a.0 ∙ ap (λ (v : Book). knows v a) c.self.view_is
