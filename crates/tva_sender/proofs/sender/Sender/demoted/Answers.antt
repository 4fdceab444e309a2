use Rattle.tva_sender.proofs.Common.{◌≡◌, refl, sym, subst, ap, ◌∙◌, ◌∷◌, [], ◌++◌, Option, None, arith, le_refl, Peer, Notice, Book, StandsFor, of_peer, peer_at, IsKept, knows}
use Rattle.tva_sender.proofs.Keeping.{keeps_noticed, strange_noticed}
use Rattle.tva_sender.proofs.Placed.{found_at, no_place, within_place, near-found}
use Rattle.tva_sender.proofs.Standing.{same_rules, stands_more, stands_at, strange_at, near_after}
use Rattle.tva_sender.proofs.sender.Sender.demoted.Goals as goal

pub returns-in_default-clause-stands : goal.returns-in_default-clause-stands
returns-in_default-clause-stands c h s =
    let absent : None ≡ peer_at c.args.src c.args.self.now.peers = subst (λ (b : Book). None ≡ peer_at c.args.src b.peers) c.self.view_is (no_place _ _ c.args.src.0 c.self.invariant.0.addresses c.in_default.ensures.place) in
    subst (λ (b : Book). StandsFor b (h ++ (c.args.src, Notice) ∷ [])) (sym c.self.view_is)
    (stands_more c.args.self.now c.args.self.now h c.args.src Notice s (same_rules c.args.self.now c.args.self.now refl refl refl (le_refl _)) tt tt (λ q _. refl)
    (subst (λ (o : Option Peer). IsKept o (of_peer c.args.src h ++ Notice ∷ [])) absent (strange_noticed (of_peer c.args.src h) (strange_at c.args.self.now h c.args.src s absent))))

pub index_mut-requires : goal.index_mut-requires
index_mut-requires c =
    omega (arith, within_place _ _ c.args.src.0 c.in-Some.at c.self.invariant.0.addresses c.in-Some.ensures.place)

pub invariant_of-self-2 : goal.invariant_of-self-2
invariant_of-self-2 c =
    let f = found_at _ _ _ _ c.args.src.0 c.in-Some.at c.index_mut.result.now c.notice.new.self c.self.invariant.0 c.in-Some.ensures.place c.index_mut.ensures.value in (
      rw c.in-Some.ensures.same f.placed,
      near_after c.self.inside.last.0 c.self.inside.peers.items _ c.args.src.0 c.notice.new.self c.self.invariant.1
          (c.notice.ensures.near c.self.inside.last.0 (near-found _ _ _ c.args.src.0 c.index_mut.result.now.1 (le_refl _) c.self.invariant.1 f.found)) f.here f.others,
    )

pub returns-clause-stands : goal.returns-clause-stands
returns-clause-stands c h s =
    let f = found_at _ _ _ _ c.args.src.0 c.in-Some.at c.index_mut.result.now c.notice.new.self c.self.invariant.0 c.in-Some.ensures.place c.index_mut.ensures.value in
    stands_at _ _ h c.args.src Notice c.index_mut.result.now.1 c.notice.new.self (subst (λ (v : Book). StandsFor v h) (sym c.self.view_is) s) (same_rules _ _ refl refl refl (le_refl _)) (λ k. tt) tt f.found f.here f.others
    (λ k. rw c.notice.ensures.noticed (keeps_noticed c.index_mut.result.now.1 (of_peer c.args.src h) k))

pub returns-clause-known : goal.returns-clause-known
returns-clause-known c a =
    let f = found_at _ _ _ _ c.args.src.0 c.in-Some.at c.index_mut.result.now c.notice.new.self c.self.invariant.0 c.in-Some.ensures.place c.index_mut.ensures.value in
    f.known a.0 ∙ ap (λ (v : Book). knows v a) c.self.view_is
