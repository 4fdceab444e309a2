use Rattle.tva_sender.proofs.Common.{◌≡◌, ◌≤◌, ◌-◌, ℕ, ◌||◌, cond, eqb, length, refl, sym, subst, ap, ◌∙◌, List, ◌∷◌, [], ◌++◌, Option, None, false, arith, is_some, nat_eq, le_refl, length_push, lookup, Address, Peer, Prepared, shape_of, length_of, request_length, Book, StandsFor, of_peer, peer_at, Keeps, IsKept, knows, Known, IsShowable, AreShowable}
use Rattle.std.specs.Prelude.{IfSome}
use Rattle.tva_sender.specs.declared.shape.Shape.TheVariants as shape
use Rattle.tva_sender.proofs.Placed.{addresses, found_at, at_place, no_place, new_place, within_place, known-found, known-push, all-later, near-found}
use Rattle.tva_sender.proofs.Showing.{IsShowableGrant, showable_peer, showable_grant, showable_shape}
use Rattle.tva_sender.proofs.Keeping.{keeps_prepared, keeps_first}
use Rattle.tva_sender.proofs.Playing.{next-prepared, shape-kept, shape-strange}
use Rattle.tva_sender.proofs.Standing.{same_rules, stands_more, stands_at, strange_at, near_after}
use Rattle.tva_sender.proofs.sender.Sender.prepare.Goals as goal

pub index_mut-requires : goal.index_mut-requires
index_mut-requires c =
    omega (arith, within_place _ _ c.args.dst.0 c.in-Some.at c.self.invariant.0.addresses c.in-Some.ensures.place)

pub prepare-requires-clause-near : goal.prepare-requires-clause-near
prepare-requires-clause-near c =
    let last : c.self.inside.last.0 ≤ c.args.now.0 = subst (λ (b : Book). b.last ≤ c.args.now.0) (sym c.self.view_is) c.requires.time in
    let here = at_place _ _ c.args.dst.0 c.in-Some.at c.index_mut.result.now c.self.invariant.0.addresses c.in-Some.ensures.place c.index_mut.ensures.value in
    near-found _ _ _ c.args.dst.0 c.index_mut.result.now.1 last c.self.invariant.1 here.2

pub invariant_of-self : goal.invariant_of-self
invariant_of-self c =
    let last : c.self.inside.last.0 ≤ c.args.now.0 = subst (λ (b : Book). b.last ≤ c.args.now.0) (sym c.self.view_is) c.requires.time in
    let f = found_at _ _ _ _ c.args.dst.0 c.in-Some.at c.index_mut.result.now c.prepare.new.self c.self.invariant.0 c.in-Some.ensures.place c.index_mut.ensures.value in (
      rw c.in-Some.ensures.same f.placed,
      near_after c.args.now.0 c.self.inside.peers.items _ c.args.dst.0 c.prepare.new.self (all-later _ _ _ last c.self.invariant.1) c.prepare.ensures.near f.here f.others,
    )

-- there is room for a peer that isn't known
room_for : (v w : Book) (a : Address) → w ≡ v → None ≡ peer_at a w.peers → (knows v a ≡ false → 1 ≤ v.spare) → 1 ≤ w.spare
room_for v w a same absent room = subst (λ (b : Book). 1 ≤ b.spare) (sym same) (room (subst (λ (b : Book). knows b a ≡ false) same (ap is_some (sym absent))))

pub overflow_sub-self : goal.overflow_sub-self
overflow_sub-self c =
    room_for c.args.self.now _ c.args.dst c.self.view_is (no_place _ _ c.args.dst.0 c.self.invariant.0.addresses c.in-None.ensures.place) c.requires.room

pub push-requires-clause-room : goal.push-requires-clause-room
push-requires-clause-room c =
    let some : 1 ≤ c.self.inside.room = room_for c.args.self.now _ c.args.dst c.self.view_is (no_place _ _ c.args.dst.0 c.self.invariant.0.addresses c.in-None.ensures.place) c.requires.room in
    omega (arith, some, c.self.invariant.0.places, ap (λ (k : Known). k.spare) c.in-None.ensures.same)

pub push_reserved-requires : goal.push_reserved-requires
push_reserved-requires c =
    let some : 1 ≤ c.self.inside.room = room_for c.args.self.now _ c.args.dst c.self.view_is (no_place _ _ c.args.dst.0 c.self.invariant.0.addresses c.in-None.ensures.place) c.requires.room in
    omega (arith, some, c.self.invariant.0.peers)

pub invariant_of-self-in-None : goal.invariant_of-self-in-None
invariant_of-self-in-None c =
    let last : c.self.inside.last.0 ≤ c.args.now.0 = subst (λ (b : Book). b.last ≤ c.args.now.0) (sym c.self.view_is) c.requires.time in
    let new = new_place _ _ c.args.dst.0 c.new.result c.self.invariant.0.addresses c.in-None.ensures.place in
    let items = c.push_reserved.ensures.items in (
      record {
        addresses = ap addresses items ∙ new.2 ∙ ap (λ (k : Known). k.addresses ++ c.args.dst.0 ∷ []) (sym c.in-None.ensures.same) ∙ sym (ap (λ (k : Known). k.addresses) c.push.ensures);
        places = omega (arith, c.self.invariant.0.places, ap (λ (k : Known). k.spare) c.in-None.ensures.same, ap (λ (k : Known). k.spare) c.push.ensures);
        peers = omega (arith, c.self.invariant.0.peers, c.push_reserved.ensures.capacity, ap (λ (z : List (ℕ × Peer)). length z) items, length_push c.self.inside.peers.items (c.args.dst.0, c.new.result));
      },
      near_after c.args.now.0 c.self.inside.peers.items c.push_reserved.new.self.items c.args.dst.0 c.new.result (all-later _ _ _ last c.self.invariant.1) c.new.ensures.near
          (ap (λ (z : List (ℕ × Peer)). lookup (nat_eq c.args.dst.0) z) items ∙ new.0) (λ q apart. ap (λ (z : List (ℕ × Peer)). lookup (nat_eq q) z) items ∙ new.1 q apart),
    )

pub returns-in-Some-clause-shape : goal.returns-in-Some-clause-shape
returns-in-Some-clause-shape c h s =
    let stood = subst (λ (v : Book). StandsFor v h) (sym c.self.view_is) s in
    let f = found_at _ _ _ _ c.args.dst.0 c.in-Some.at c.index_mut.result.now c.prepare.new.self c.self.invariant.0 c.in-Some.ensures.place c.index_mut.ensures.value in
    let kept : Keeps c.index_mut.result.now.1 (of_peer c.args.dst h) = subst (λ (o : Option Peer). IsKept o (of_peer c.args.dst h)) (sym f.found) (stood.kept c.args.dst) in
    subst (λ (v : Book). c.prepare.result ≡ shape_of v.margin v.retry v.version (of_peer c.args.dst h) c.args.now.0 c.args.body c.args.nonce) c.self.view_is
    (c.prepare.ensures.shape ∙ shape-kept c.self.inside.margin c.self.inside.retry c.self.inside.version c.index_mut.result.now.1 (of_peer c.args.dst h) c.args.now.0 c.args.body c.args.nonce kept)

pub returns-in-Some-clause-stands : goal.returns-in-Some-clause-stands
returns-in-Some-clause-stands c h s =
    let v : Book = record { margin = c.self.inside.margin; retry = c.self.inside.retry; version = c.self.inside.version; spare = c.self.inside.room; last = c.self.inside.last.0; peers = c.self.inside.peers.items } in
    let stood = subst (λ (v : Book). StandsFor v h) (sym c.self.view_is) s in
    let f = found_at _ _ _ _ c.args.dst.0 c.in-Some.at c.index_mut.result.now c.prepare.new.self c.self.invariant.0 c.in-Some.ensures.place c.index_mut.ensures.value in
    let last : v.last ≤ c.args.now.0 = subst (λ (b : Book). b.last ≤ c.args.now.0) (sym c.self.view_is) c.requires.time in
    rw (← c.self.view_is)
    (stands_at v _ h c.args.dst (Prepared c.args.now.0 c.prepare.result (length_of v.version c.prepare.result c.args.body)) c.index_mut.result.now.1 c.prepare.new.self stood
    (same_rules v _ refl refl refl last)
    (λ k. next-prepared v.margin v.retry v.version v.last (of_peer c.args.dst h) c.args.now.0 c.args.body c.args.nonce c.prepare.result last (stood.times c.args.dst)
    (c.prepare.ensures.shape ∙ shape-kept v.margin v.retry v.version c.index_mut.result.now.1 (of_peer c.args.dst h) c.args.now.0 c.args.body c.args.nonce k))
    (le_refl c.args.now.0) f.found f.here f.others
    (λ k. rw c.prepare.ensures.prepared (keeps_prepared v.version c.index_mut.result.now.1 (of_peer c.args.dst h) c.args.now.0 c.args.body c.prepare.result k)))

pub returns-in-Some-clause-showable : goal.returns-in-Some-clause-showable
returns-in-Some-clause-showable c h s showable =
    let stood = subst (λ (v : Book). StandsFor v h) (sym c.self.view_is) s in
    let fits = subst (λ (v : Book). AreShowable v.version h) (sym c.self.view_is) showable in
    let f = found_at _ _ _ _ c.args.dst.0 c.in-Some.at c.index_mut.result.now c.prepare.new.self c.self.invariant.0 c.in-Some.ensures.place c.index_mut.ensures.value in
    let kept : Keeps c.index_mut.result.now.1 (of_peer c.args.dst h) = subst (λ (o : Option Peer). IsKept o (of_peer c.args.dst h)) (sym f.found) (stood.kept c.args.dst) in
    let grant = subst (λ o. IfSome o (IsShowableGrant c.self.inside.version)) kept.grant (showable_grant c.self.inside.version (of_peer c.args.dst h) (showable_peer c.self.inside.version c.args.dst h fits)) in
    subst (λ (v : Book). IsShowable v.version c.prepare.result) c.self.view_is
    (subst (IsShowable c.self.inside.version) (sym c.prepare.ensures.shape) (showable_shape _ c.self.inside.version _ c.index_mut.result.now.1.grant _ _ _ grant c.requires.nonce))

pub returns-in-Some-clause-spare : goal.returns-in-Some-clause-spare
returns-in-Some-clause-spare c =
    let f = found_at _ _ _ _ c.args.dst.0 c.in-Some.at c.index_mut.result.now c.prepare.new.self c.self.invariant.0 c.in-Some.ensures.place c.index_mut.ensures.value in
    subst (λ (v : Book). c.self.inside.room ≡ cond (knows v c.args.dst) v.spare (v.spare - 1)) c.self.view_is (rw (sym f.found) refl)

pub returns-in-Some-clause-known : goal.returns-in-Some-clause-known
returns-in-Some-clause-known c a =
    let f = found_at _ _ _ _ c.args.dst.0 c.in-Some.at c.index_mut.result.now c.prepare.new.self c.self.invariant.0 c.in-Some.ensures.place c.index_mut.ensures.value in
    f.known a.0
    ∙ (known-found c.self.inside.peers.items c.args.dst.0 c.index_mut.result.now.1 f.found a.0 ∙ ap (λ (v : Book). knows v a || eqb a.0 c.args.dst.0) c.self.view_is)

pub returns-in-None-clause-shape : goal.returns-in-None-clause-shape
returns-in-None-clause-shape c h s =
    let absent = subst (λ (b : Book). None ≡ lookup (nat_eq c.args.dst.0) b.peers) c.self.view_is (no_place _ _ c.args.dst.0 c.self.invariant.0.addresses c.in-None.ensures.place) in
    shape-strange c.args.self.now.margin c.args.self.now.retry c.args.self.now.version (of_peer c.args.dst h) c.args.now.0 c.args.body c.args.nonce (strange_at c.args.self.now h c.args.dst s absent)

pub returns-in-None-clause-stands : goal.returns-in-None-clause-stands
returns-in-None-clause-stands c h s =
    let v : Book = record { margin = c.self.inside.margin; retry = c.self.inside.retry; version = c.self.inside.version; spare = c.self.inside.room; last = c.self.inside.last.0; peers = c.self.inside.peers.items } in
    let stood = subst (λ (v : Book). StandsFor v h) (sym c.self.view_is) s in
    let absent = no_place _ _ c.args.dst.0 c.self.invariant.0.addresses c.in-None.ensures.place in
    let new = new_place _ _ c.args.dst.0 c.new.result c.self.invariant.0.addresses c.in-None.ensures.place in
    let last : v.last ≤ c.args.now.0 = subst (λ (b : Book). b.last ≤ c.args.now.0) (sym c.self.view_is) c.requires.time in
    stands_more v _ h c.args.dst (Prepared c.args.now.0 shape.Request (request_length c.args.body)) stood
    (same_rules v _ refl refl refl last)
    (next-prepared v.margin v.retry v.version v.last (of_peer c.args.dst h) c.args.now.0 c.args.body c.args.nonce shape.Request last (stood.times c.args.dst)
    (shape-strange v.margin v.retry v.version (of_peer c.args.dst h) c.args.now.0 c.args.body c.args.nonce (strange_at v h c.args.dst stood absent)))
    (le_refl c.args.now.0) (λ q apart. ap (λ (z : List (ℕ × Peer)). lookup (nat_eq q) z) c.push_reserved.ensures.items ∙ new.1 q apart)
    (subst (λ (o : Option Peer). IsKept o (of_peer c.args.dst h ++ Prepared c.args.now.0 shape.Request (request_length c.args.body) ∷ [])) (sym (ap (λ (z : List (ℕ × Peer)). lookup (nat_eq c.args.dst.0) z) c.push_reserved.ensures.items ∙ new.0))
    (rw c.new.ensures.peer (keeps_first v.version (of_peer c.args.dst h) c.args.now c.args.body (strange_at v h c.args.dst stood absent))))

pub returns-in-None-clause-spare : goal.returns-in-None-clause-spare
returns-in-None-clause-spare c =
    let none : lookup (nat_eq c.args.dst.0) c.self.inside.peers.items ≡ None = sym (no_place _ _ c.args.dst.0 c.self.invariant.0.addresses c.in-None.ensures.place) in
    subst (λ (v : Book). c.self.inside.room - 1 ≡ cond (knows v c.args.dst) v.spare (v.spare - 1)) c.self.view_is (rw none refl)

pub returns-in-None-clause-known : goal.returns-in-None-clause-known
returns-in-None-clause-known c a =
    ap (λ (z : List (ℕ × Peer)). is_some (lookup (nat_eq a.0) z)) c.push_reserved.ensures.items
    ∙ (known-push c.self.inside.peers.items c.args.dst.0 c.new.result a.0 ∙ ap (λ (v : Book). knows v a || eqb a.0 c.args.dst.0) c.self.view_is)
