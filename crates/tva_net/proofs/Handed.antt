-- Nodes that hand out events: nothing else of them changes.
use Rattle.tva_net.proofs.Common.{◌≡◌, ℕ, ◌+◌, ◌<◌, ◌≤◌, List, [], ◌∷◌, ◌++◌, Vec, Global, length, get_or, set, drop, Option, Some, None, IfSome, Result, Ok, Err, IfOk, refl, sym, subst, ◌∙◌, ap, ap₂, arith, flat_map, AllZip, append-nil, drop_all, get_or_default, set-get_or, AllZip-get_or, Event, NeverFalls, from_source, Gone, NodeState, all_given, news, unsent, event_time, IsByTime, IsOnly, picked, HandedOn, HandedOut, of_place, ArePlaces, AreQuietElsewhere, AllZip-same, AllZip-long, nil_from_length}
use Rattle.tva_net.proofs.Lists.{zip_weaker}
use Rattle.tva_net.proofs.Mails.{zip_set}
use Rattle.tva_net.proofs.NodePlaces.{of_place_is, picked_last, picked_more, since_picked}

-- ## a node

handed_nothing : (v : NodeState) → HandedOut v v
handed_nothing v = record { same = refl; news = λ h. h }

pub handed_on : (v w : NodeState) → HandedOut v w → HandedOn v w
handed_on v w h = record {
  same = h.same ∙ ap (λ (g : Gone). record v { gone = g }) (sym (ap (λ (x : NodeState). x.gone) h.same));
  news = h.news;
}

pub unsent_still : (v w : NodeState) → HandedOut v w → unsent w ≡ unsent v
unsent_still v w h = ap (λ (x : NodeState). unsent x) h.same

-- its news are taken, or nothing happens
pub taken : (v w : NodeState) (news : Option (Vec Event Global)) → IfSome news (λ list. w ≡ record v { gone = all_given v }) → (news ≡ None → w ≡ v) → HandedOut v w
taken v w None some none = subst (HandedOut v) (sym (none refl)) (handed_nothing v)
taken v w (Some list) some none = subst (HandedOut v) (sym some) (record { same = refl; news = λ h. record { told = refl; sent = h.sent } })

-- ## nodes

pub handed_none : (xs : List NodeState) → AllZip HandedOut xs xs
handed_none xs = AllZip-same HandedOut handed_nothing xs

pub handed_one : (nodes : List NodeState) (place : ℕ) (u w : NodeState) → place < length nodes → HandedOut (get_or nodes place u) w → AllZip HandedOut nodes (set nodes place w)
handed_one nodes place u w l h =
    zip_set HandedOut handed_nothing nodes place w (subst (λ (v : NodeState). HandedOut v w) (get_or_default nodes place u w l) h)

pub all_handed_on : (xs ys : List NodeState) → AllZip HandedOut xs ys → AllZip HandedOn xs ys
all_handed_on xs ys h = zip_weaker HandedOut HandedOn handed_on xs ys h

pub handed_unsent : (xs ys : List NodeState) → AllZip HandedOut xs ys → flat_map unsent ys ≡ flat_map unsent xs
handed_unsent [] [] h = refl
handed_unsent [] (w ∷ ws) h = absurd h
handed_unsent (v ∷ vs) [] h = absurd h
handed_unsent (v ∷ vs) (w ∷ ws) h = ap₂ (λ xs ys. xs ++ ys) (unsent_still v w h.0) (handed_unsent vs ws h.1)

pub handed_elsewhere : (xs ys : List NodeState) (places : List ℕ) → AllZip HandedOut xs ys → AreQuietElsewhere xs places → AreQuietElsewhere ys places
handed_elsewhere xs ys places h k = λ place d l out.
    let there : place < length xs = omega (arith, l, AllZip-long HandedOut xs ys h) in
    (AllZip-get_or HandedOut xs ys place d d h there).news (k place d there out)

-- one node is as it was
pub same_there : (nodes : List NodeState) (place : ℕ) (u w : NodeState) → w ≡ get_or nodes place u → set nodes place w ≡ nodes
same_there nodes place u w e = ap (set nodes place) e ∙ set-get_or nodes place u

-- ## what one node alone tells

pub if_some : {X : Type 0} (P Q : X → Type 0) → ((x : X) → P x → Q x) → (r : Option X) → IfSome r P → IfSome r Q
if_some P Q f None h = tt
if_some P Q f (Some x) h = f x h

pub if_ok : {X E : Type 0} (P Q : X → Type 0) → ((x : X) → P x → Q x) → (r : Result X E) → IfOk r P → IfOk r Q
if_ok P Q f (Ok x) h = f x h
if_ok P Q f (Err e) h = tt

pub by_itself : (told ordered : List Event) → ordered ≡ told → NeverFalls event_time told → IsByTime told ordered
by_itself told ordered e f = record {
  times = subst (NeverFalls event_time) (sym e) f;
  ties = λ t. ap (from_source event_time t) e;
}

-- of the news, the nodes in the first so many places have those of the node in that place alone
abbrev pub IsOnlySoFar : List NodeState → List ℕ → ℕ → Option ℕ → Type 0
IsOnlySoFar nodes places i None = picked news nodes (drop i places) ≡ picked news nodes places
IsOnlySoFar nodes places i (Some p) = (p < length nodes) × (of_place news nodes p ++ picked news nodes (drop i places) ≡ picked news nodes places)

module _ (nodes : List NodeState) (places : List ℕ) (i : ℕ) (l : i < length places) (v : NodeState) (is : v ≡ get_or nodes (get_or places i 0) v) (m : get_or places i 0 < length nodes) where
  none_here : length (news v) ≤ 0 → picked news nodes (drop i places) ≡ picked news nodes (drop (i + 1) places)
  none_here few =
      let none : of_place news nodes (get_or places i 0) ≡ [] = of_place_is news nodes (get_or places i 0) v m ∙ (ap (λ (u : NodeState). news u) (sym is) ∙ nil_from_length (news v) (omega (arith, few))) in
      picked_more news nodes places i 0 l ∙ ap (λ (xs : List Event). xs ++ picked news nodes (drop (i + 1) places)) none

  pub quiet_there : (only : Option ℕ) → length (news v) ≤ 0 → IsOnlySoFar nodes places i only → IsOnlySoFar nodes places (i + 1) only
  quiet_there None few h = sym (none_here few) ∙ h
  quiet_there (Some p) few h = (h.0, ap (λ (xs : List Event). of_place news nodes p ++ xs) (sym (none_here few)) ∙ h.1)

  pub first_there : IsOnlySoFar nodes places i None → IsOnlySoFar nodes places (i + 1) (Some (get_or places i 0))
  first_there h = (m, sym (picked_more news nodes places i 0 l) ∙ h)

pub only_within : (nodes : List NodeState) (places : List ℕ) (i : ℕ) (only : Option ℕ) → IsOnlySoFar nodes places i only → IfSome only (λ p. p < length nodes)
only_within nodes places i None h = tt
only_within nodes places i (Some p) h = h.0

pub only_last : (nodes : List NodeState) (places : List ℕ) (i : ℕ) (only : Option ℕ) → length places ≤ i → IsOnlySoFar nodes places i only → IfSome only (IsOnly nodes places)
only_last nodes places i None l h = tt
only_last nodes places i (Some p) l h = λ d.
    sym h.1
    ∙ (ap (λ (xs : List Event). of_place news nodes p ++ xs) (picked_last news nodes places i l)
    ∙ (append-nil (of_place news nodes p) ∙ of_place_is news nodes p d h.0))

-- all that the nodes sent is what those in these places have, where the others have nothing
pub unsent_whole : (nodes : List NodeState) (places : List ℕ) → ArePlaces (length nodes) places → AreQuietElsewhere nodes places → flat_map unsent nodes ≡ picked unsent nodes places
unsent_whole nodes places placed quiet = since_picked unsent nodes places placed
    (λ i d l out. drop_all (get_or nodes i d).gone.sent (get_or nodes i d).sendings (let sent = (quiet i d l out).sent in omega (arith, sent)))
