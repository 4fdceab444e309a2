-- What nodes tell, one node after another.
use Rattle.tva_net.proofs.Common.{◌≡◌, ℕ, zero, suc, ◌+◌, ◌<◌, ◌≤◌, List, [], ◌∷◌, ◌++◌, length, get_or, drop, All, refl, sym, subst, ◌∙◌, ap, ap₂, arith, inl, inr, true, false, ◌==◌, flat_map, AllByRecursion, eq-eqb, ne_eqb, append-nil, drop_all, All-head, All-tail, filter-append, Event, IsInOrder, IsJoin, MayPrecede, NeverFalls, from_source, each-append, each-weaker, filter-all, filter-none, Entry, entry_rank, entry_time, Site, events, NodeState, Stands, news, event_node, event_time, IsByTime, picked, HasNoNews, of_place, ArePlaces, AreQuietElsewhere}
use Rattle.tva_net.proofs.Orders.{stable_joins}
use Rattle.tva_net.proofs.NodePlaces.{since_picked}

-- ## what a node tells

told_times : (site : Site) (log : List Entry) → IsInOrder entry_time entry_rank log → NeverFalls event_time (events site log)
told_times site [] h = tt
told_times site (e ∷ es) h = (later es h.0, told_times site es h.1)
  where
    later : (xs : List Entry) → AllByRecursion (MayPrecede entry_time entry_rank e) xs → AllByRecursion (λ x. entry_time e ≤ event_time x) (events site xs)
    later [] k = tt
    later (x ∷ xs) k = ((elim k.0 [ inl a ↦ omega arith | inr a ↦ let b = a.0 in omega arith ]), later xs k.1)

told_nodes : (site : Site) (log : List Entry) → AllByRecursion (λ e. event_node e ≡ site.number) (events site log)
told_nodes site [] = tt
told_nodes site (e ∷ es) = (refl, told_nodes site es)

-- the nodes tell of themselves, from that number on, in the order of time
abbrev pub Tell : ℕ → List NodeState → Type 0
Tell k [] = Unit {0}
Tell k (v ∷ vs) = AllByRecursion (λ e. event_node e ≡ k) v.events × NeverFalls event_time v.events × Tell (k + 1) vs

tells : (k : ℕ) (v : NodeState) → v.site.number ≡ k → Stands v → AllByRecursion (λ e. event_node e ≡ k) v.events × NeverFalls event_time v.events
tells k v e (log, h) = (
  subst (λ (es : List Event). AllByRecursion (λ x. event_node x ≡ k) es) (sym h.events)
      (subst (λ (n : ℕ). AllByRecursion (λ x. event_node x ≡ n) (events v.site log)) e (told_nodes v.site log)),
  subst (NeverFalls event_time) (sym h.events) (told_times v.site log h.whole.in_order),
)

pub all_tell : (k : ℕ) (vs : List NodeState) → ((n : ℕ) (d : NodeState) → n < length vs → (get_or vs n d).site.number ≡ k + n) → All Stands vs → Tell k vs
all_tell k [] numbers stand = tt
all_tell k (v ∷ vs) numbers stand =
    let zeroth : v.site.number ≡ k + 0 = numbers 0 v (omega arith) in
    let first : v.site.number ≡ k = omega arith in
    let here = tells k v first (All-head Stands v vs stand) in
    (here.0, here.1, all_tell (k + 1) vs (λ n d l. let next : (get_or vs n d).site.number ≡ k + suc n = numbers (suc n) d (omega arith) in omega arith) (All-tail Stands v vs stand))

-- ## what is told since

each-drop : {X : Type 0} (P : X → Type 0) (n : ℕ) (xs : List X) → AllByRecursion P xs → AllByRecursion P (drop n xs)
each-drop P zero xs h = h
each-drop P (suc n) [] h = tt
each-drop P (suc n) (x ∷ xs) h = each-drop P n xs h.1

falls-drop : {X : Type 0} (time : X → ℕ) (n : ℕ) (xs : List X) → NeverFalls time xs → NeverFalls time (drop n xs)
falls-drop time zero xs h = h
falls-drop time (suc n) [] h = tt
falls-drop time (suc n) (x ∷ xs) h = falls-drop time n xs h.1

-- all that is told from a number on is of that number or a later one
told_late : (k : ℕ) (vs : List NodeState) → Tell k vs → AllByRecursion (λ e. k ≤ event_node e) (flat_map news vs)
told_late k [] h = tt
told_late k (v ∷ vs) h =
    each-append (λ e. k ≤ event_node e) (news v) (flat_map news vs)
    (each-weaker (λ e. event_node e ≡ k) (λ e. k ≤ event_node e) (λ e l. omega arith) (news v) (each-drop (λ e. event_node e ≡ k) v.gone.told v.events h.0))
    (each-weaker (λ e. k + 1 ≤ event_node e) (λ e. k ≤ event_node e) (λ e l. omega arith) (flat_map news vs) (told_late (k + 1) vs h.2))

rise_behind : (k : ℕ) (xs ys : List Event) → AllByRecursion (λ e. event_node e ≡ k) xs → AllByRecursion (λ e. k ≤ event_node e) ys → NeverFalls event_node ys → NeverFalls event_node (xs ++ ys)
rise_behind k [] ys h l r = r
rise_behind k (x ∷ xs) ys h l r =
    let here : event_node x ≡ k = h.0 in (
      each-append (λ e. event_node x ≤ event_node e) xs ys
          (each-weaker (λ e. event_node e ≡ k) (λ e. event_node x ≤ event_node e) (λ e m. omega arith) xs h.1)
          (each-weaker (λ e. k ≤ event_node e) (λ e. event_node x ≤ event_node e) (λ e m. omega arith) ys l),
      rise_behind k xs ys h.1 l r,
    )

told_rise : (k : ℕ) (vs : List NodeState) → Tell k vs → NeverFalls event_node (flat_map news vs)
told_rise k [] h = tt
told_rise k (v ∷ vs) h =
    rise_behind k (news v) (flat_map news vs) (each-drop (λ e. event_node e ≡ k) v.gone.told v.events h.0)
    (each-weaker (λ e. k + 1 ≤ event_node e) (λ e. k ≤ event_node e) (λ e l. omega arith) (flat_map news vs) (told_late (k + 1) vs h.2))
    (told_rise (k + 1) vs h.2)

told_falls : (k : ℕ) (vs : List NodeState) (n : ℕ) → Tell k vs → NeverFalls event_time (of_place news vs n)
told_falls k [] n h = tt
told_falls k (v ∷ vs) zero h = falls-drop event_time v.gone.told v.events h.1
told_falls k (v ∷ vs) (suc n) h = told_falls (k + 1) vs n h.2

-- what a node has not told yet never falls
pub told_on : (v : NodeState) → Stands v → NeverFalls event_time (news v)
told_on v s = falls-drop event_time v.gone.told v.events (tells v.site.number v refl s).1

own : (k s : ℕ) (xs : List Event) → s ≡ k → AllByRecursion (λ e. event_node e ≡ k) xs → from_source event_node s xs ≡ xs
own k s xs e h =
    filter-all (λ x. event_node x == s) xs
    (each-weaker (λ x. event_node x ≡ k) (λ x. (event_node x == s) ≡ true) (λ x l. eq-eqb (event_node x) s (l ∙ sym e)) xs h)

of_others : (k s : ℕ) (xs : List Event) → (s ≡ k → ⊥) → AllByRecursion (λ e. event_node e ≡ k) xs → from_source event_node s xs ≡ []
of_others k s xs e h =
    filter-none (λ x. event_node x == s) xs
    (each-weaker (λ x. event_node x ≡ k) (λ x. (event_node x == s) ≡ false) (λ x l. ne_eqb (event_node x) s (λ z. e (sym z ∙ l))) xs h)

of_later : (s : ℕ) (xs : List Event) → AllByRecursion (λ e. s + 1 ≤ event_node e) xs → from_source event_node s xs ≡ []
of_later s xs h =
    filter-none (λ x. event_node x == s) xs
    (each-weaker (λ x. s + 1 ≤ event_node x) (λ x. (event_node x == s) ≡ false) (λ x l. ne_eqb (event_node x) s (λ z. omega arith)) xs h)

-- of what is told, a node's is what it told itself
told_each : (k : ℕ) (vs : List NodeState) (n s : ℕ) → s ≡ k + n → Tell k vs → from_source event_node s (flat_map news vs) ≡ of_place news vs n
told_each k [] n s e h = refl
told_each k (v ∷ vs) zero s e h =
    let same : s ≡ k = omega arith in
    let late : AllByRecursion (λ e. s + 1 ≤ event_node e) (flat_map news vs) =
    each-weaker (λ e. k + 1 ≤ event_node e) (λ e. s + 1 ≤ event_node e) (λ e l. omega arith) (flat_map news vs) (told_late (k + 1) vs h.2) in
    filter-append (λ x. event_node x == s) (news v) (flat_map news vs)
    ∙ (ap₂ (λ (xs ys : List Event). xs ++ ys) (own k s (news v) same (each-drop (λ e. event_node e ≡ k) v.gone.told v.events h.0)) (of_later s (flat_map news vs) late)
    ∙ append-nil (news v))
told_each k (v ∷ vs) (suc n) s e h =
    let other : s ≡ k → ⊥ = λ z. omega arith in
    let further : s ≡ (k + 1) + n = omega arith in
    filter-append (λ x. event_node x == s) (news v) (flat_map news vs)
    ∙ (ap (λ (xs : List Event). xs ++ from_source event_node s (flat_map news vs)) (of_others k s (news v) other (each-drop (λ e. event_node e ≡ k) v.gone.told v.events h.0))
    ∙ told_each (k + 1) vs n s further h.2)

nothing_new : (v : NodeState) → HasNoNews v → news v ≡ []
nothing_new v h = drop_all v.gone.told v.events (let told = h.told in omega (arith, told))

-- what the nodes in these places tell, put in order, is the join of what the nodes tell, where the others tell nothing
pub told_join : (vs : List NodeState) (places : List ℕ) (ordered : List Event) → ((n : ℕ) (d : NodeState) → n < length vs → (get_or vs n d).site.number ≡ n) → All Stands vs → ArePlaces (length vs) places → AreQuietElsewhere vs places
    → IsByTime (picked news vs places) ordered → IsJoin event_time event_node (of_place news vs) ordered
told_join vs places ordered numbers stand placed quiet by =
    let tell : Tell 0 vs = all_tell 0 vs (λ n d l. let same : (get_or vs n d).site.number ≡ n = numbers n d l in omega arith) stand in
    let whole : flat_map news vs ≡ picked news vs places = since_picked news vs places placed (λ i d l out. nothing_new (get_or vs i d) (quiet i d l out)) in
    let each : (s : ℕ) → from_source event_node s (flat_map news vs) ≡ of_place news vs s = λ s. told_each 0 vs s s (omega arith) tell in
    let j = stable_joins event_time event_node (flat_map news vs) ordered by.times (λ t. by.ties t ∙ ap (from_source event_time t) (sym whole)) (told_rise 0 vs tell)
    (λ s. subst (NeverFalls event_time) (sym (each s)) (told_falls 0 vs s tell)) in
    record { in_order = j.in_order; each = λ s. j.each s ∙ each s }
