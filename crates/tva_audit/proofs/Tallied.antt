-- Tallies, and the events that were told to them.
use Rattle.tva_audit.proofs.Common.{◌≡◌, ◌≢◌, ℕ, ◌+◌, ◌<◌, ◌≤◌, List, [], ◌∷◌, ◌++◌, length, get_or, set, drop, All, Bool, Option, Some, None, refl, sym, ◌∙◌, ap, subst, arith, inl, inr, append_assoc, append-nil, length-set, ◌==◌, option_map_or, cons_option, cases_Bool, eq-eqb, eqb-true, ne_eqb, drop_more, get_or-set_other, get_or-set_same, length_push, All-append, All-from_recursion, filter-append, slice_get-get_or, Event, Time, from_source, filter-true, filter-false, Config, NodePlan, picked, event_node, restarts_in, Tally, charged_in, charges_in, HasRoom, IsSound, StandsFor, AreReady, AreTallied, IsTallied, restarts_at}
use Rattle.std.specs.List.{filter}

-- ## lists

-- what holds of the others and of what is put in a place holds of all
put_there : {X : Type 0} (P : ℕ → X → Type 0) (xs : List X) (place : ℕ) (x : X) → place < length xs
    → ((n : ℕ) (d : X) → n < length xs → n ≢ place → P n (get_or xs n d)) → P place x
    → (n : ℕ) (d : X) → n < length (set xs place x) → P n (get_or (set xs place x) n d)
put_there P xs place x there others here n d l =
    elim (cases_Bool (n == place)) [
      | inl a ↦
          let e : place ≡ n = sym (eqb-true n place a) in
          subst (λ (k : ℕ). P k (get_or (set xs place x) k d)) e (subst (P place) (sym (get_or-set_same xs place x d there)) here)
      | inr a ↦
          let other : n ≢ place = λ e. let t = eq-eqb n place e in absurd cc in
          subst (P n) (sym (get_or-set_other xs place n x d other)) (others n d (omega (arith, l, length-set xs place x)) other)
    ]

-- the events of a node, with one more
told_there : (told : List Event) (e : Event) → from_source event_node e.node (told ++ e ∷ []) ≡ from_source event_node e.node told ++ e ∷ []
told_there told e =
    filter-append (λ (x : Event). event_node x == e.node) told (e ∷ [])
    ∙ ap (λ (es : List Event). from_source event_node e.node told ++ es) (filter-true (λ (x : Event). event_node x == e.node) e [] (eq-eqb e.node e.node refl))

told_elsewhere : (n : ℕ) (told : List Event) (e : Event) → n ≢ e.node → from_source event_node n (told ++ e ∷ []) ≡ from_source event_node n told
told_elsewhere n told e other =
    filter-append (λ (x : Event). event_node x == n) told (e ∷ [])
    ∙ ap (λ (es : List Event). from_source event_node n told ++ es) (filter-false (λ (x : Event). event_node x == n) e [] (ne_eqb e.node n (λ same. other (sym same))))
    ∙ append-nil (from_source event_node n told)

-- ## how many charges there are

one_at_most : {X : Type 0} (o : Option X) (xs : List X) (n : ℕ) → length xs ≤ n → length (cons_option o xs) ≤ n + 1
one_at_most None xs n h = omega (arith, h)
one_at_most (Some x) xs n h = omega (arith, h)

few_charges : (told : List Event) → length (charges_in told) ≤ length told
few_charges [] = omega arith
few_charges (e ∷ es) = let few = one_at_most (charged_in e) (charges_in es) (length es) (few_charges es) in omega (arith, few)

fewer_left : (p : Event → Bool) (told : List Event) → length (filter p told) ≤ length told
fewer_left p [] = omega arith
fewer_left p (e ∷ es) =
    let rest = fewer_left p es in
    elim (cases_Bool (p e)) [
      | inl a ↦ let here = ap length (filter-true p e es a) in omega (arith, here, rest)
      | inr a ↦ let here = ap length (filter-false p e es a) in omega (arith, here, rest)
    ]

-- there is room for as many more as may still happen
pub ready_by : (config : Config) (told : List Event) (tallies : List Tally) (more : ℕ) → AreTallied config told tallies → length told + more ≤ 4000000
    → AreReady config more tallies
ready_by config told tallies more h few = record {
  count = h.count;
  sound = h.sound;
  room = λ n d l.
      let charges = (h.each n d l).charges in
      let some = few_charges (from_source event_node n told) in
      let all = fewer_left (λ (x : Event). event_node x == n) told in
      let room : (get_or tallies n d).charges + more ≤ 4000000 = omega (arith, charges, some, all, few) in
      room;
}

-- ## one event more

pub ready_after : (config : Config) (tallies : List Tally) (place : ℕ) (t : Tally) (more : ℕ) → place < length tallies → AreReady config (more + 1) tallies
    → IsSound t → HasRoom t more → AreReady config more (set tallies place t)
ready_after config tallies place t more inside h sound room = record {
  count = length-set tallies place t ∙ h.count;
  sound = put_there (λ n x. IsSound x) tallies place t inside (λ n d l other. h.sound n d l) sound;
  room = put_there (λ n x. HasRoom x more) tallies place t inside
      (λ n d l other. let before = h.room n d l in let room : (get_or tallies n d).charges + more ≤ 4000000 = omega (arith, before) in room) room;
}

pub told_after : (config : Config) (told : List Event) (e : Event) (tallies : List Tally) (t : Tally) → e.node < length tallies → AreTallied config told tallies
    → IsSound t → StandsFor t (restarts_at config e.node) (charges_in (from_source event_node e.node told ++ e ∷ []))
    → AreTallied config (told ++ e ∷ []) (set tallies e.node t)
told_after config told e tallies t inside h sound stands = record {
  count = length-set tallies e.node t ∙ h.count;
  sound = put_there (λ n x. IsSound x) tallies e.node t inside (λ n d l other. h.sound n d l) sound;
  each = put_there (IsTallied config (told ++ e ∷ [])) tallies e.node t inside
      (λ n d l other. subst (λ (es : List Event). StandsFor (get_or tallies n d) (restarts_at config n) (charges_in es)) (sym (told_elsewhere n told e other)) (h.each n d l))
      (subst (λ (es : List Event). StandsFor t (restarts_at config e.node) (charges_in es)) (sym (told_there told e)) stands);
}

-- ## from the first to the sums

-- nothing was told to the tally
abbrev pub IsFresh : Tally → Type 0
IsFresh tally = IsSound tally × ((restarts : List (Time × List ℕ)) → StandsFor tally restarts [])

pub record AreFresh (count : ℕ) (tallies : List Tally) : Type 0 where
  pub long : length tallies ≡ count
  pub each : All IsFresh tallies

pub fresh_none : (tallies : List Tally) → tallies ≡ [] → AreFresh 0 tallies
fresh_none tallies none = subst (AreFresh 0) (sym none) (record { long = refl; each = All-from_recursion IsFresh [] tt })

pub fresh_more : (count : ℕ) (tallies new : List Tally) (t : Tally) → AreFresh count tallies → IsSound t
    → ((restarts : List (Time × List ℕ)) → StandsFor t restarts []) → new ≡ tallies ++ t ∷ [] → AreFresh (count + 1) new
fresh_more count tallies new t h sound stands pushed =
    subst (AreFresh (count + 1)) (sym pushed)
    (record {
      long = omega (arith, length_push tallies t, h.long);
      each = All-append IsFresh tallies (t ∷ []) h.each (All-from_recursion IsFresh (t ∷ []) ((sound, stands), tt));
    })

pub fresh_all : (config : Config) (count : ℕ) (tallies : List Tally) → count ≡ length config.nodes → AreFresh count tallies → AreTallied config [] tallies
fresh_all config count tallies all h = record {
  count = h.long ∙ all;
  sound = λ n d l. (h.each n d l).0;
  each = λ n d l. (h.each n d l).1 (restarts_at config n);
}

-- the tally in that place stands for what the node there says
pub stands_at : (config : Config) (told : List Event) (tallies : List Tally) (i : ℕ) (d : Tally) (p : NodePlan) → AreTallied config told tallies → i < length config.nodes
    → StandsFor (get_or tallies i d) (restarts_in (get_or config.nodes i p)) (charges_in (from_source event_node i told))
stands_at config told tallies i d p h below =
    let same : restarts_at config i ≡ restarts_in (get_or config.nodes i p) = ap (λ (o : Option NodePlan). option_map_or restarts_in o []) (slice_get-get_or config.nodes i p below) in
    subst (λ (rs : List (Time × List ℕ)). StandsFor (get_or tallies i d) rs (charges_in (from_source event_node i told))) same
    (h.each i d (omega (arith, below, h.count)))

cons_front : {B : Type 0} (o : Option B) (rest : List B) → cons_option o [] ++ rest ≡ cons_option o rest
cons_front None rest = refl
cons_front (Some b) rest = refl

-- one element more of a list whose chosen elements are found
pub picked_more : {A B : Type 0} (choice : ℕ → A → Option B) (xs : List A) (i : ℕ) (d : A) (o : Option B) (found now all : List B) → i < length xs
    → o ≡ choice i (get_or xs i d) → now ≡ found ++ cons_option o []
    → found ++ picked choice i (drop i xs) ≡ all → now ++ picked choice (i + 1) (drop (i + 1) xs) ≡ all
picked_more {A} {B} choice xs i d o found now all within chosen pushed so_far =
    let rest : List B = picked choice (i + 1) (drop (i + 1) xs) in
    ap (λ (l : List B). l ++ rest) pushed ∙ append_assoc found (cons_option o []) rest
    ∙ ap (λ (l : List B). found ++ l)
    (cons_front o rest ∙ ap (λ (p : Option B). cons_option p rest) chosen ∙ sym (ap (picked choice i) (drop_more xs i d within)))
    ∙ so_far

pub one_pushed : {B : Type 0} (found : List B) (o : Option B) (b : B) → o ≡ Some b → found ++ b ∷ [] ≡ found ++ cons_option o []
one_pushed {B} found o b e = ap (λ (p : Option B). found ++ cons_option p []) (sym e)

pub none_pushed : {B : Type 0} (found : List B) (o : Option B) → o ≡ None → found ≡ found ++ cons_option o []
none_pushed {B} found o e = sym (append-nil found) ∙ ap (λ (p : Option B). found ++ cons_option p []) (sym e)
