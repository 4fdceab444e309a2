-- What is given of the windows so far, with one more.
use Rattle.tva_net.proofs.Common.{◌≡◌, ℕ, ◌<◌, ◌≤◌, List, [], ◌∷◌, ◌++◌, length, map, filter, Bool, true, false, refl, ◌∙◌, ap, ap₂, arith, nat_lt, nat_le, ◌&&◌, AllByRecursion, lt-ltb, append-nil, map-append, filter-append, Event, filter-true, filter-all, filter-none, each-weaker, each-both, event_time, Window, events_in, given, if_some}
use Rattle.std.specs.List.{flat_map}
use Rattle.std.proofs.lemmas.Grind.{flat_map-append}
use Rattle.tva_base.proofs.Each.{is_in, is_behind, is_ahead}

-- those in which something happens
abbrev filled : List (List Event) → List (List Event)
filled xss = filter (λ es. nat_lt 0 (length es)) xss

pub if_some_is : (list : List Event) → 0 < length list → if_some list ≡ list ∷ []
if_some_is list l = filter-true (λ (es : List Event). nat_lt 0 (length es)) list [] (lt-ltb 0 (length list) l)

flat_if_some : (list : List Event) → flat_map (λ (es : List Event). es) (if_some list) ≡ list
flat_if_some [] = refl
flat_if_some (x ∷ xs) = ap (flat_map (λ (es : List Event). es)) (if_some_is (x ∷ xs) (omega arith)) ∙ append-nil (x ∷ xs)

module _ (from start until : ℕ) (told list : List Event) (order : from ≤ start) (early : AllByRecursion (λ e. event_time e < from) told)
    (late : AllByRecursion (λ e. start ≤ event_time e) list) (within : AllByRecursion (λ e. event_time e < until) list) where
  in_old : (x : Window) → x.1 ≤ from → events_in (told ++ list) x ≡ events_in told x
  in_old x l =
      let p : Event → Bool = λ e. nat_le x.0 (event_time e) && nat_lt (event_time e) x.1 in
      filter-append p told list
      ∙ (ap (λ (es : List Event). filter p told ++ es) (filter-none p list (each-weaker (λ e. start ≤ event_time e) (λ e. p e ≡ false) (λ e k. is_behind x.0 x.1 (event_time e) (omega (arith, k, l, order))) list late))
      ∙ append-nil (filter p told))

  in_new : events_in (told ++ list) (start, until) ≡ list
  in_new =
      let p : Event → Bool = λ e. nat_le start (event_time e) && nat_lt (event_time e) until in
      filter-append p told list
      ∙ ap₂ (λ (xs ys : List Event). xs ++ ys)
      (filter-none p told (each-weaker (λ e. event_time e < from) (λ e. p e ≡ false) (λ e k. is_ahead start until (event_time e) (omega (arith, k, order))) told early))
      (filter-all p list (each-both (λ e. start ≤ event_time e) (λ e. event_time e < until) (λ e. p e ≡ true) (λ e a b. is_in start until (event_time e) a b) list late within))

  map_old : (windows : List Window) → AllByRecursion (λ (x : Window). x.1 ≤ from) windows → map (events_in (told ++ list)) windows ≡ map (events_in told) windows
  map_old [] h = refl
  map_old (x ∷ xs) h = ap₂ ◌∷◌ (in_old x h.0) (map_old xs h.1)

  pub given_more : (windows : List Window) → AllByRecursion (λ (x : Window). x.1 ≤ from) windows → given (told ++ list) (windows ++ (start, until) ∷ []) ≡ given told windows ++ if_some list
  given_more windows h =
      let window : Window = (start, until) in
      ap filled (map-append (events_in (told ++ list)) windows (window ∷ [])
      ∙ ap₂ (λ (xss yss : List (List Event)). xss ++ yss) (map_old windows h) (ap (λ (es : List Event). es ∷ []) in_new))
      ∙ filter-append (λ (es : List Event). nat_lt 0 (length es)) (map (events_in told) windows) (list ∷ [])

-- all of it is what happens
pub held_more : (told list : List Event) (before after : List (List Event)) → flat_map (λ (es : List Event). es) before ≡ told → after ≡ before ++ if_some list → flat_map (λ (es : List Event). es) after ≡ told ++ list
held_more told list before after h e =
    ap (flat_map (λ (es : List Event). es)) e
    ∙ (flat_map-append (λ (es : List Event). es) before (if_some list) ∙ ap₂ (λ (xs ys : List Event). xs ++ ys) h (flat_if_some list))
