-- Lanes, the table that finds them and the one that says which has the next input.
use Rattle.tva_waiting.proofs.Common.{nat_tests, ◌≡◌, ℕ, zero, suc, ◌+◌, ◌<◌, ◌≤◌, List, [], ◌∷◌, ◌++◌, length, map, get_or, set, Option, Some, None, true, false, refl, sym, subst, ◌∙◌, ap, ap₂, arith, insert, ◌==◌, ◌^◌, AllByRecursion, list_any, ne_eqb, cond-false, get_or-set_other, get_or-set_same, length-map, place_in, IsLeastPlace, MayPrecede, IsInOrder, precedes, put_in, each-append, each-weaker, Input, input_source, input_time, AreQueues, IsNextIn, IsQueue, Queue, all_in, head_at, head_of, key_of, never, no_queue, get_or_default}
use Rattle.std.specs.List.{IsDistinct}
use Rattle.std.specs.Option.{option_map}
use Rattle.std.proofs.lemmas.Map.Steps.{length-le_from_distinct_below}
use Rattle.tva_run.proofs.Joins.{each-map, may_precede_trans}
use Rattle.tva_waiting.proofs.Queues.{queue_at}
use Rattle.tva_base.proofs.Each.{each-of_map}

-- ## what stands before others

module _ {X : Type 0} (f : X → Input) (time source : X → ℕ) (t : (x : X) → time x ≡ input_time (f x)) (s : (x : X) → source x ≡ input_source (f x)) where
  may : (x y : X) → MayPrecede input_time input_source (f x) (f y) → MayPrecede time source x y
  may x y m = rw (t x, t y, s x, s y) m

  -- what are in order as inputs are so as they lie in memory
  pub in_order_held : (xs : List X) → IsInOrder input_time input_source (map f xs) → IsInOrder time source xs
  in_order_held [] h = tt
  in_order_held (x ∷ xs) h = (each-weaker (λ y. MayPrecede input_time input_source (f x) (f y)) (MayPrecede time source x) (λ y m. may x y m) xs (each-of_map f (MayPrecede input_time input_source (f x)) xs h.0), in_order_held xs h.1)

  same_test : (x y : X) → precedes input_time input_source (f x) (f y) ≡ precedes time source x y
  same_test x y = rw (t x, t y, s x, s y) refl

  pub map-put_in : (x : X) (xs : List X) → map f (put_in time source x xs) ≡ put_in input_time input_source (f x) (map f xs)
  map-put_in x [] = refl
  map-put_in x (y ∷ ys) = grind (arith, nat_tests, same_test, (map-put_in x ys))

-- one put in behind the first leaves the first
pub head-insert : {X : Type 0} (f : X → Input) (xs : List X) (n : ℕ) (x : X) → 0 < n → n ≤ length xs → head_of (map f (insert xs n x)) ≡ head_of (map f xs)
head-insert f xs n x l m = grind (arith, nat_tests)

-- ## a source is found

place_behind : (o : Option ℕ) (place : ℕ) → option_map (λ n. suc n) o ≡ Some place → (n : ℕ) × (o ≡ Some n) × (place ≡ suc n)
place_behind o place e = grind (arith, nat_tests)

pub found : (key : ℕ) (keys : List ℕ) (place : ℕ) → place_in key keys ≡ Some place → (place < length keys) × ((d : ℕ) → get_or keys place d ≡ key)
found key [] place e = absurd (cc)
found key (k ∷ ks) place e = grind (arith, nat_tests, place_behind, (found key ks))

pub not_found : (key : ℕ) (keys : List ℕ) → place_in key keys ≡ None → AllByRecursion (λ k. (k == key) ≡ false) keys
not_found key [] e = tt
not_found key (k ∷ ks) e = grind (arith, nat_tests, (not_found key ks))

-- a key that is none of the others isn't found
pub new_key : (key : ℕ) (keys : List ℕ) → AllByRecursion (λ k. (k == key) ≡ false) keys → place_in key keys ≡ None
new_key key [] h = refl
new_key key (k ∷ ks) h = cond-false (k == key) (Some 0) (option_map (λ n. suc n) (place_in key ks)) h.0 ∙ ap (option_map (λ n. suc n)) (new_key key ks h.1)

-- ## one more queue, of which nothing waits

pub queues_end : (qs : List Queue) (q : Queue) → AreQueues qs → IsQueue q → AllByRecursion (λ o. o.source ≡ q.source → ⊥) qs → AreQueues (qs ++ q ∷ [])
queues_end [] q a i n = (i, tt, tt)
queues_end (r ∷ qs) q a i n = (a.0, each-append (λ o. o.source ≡ r.source → ⊥) qs (q ∷ []) a.1 ((λ h. n.0 (sym h)), tt), queues_end qs q a.2 i n.1)

pub all_in-end : (qs : List Queue) (source : ℕ) → all_in (qs ++ record { source = source; inputs = [] } ∷ []) ≡ all_in qs
all_in-end [] source = refl
all_in-end (r ∷ qs) source = ap (λ (xs : List Input). r.inputs ++ xs) (all_in-end qs source)

pub head_at-end : (qs : List Queue) (source place : ℕ) → head_at (qs ++ record { source = source; inputs = [] } ∷ []) place ≡ head_at qs place
head_at-end [] source zero = refl
head_at-end [] source (suc place) = refl
head_at-end (r ∷ qs) source zero = refl
head_at-end (r ∷ qs) source (suc place) = head_at-end qs source place

-- ## the heads

pub heads-set : (heads : List ℕ) (qs : List Queue) (p v : ℕ) (q : Queue) → ((place : ℕ) → get_or heads place never ≡ head_at qs place) → p < length heads → p < length qs → v ≡ head_of q.inputs
    → (place : ℕ) → get_or (set heads p v) place never ≡ head_at (set qs p q) place
heads-set heads qs p v q h l m e place = grind (arith, nat_tests, never, get_or-set_same, get_or-set_other)

-- no input is as late as none
is_some : (x : Input) → input_source x < 2 ^ 17 → input_time x < 2 ^ 64 → never ≤ key_of x → ⊥
is_some x a b l = omega (arith, a, b, l)

first_before : (x : Input) (ys : List Input) (s : ℕ) → input_source x < 2 ^ 17 → s < 2 ^ 17 → AllByRecursion (λ y. input_source y ≡ s) ys → IsInOrder input_time input_source ys → key_of x ≤ head_of ys → AllByRecursion (MayPrecede input_time input_source x) ys
first_before x ys s a b f o l = grind (arith, nat_tests, each-weaker, may_precede_trans)

all_before : (x : Input) (qs : List Queue) → input_source x < 2 ^ 17 → AreQueues qs → ((place : ℕ) → place < length qs → key_of x ≤ head_at qs place) → AllByRecursion (MayPrecede input_time input_source x) (all_in qs)
all_before x [] a q l = tt
all_before x (r ∷ qs) a q l =
    each-append (MayPrecede input_time input_source x) r.inputs (all_in qs) (first_before x r.inputs r.source a q.0.few q.0.from q.0.in_order (l 0 (omega arith)))
    (all_before x qs a q.2 (λ place m. l (suc place) (omega (arith, m))))

none_waits : (qs : List Queue) → AreQueues qs → ((place : ℕ) → place < length qs → never ≤ head_at qs place) → all_in qs ≡ []
none_waits [] q l = refl
none_waits (r ∷ qs) q l = ap₂ ◌++◌ (empty r.inputs q.0 refl (l 0 (omega arith))) (none_waits qs q.2 (λ place m. l (suc place) (omega (arith, m))))
  where
    empty : (xs : List Input) → IsQueue r → r.inputs ≡ xs → never ≤ head_of r.inputs → r.inputs ≡ []
    empty [] i e m = e
    empty (x ∷ xs) i e m = absurd (is_some x (let f = (rw e at i.from).0 in subst (λ n. n < 2 ^ 17) (sym f) i.few) (rw e at i.soon).0 (subst (λ ys. never ≤ head_of ys) e m))

pub in_range : (qs : List Queue) (place : ℕ) (x : Input) (rest : List Input) → (get_or qs place no_queue).inputs ≡ x ∷ rest → place < length qs
in_range [] place x rest e = absurd (cc)
in_range (q ∷ qs) zero x rest e = omega arith
in_range (q ∷ qs) (suc place) x rest e = omega (arith, in_range qs place x rest e)

module _ (qs : List Queue) (a : AreQueues qs) (heads : List ℕ) (room : length qs ≤ length heads) (h : (place : ℕ) → get_or heads place never ≡ head_at qs place) (p : ℕ) (least : IsLeastPlace heads (Some p)) where
  least_head : (place : ℕ) → place < length qs → head_at qs p ≤ head_at qs place
  least_head place l = grind (arith, nat_tests, get_or_default, never)

  pub least_next : (x : Input) (rest : List Input) → (get_or qs p no_queue).inputs ≡ x ∷ rest → IsNextIn qs (get_or qs p no_queue) x rest
  least_next x rest e =
      let i = queue_at qs p no_queue a (in_range qs p x rest e) in
      let few : input_source x < 2 ^ 17 = (let f = (rw e at i.from).0 in subst (λ n. n < 2 ^ 17) (sym f) i.few) in
      record {
        first = e;
        before = all_before x qs few a (λ place m. subst (λ (ys : List Input). head_of ys ≤ head_at qs place) e (least_head place m));
      }

  pub least_none : (get_or qs p no_queue).inputs ≡ [] → all_in qs ≡ []
  least_none e = none_waits qs a (λ place m. subst (λ (ys : List Input). head_of ys ≤ head_at qs place) e (least_head place m))

-- ## how many there may be

sources_below : (qs : List Queue) → AreQueues qs → (s : ℕ) → list_any (λ n. s == n) (map (λ q. q.source) qs) ≡ true → s < 2 ^ 17
sources_below [] a s h = absurd (cc)
sources_below (q ∷ qs) a s h = grind (arith, nat_tests, (sources_below qs a.2 s))

distinct : (qs : List Queue) → AreQueues qs → IsDistinct (λ m n. m == n) (map (λ q. q.source) qs)
unfolding IsDistinct
distinct [] a = tt
distinct (q ∷ qs) a = (each-map (λ (o : Queue). o.source) (λ n. (q.source == n) ≡ false) qs (each-weaker (λ o. o.source ≡ q.source → ⊥) (λ o. (q.source == o.source) ≡ false) (λ o n. ne_eqb q.source o.source (λ e. n (sym e))) qs a.1), distinct qs a.2)

pub few_queues : (qs : List Queue) → AreQueues qs → length qs ≤ 2 ^ 17
few_queues qs a = subst (λ n. n ≤ 2 ^ 17) (length-map qs (λ (q : Queue). q.source)) (length-le_from_distinct_below (map (λ q. q.source) qs) (2 ^ 17) (distinct qs a) (sources_below qs a))
