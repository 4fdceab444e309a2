-- Queues of several sources, and the one list in order that they make.
use Rattle.tva_waiting.proofs.Common.{nat_tests, ◌≡◌, ℕ, zero, suc, ◌<◌, ◌≤◌, List, [], ◌∷◌, ◌++◌, length, get_or, set, true, false, refl, sym, subst, ◌∙◌, ap, ap₂, arith, inl, inr, ◌⊎◌, nat_lt, ◌==◌, ◌||◌, ◌&&◌, ◌^◌, AllByRecursion, eq-eqb, ne_eqb, cases_Bool, cases_eq, cond-true, cond-false, append-nil, get_or-set_same, length-set, MayPrecede, IsInOrder, from_source, precedes, put_in, sorted, NeverFalls, each-append, each-weaker, filter-true, filter-false, filter-all, filter-none, join_unique, before_yes, each-put_all, each-put_in, each_from_sources, in_order-put_all, in_order-put_in, source-put_all, strictly_trans, Input, input_source, input_time, Arrival, FromTrace, first_time, is_row_first, AreQueues, IsNextIn, IsQueue, Queue, all_in}
use Rattle.std.proofs.lemmas.List.Elements.{filter-append}
use Rattle.tva_run.proofs.Putting.{source-put_in_other}
use Rattle.tva_run.proofs.LogWalks.{each_front}
use Rattle.tva_run.proofs.Joins.{each-right}
use Rattle.tva_base.proofs.Each.{each-at}

-- ## one source of a list in order

yes_before : (a b c d : ℕ) → (a < c) ⊎ ((a ≡ c) × (b < d)) → (nat_lt a c || ((a == c) && nat_lt b d)) ≡ true
yes_before a b c d h = elim h [ inl l ↦ grind (arith, nat_tests) | inr l ↦ (let e = l.0 in let k = l.1 in grind (arith, nat_tests)) ]

module _ {X : Type 0} (time source : X → ℕ) where
  put_front : (x : X) (zs : List X) → AllByRecursion (λ z. precedes time source x z ≡ true) zs → put_in time source x zs ≡ x ∷ zs
  put_front x [] h = refl
  put_front x (z ∷ zs) h = cond-true (precedes time source x z) (x ∷ z ∷ zs) (z ∷ put_in time source x zs) h.0

  each_of : (P : X → Type 0) (s : ℕ) (xs : List X) → AllByRecursion P xs → AllByRecursion P (from_source source s xs)
  each_of P s [] h = tt
  each_of P s (x ∷ xs) h = grind (arith, nat_tests, filter-true, filter-false, (each_of P s xs h.1))

  -- what is put in stands where it would stand among those of its source alone
  source-put_in_own : (x : X) (ys : List X) → IsInOrder time source ys → from_source source (source x) (put_in time source x ys) ≡ put_in time source x (from_source source (source x) ys)
  source-put_in_own x [] h = filter-true (λ z. source z == source x) x [] (eq-eqb (source x) (source x) refl)
  source-put_in_own x (y ∷ ys) h =
      elim (cases_Bool (precedes time source x y)) [
        | inl a ↦
            let first = before_yes (time x) (source x) (time y) (source y) a in
            let later : AllByRecursion (λ z. precedes time source x z ≡ true) (y ∷ ys) =
            (a, each-weaker (MayPrecede time source y) (λ z. precedes time source x z ≡ true) (λ z k. yes_before (time x) (source x) (time z) (source z) (strictly_trans (time x) (source x) (time y) (source y) (time z) (source z) first k)) ys h.0) in
            ap (from_source source (source x)) (cond-true (precedes time source x y) (x ∷ y ∷ ys) (y ∷ put_in time source x ys) a)
            ∙ (filter-true (λ z. source z == source x) x (y ∷ ys) (eq-eqb (source x) (source x) refl)
            ∙ sym (put_front x (from_source source (source x) (y ∷ ys)) (each_of (λ z. precedes time source x z ≡ true) (source x) (y ∷ ys) later)))
        | inr a ↦
            ap (from_source source (source x)) (cond-false (precedes time source x y) (x ∷ y ∷ ys) (y ∷ put_in time source x ys) a)
            ∙ elim (cases_Bool (source y == source x)) [
              | inl e ↦
                  filter-true (λ z. source z == source x) y (put_in time source x ys) e
                  ∙ (ap (λ (zs : List X). y ∷ zs) (source-put_in_own x ys h.1)
                  ∙ (sym (cond-false (precedes time source x y) (x ∷ y ∷ from_source source (source x) ys) (y ∷ put_in time source x (from_source source (source x) ys)) a)
                  ∙ ap (put_in time source x) (sym (filter-true (λ z. source z == source x) y ys e))))
              | inr e ↦
                  filter-false (λ z. source z == source x) y (put_in time source x ys) e
                  ∙ (source-put_in_own x ys h.1
                  ∙ ap (put_in time source x) (sym (filter-false (λ z. source z == source x) y ys e)))
            ]
      ]

  falls_never : (xs : List X) → IsInOrder time source xs → NeverFalls time xs
  falls_never [] h = tt
  falls_never (x ∷ xs) h = (each-weaker (MayPrecede time source x) (λ y. time x ≤ time y) (λ y k. elim k [ inl k ↦ omega arith | inr k ↦ (let i = k.0 in omega arith) ]) xs h.0, falls_never xs h.1)

-- ## queues

abbrev of : ℕ → List Input → List Input
of s xs = from_source input_source s xs

abbrev in_turn : List Queue → List Input
in_turn queues = sorted input_time input_source (all_in queues)

all_own : (s : ℕ) (xs : List Input) → AllByRecursion (λ x. input_source x ≡ s) xs → of s xs ≡ xs
all_own s xs h = filter-all (λ x. input_source x == s) xs (each-weaker (λ x. input_source x ≡ s) (λ x. (input_source x == s) ≡ true) (λ x e. eq-eqb (input_source x) s e) xs h)

none_own : (s k : ℕ) (xs : List Input) → AllByRecursion (λ x. input_source x ≡ k) xs → (k ≡ s → ⊥) → of s xs ≡ []
none_own s k xs h n = filter-none (λ x. input_source x == s) xs (each-weaker (λ x. input_source x ≡ k) (λ x. (input_source x == s) ≡ false) (λ x e. ne_eqb (input_source x) s (λ i. n (sym e ∙ i))) xs h)

of-append : (s : ℕ) (xs ys : List Input) → of s (xs ++ ys) ≡ of s xs ++ of s ys
of-append s xs ys = filter-append (λ x. input_source x == s) xs ys

none_of_all : (s : ℕ) (qs : List Queue) → AreQueues qs → AllByRecursion (λ q. q.source ≡ s → ⊥) qs → of s (all_in qs) ≡ []
none_of_all s [] a n = refl
none_of_all s (q ∷ qs) a n = of-append s q.inputs (all_in qs) ∙ ap₂ ◌++◌ (none_own s q.source q.inputs a.0.from n.0) (none_of_all s qs a.2 n.1)

-- all of one source are those of its queue
own : (qs : List Queue) (p : ℕ) (d : Queue) → AreQueues qs → p < length qs → of (get_or qs p d).source (all_in qs) ≡ (get_or qs p d).inputs
own [] p d a l = absurd (omega arith)
own (q ∷ qs) zero d a l = grind (arith, nat_tests, of-append, all_in, all_own, none_of_all, append-nil)
own (q ∷ qs) (suc p) d a l =
    let m : p < length qs = omega arith in
    of-append (get_or qs p d).source q.inputs (all_in qs)
    ∙ ap₂ ◌++◌ (none_own (get_or qs p d).source q.source q.inputs a.0.from (λ e. at qs p d a.1 m (sym e))) (own qs p d a.2 m)
  where
    at : (rs : List Queue) (k : ℕ) (r : Queue) → AllByRecursion (λ o. o.source ≡ q.source → ⊥) rs → k < length rs → (get_or rs k r).source ≡ q.source → ⊥
    at [] k r h l e = absurd (omega arith)
    at (o ∷ rs) zero r h l e = h.0 e
    at (o ∷ rs) (suc k) r h l e = at rs k r h.1 (omega arith) e

-- those of the other sources stay where one queue is another
others : (s : ℕ) (qs : List Queue) (p : ℕ) (q d : Queue) → p < length qs → of s q.inputs ≡ of s (get_or qs p d).inputs → of s (all_in (set qs p q)) ≡ of s (all_in qs)
others s [] p q d l e = absurd (omega arith)
others s (r ∷ qs) zero q d l e = of-append s q.inputs (all_in qs) ∙ (ap (λ (xs : List Input). xs ++ of s (all_in qs)) e ∙ sym (of-append s r.inputs (all_in qs)))
others s (r ∷ qs) (suc p) q d l e = grind (arith, nat_tests, of-append, all_in, (others s qs p q d (omega arith) e))

each-set : {X : Type 0} (P : X → Type 0) (xs : List X) (p : ℕ) (x : X) → AllByRecursion P xs → P x → AllByRecursion P (set xs p x)
each-set P [] p x h k = tt
each-set P (y ∷ xs) zero x h k = (k, h.1)
each-set P (y ∷ xs) (suc p) x h k = (h.0, each-set P xs p x h.1 k)

queues-set : (qs : List Queue) (p : ℕ) (q d : Queue) → AreQueues qs → p < length qs → IsQueue q → q.source ≡ (get_or qs p d).source → AreQueues (set qs p q)
queues-set [] p q d a l i e = tt
queues-set (r ∷ qs) zero q d a l i e = (i, each-weaker (λ o. o.source ≡ r.source → ⊥) (λ o. o.source ≡ q.source → ⊥) (λ o n h. n (h ∙ e)) qs a.1, a.2)
queues-set (r ∷ qs) (suc p) q d a l i e = grind (arith, nat_tests, each-set, each-at, (queues-set qs p q d a.2))

pub queue_at : (qs : List Queue) (p : ℕ) (d : Queue) → AreQueues qs → p < length qs → IsQueue (get_or qs p d)
queue_at [] p d a l = absurd (omega arith)
queue_at (q ∷ qs) zero d a l = a.0
queue_at (q ∷ qs) (suc p) d a l = queue_at qs p d a.2 (omega arith)

never_falls : (qs : List Queue) → AreQueues qs → (s : ℕ) → NeverFalls input_time (of s (all_in qs))
never_falls [] a s = tt
never_falls (q ∷ qs) a s = elim (cases_eq q.source s) [
  | inl e ↦
      let one : of s (all_in (q ∷ qs)) ≡ q.inputs = subst (λ k. of k (all_in (q ∷ qs)) ≡ q.inputs) e (own (q ∷ qs) 0 q a (omega arith)) in
      subst (NeverFalls input_time) (sym one) (falls_never input_time input_source q.inputs a.0.in_order)
  | inr e ↦
      let rest : of s (all_in (q ∷ qs)) ≡ of s (all_in qs) = of-append s q.inputs (all_in qs) ∙ ap (λ (xs : List Input). xs ++ of s (all_in qs)) (none_own s q.source q.inputs a.0.from e) in
      subst (NeverFalls input_time) (sym rest) (never_falls qs a.2 s)
]

in_turn_ordered : (qs : List Queue) → IsInOrder input_time input_source (in_turn qs)
in_turn_ordered qs = in_order-put_all input_time input_source (all_in qs) [] tt

-- the one list has what each queue has
of_all : (qs : List Queue) → AreQueues qs → (s : ℕ) → of s (in_turn qs) ≡ of s (all_in qs)
of_all qs a s = source-put_all input_time input_source (all_in qs) [] tt (never_falls qs a) s

-- ## one more

pub queue-put : (q : Queue) (x : Input) → IsQueue q → input_source x ≡ q.source → input_time x < 2 ^ 64 → IsQueue (record { source = q.source; inputs = put_in input_time input_source x q.inputs })
queue-put q x i e l = grind (arith, nat_tests, each-put_in, in_order-put_in)

module _ (qs : List Queue) (p : ℕ) (d : Queue) (x : Input) (a : AreQueues qs) (l : p < length qs) (e : input_source x ≡ (get_or qs p d).source) (soon : input_time x < 2 ^ 64) where
  abbrev pub with_put : Queue
  with_put = record { source = (get_or qs p d).source; inputs = put_in input_time input_source x (get_or qs p d).inputs }

  pub queues_put : AreQueues (set qs p with_put)
  queues_put = queues-set qs p with_put d a l (queue-put (get_or qs p d) x (queue_at qs p d a l) e soon) refl

  put_here : of (input_source x) (in_turn (set qs p with_put)) ≡ of (input_source x) (put_in input_time input_source x (in_turn qs))
  put_here =
      let same : get_or (set qs p with_put) p d ≡ with_put = get_or-set_same qs p with_put d l in
      let in_range : p < length (set qs p with_put) = subst (λ n. p < n) (sym (length-set qs p with_put)) l in
      of_all (set qs p with_put) queues_put (input_source x)
      ∙ (subst (λ k. of k (all_in (set qs p with_put)) ≡ with_put.inputs) (ap (λ (q : Queue). q.source) same ∙ sym e) (own (set qs p with_put) p d queues_put in_range ∙ ap (λ (q : Queue). q.inputs) same)
      ∙ (ap (put_in input_time input_source x) (sym (subst (λ k. of k (in_turn qs) ≡ (get_or qs p d).inputs) (sym e) (of_all qs a (get_or qs p d).source ∙ own qs p d a l)))
      ∙ sym (source-put_in_own input_time input_source x (in_turn qs) (in_turn_ordered qs))))

  put_there : (s : ℕ) → (input_source x ≡ s → ⊥) → of s (in_turn (set qs p with_put)) ≡ of s (put_in input_time input_source x (in_turn qs))
  put_there s n = cc (of_all (set qs p with_put) queues_put s, others s qs p with_put d l (source-put_in_other input_time input_source s x (get_or qs p d).inputs n), of_all qs a s, source-put_in_other input_time input_source s x (in_turn qs) n)

  -- an input that is put into its queue is put into the one list
  pub put_one : in_turn (set qs p with_put) ≡ put_in input_time input_source x (in_turn qs)
  put_one = grind (arith, nat_tests, join_unique, in_turn_ordered, in_order-put_in, put_here, put_there)

-- ## the next

each-all : (P : Input → Type 0) (qs : List Queue) (p : ℕ) (q d : Queue) → p < length qs → AllByRecursion P (all_in qs) → (AllByRecursion P (get_or qs p d).inputs → AllByRecursion P q.inputs) → AllByRecursion P (all_in (set qs p q))
each-all P [] p q d l h w = absurd (omega arith)
each-all P (r ∷ qs) zero q d l h w = each-append P q.inputs (all_in qs) (w (each_front P r.inputs (all_in qs) h)) (each-right P r.inputs (all_in qs) h)
each-all P (r ∷ qs) (suc p) q d l h w = each-append P r.inputs (all_in (set qs p q)) (each_front P r.inputs (all_in qs) h) (each-all P qs p q d (omega arith) (each-right P r.inputs (all_in qs) h) w)

module _ (qs : List Queue) (p : ℕ) (d : Queue) (x : Input) (rest : List Input) (a : AreQueues qs) (l : p < length qs) (n : IsNextIn qs (get_or qs p d) x rest) where
  abbrev pub without : Queue
  without = record { source = (get_or qs p d).source; inputs = rest }

  pub queues_taken : AreQueues (set qs p without)
  queues_taken = grind (arith, nat_tests, queues-set, queue_at)

  is_own : input_source x ≡ (get_or qs p d).source
  is_own = (rw n.first at (queue_at qs p d a l).from).0

  later : AllByRecursion (MayPrecede input_time input_source x) (all_in (set qs p without))
  later = each-all (MayPrecede input_time input_source x) qs p without d l n.before (λ h. (rw n.first at h).1)

  taken_ordered : IsInOrder input_time input_source (x ∷ in_turn (set qs p without))
  taken_ordered = (each-put_all input_time input_source (MayPrecede input_time input_source x) (all_in (set qs p without)) [] later tt, in_turn_ordered (set qs p without))

  taken_here : of (input_source x) (in_turn qs) ≡ of (input_source x) (x ∷ in_turn (set qs p without))
  taken_here =
      let same : get_or (set qs p without) p d ≡ without = get_or-set_same qs p without d l in
      let in_range : p < length (set qs p without) = subst (λ n. p < n) (sym (length-set qs p without)) l in
      of_all qs a (input_source x)
      ∙ (subst (λ k. of k (all_in qs) ≡ (get_or qs p d).inputs) (sym is_own) (own qs p d a l)
      ∙ (n.first
      ∙ (ap (λ (xs : List Input). x ∷ xs) (sym (subst (λ k. of k (all_in (set qs p without)) ≡ rest) (ap (λ (q : Queue). q.source) same ∙ sym is_own) (own (set qs p without) p d queues_taken in_range ∙ ap (λ (q : Queue). q.inputs) same))
      ∙ sym (of_all (set qs p without) queues_taken (input_source x)))
      ∙ sym (filter-true (λ z. input_source z == input_source x) x (in_turn (set qs p without)) (eq-eqb (input_source x) (input_source x) refl)))))

  taken_there : (s : ℕ) → (input_source x ≡ s → ⊥) → of s (in_turn qs) ≡ of s (x ∷ in_turn (set qs p without))
  taken_there s m =
      let skip : of s rest ≡ of s (get_or qs p d).inputs = sym (ap (of s) n.first ∙ filter-false (λ z. input_source z == s) x rest (ne_eqb (input_source x) s m)) in
      cc (of_all qs a s, others s qs p without d l skip, of_all (set qs p without) queues_taken s, filter-false (λ z. input_source z == s) x (in_turn (set qs p without)) (ne_eqb (input_source x) s m))

  -- the next of all is the first of the one list
  pub taken_one : in_turn qs ≡ x ∷ in_turn (set qs p without)
  taken_one = join_unique input_time input_source (in_turn qs) (x ∷ in_turn (set qs p without)) (in_turn_ordered qs) taken_ordered
      (λ s. elim (cases_eq (input_source x) s) [
        | inl h ↦ subst (λ k. of k (in_turn qs) ≡ of k (x ∷ in_turn (set qs p without))) h taken_here
        | inr h ↦ taken_there s h
      ])

-- what comes first of all comes first in its queue
pub first_is : (qs : List Queue) (p : ℕ) (d : Queue) → AreQueues qs → p < length qs → ((x : Input) (rest : List Input) → (get_or qs p d).inputs ≡ x ∷ rest → IsNextIn qs (get_or qs p d) x rest) → ((get_or qs p d).inputs ≡ [] → all_in qs ≡ [])
    → (first_time (in_turn qs) ≡ first_time (get_or qs p d).inputs) × (is_row_first (in_turn qs) ≡ is_row_first (get_or qs p d).inputs)
first_is qs p d a l some none = by_first (get_or qs p d).inputs refl
  where
    by_first : (xs : List Input) → (get_or qs p d).inputs ≡ xs → (first_time (in_turn qs) ≡ first_time (get_or qs p d).inputs) × (is_row_first (in_turn qs) ≡ is_row_first (get_or qs p d).inputs)
    by_first [] e =
        let nothing : in_turn qs ≡ [] = ap (sorted input_time input_source) (none e) in
        (ap first_time nothing ∙ sym (ap first_time e), ap is_row_first nothing ∙ sym (ap is_row_first e))
    by_first (x ∷ xs) e =
        let next = taken_one qs p d x xs a l (some x xs e) in
        (ap first_time next ∙ sym (ap first_time e), ap is_row_first next ∙ same x xs e next)
      where
        same : (y : Input) (ys : List Input) → (get_or qs p d).inputs ≡ y ∷ ys → in_turn qs ≡ y ∷ in_turn (set qs p (record { source = (get_or qs p d).source; inputs = ys })) → is_row_first (y ∷ in_turn (set qs p (record { source = (get_or qs p d).source; inputs = ys }))) ≡ is_row_first (get_or qs p d).inputs
        same (FromTrace row) ys f g = sym (ap is_row_first f)
        same (Arrival time link packet) ys f g = sym (ap is_row_first f)

-- the first of a queue is the next of all where the first of all is of that queue
pub first_of : (qs : List Queue) (p : ℕ) (d : Queue) (x : Input) (rest : List Input) → AreQueues qs → p < length qs → (get_or qs p d).inputs ≡ x ∷ rest → (y : Input) (ys : List Input) → in_turn qs ≡ y ∷ ys → input_source y ≡ (get_or qs p d).source → IsNextIn qs (get_or qs p d) x rest
first_of qs p d x rest a l e y ys f s =
    let P : Input → Type 0 = MayPrecede input_time input_source y in
    let its : y ∷ of (get_or qs p d).source ys ≡ x ∷ rest =
    sym (filter-true (λ z. input_source z == (get_or qs p d).source) y ys (eq-eqb (input_source y) (get_or qs p d).source s))
    ∙ (ap (of (get_or qs p d).source) (sym f)
    ∙ (of_all qs a (get_or qs p d).source ∙ (own qs p d a l ∙ e))) in
    let ordered : IsInOrder input_time input_source (y ∷ ys) = subst (IsInOrder input_time input_source) f (in_turn_ordered qs) in
    let all : AllByRecursion P (in_turn qs) = subst (AllByRecursion P) (sym f) (inr (refl, omega arith), ordered.0) in
    record {
      first = e;
      before = subst (λ z. AllByRecursion (MayPrecede input_time input_source z) (all_in qs)) (head_is y x (of (get_or qs p d).source ys) rest its)
          (each_from_sources input_time input_source P (all_in qs) (λ k. subst (AllByRecursion P) (of_all qs a k) (each_of input_time input_source P k (in_turn qs) all)));
    }
  where
    head_is : (b c : Input) (bs cs : List Input) → b ∷ bs ≡ c ∷ cs → b ≡ c
    head_is b c bs cs g = cc

-- a queue of which nothing waits has not the first of all
pub not_of : (qs : List Queue) (p : ℕ) (d : Queue) → AreQueues qs → p < length qs → (get_or qs p d).inputs ≡ [] → (y : Input) (ys : List Input) → in_turn qs ≡ y ∷ ys → input_source y ≡ (get_or qs p d).source → ⊥
not_of qs p d a l e y ys f s =
    let its : y ∷ of (get_or qs p d).source ys ≡ [] =
    sym (filter-true (λ z. input_source z == (get_or qs p d).source) y ys (eq-eqb (input_source y) (get_or qs p d).source s))
    ∙ (ap (of (get_or qs p d).source) (sym f)
    ∙ (of_all qs a (get_or qs p d).source ∙ (own qs p d a l ∙ e))) in
    absurd (cc)
