-- How a node works one time: it takes the inputs of that time, then each link decides.
use Rattle.tva_run.proofs.Common.{◌≡◌, ℕ, suc, ◌<◌, ◌≤◌, List, [], ◌∷◌, ◌++◌, Some, None, refl, sym, subst, ◌∙◌, ap, arith, inl, inr, nat_lt, AllByRecursion, lt-ltb, le-ltb, cases_lt, cases_eq, append-nil, append_cancel_left, filter-append, Class, PacketData, MayPrecede, IsInOrder, cut, Input, Site, Content, Entry, Took, Started, input_time, input_source, entry_time, entry_rank, content, starts, due, GoesOn, LeavesNone, IsNodeLog}
use Rattle.std.proofs.lemmas.List.{append_assoc}
use Rattle.tva_run.proofs.Joins.{filter-true, filter-false, each-append, each-weaker, cut-late, cut-early, each-cut}
use Rattle.tva_run.proofs.Logs.{apart}
use Rattle.tva_run.specs.AtTime.{IsPlaced, IsAt}

late_from : (w : ℕ) (xs : List Input) → due w xs ≡ [] → AllByRecursion (λ i. w ≤ input_time i) xs
late_from w [] h = tt
late_from w (x ∷ xs) h = elim (cases_lt (input_time x) w) [
  | inl a ↦ absurd (let e = sym (filter-true (λ i. nat_lt (input_time i) w) x xs (lt-ltb (input_time x) w a)) ∙ h in cc)
  | inr a ↦ (a, late_from w xs (sym (filter-false (λ i. nat_lt (input_time i) w) x xs (le-ltb (input_time x) w a)) ∙ h))
]

-- what stands behind all inputs before a time is no earlier
pub rest_late : (w : ℕ) (xs rest : List Input) → xs ≡ due w xs ++ rest → AllByRecursion (λ i. w ≤ input_time i) rest
rest_late w xs rest e =
    let early : due w (due w xs) ≡ due w xs = cut-early input_time input_source w (due w xs) (each-cut input_time input_source w xs) in
    let split : due w xs ≡ due w xs ++ due w rest = ap (due w) e ∙ (filter-append (λ i. nat_lt (input_time i) w) (due w xs) rest ∙ ap (λ (ys : List Input). ys ++ due w rest) early) in
    late_from w rest (sym (append_cancel_left (due w xs) [] (due w rest) (append-nil (due w xs) ∙ split)))

in_order-snoc : (xs : List Entry) (x : Entry) → IsInOrder entry_time entry_rank xs → AllByRecursion (λ e. MayPrecede entry_time entry_rank e x) xs → IsInOrder entry_time entry_rank (xs ++ x ∷ [])
in_order-snoc [] x o h = (tt, tt)
in_order-snoc (y ∷ xs) x o h = (each-append (MayPrecede entry_time entry_rank y) xs (x ∷ []) o.0 (h.0, tt), in_order-snoc xs x o.1 h.1)

module _ (site : Site) where
  took_more : (before : List Entry) (is : List Input) (es : List Entry) (i : Input) (c : Content) → content site (before ++ es) i ≡ Some c → GoesOn site before is es → GoesOn site before (is ++ i ∷ []) (es ++ Took i c ∷ [])
  took_more before [] [] i c k g = (refl, subst (λ b. content site b i ≡ Some c) (append-nil before) k, tt)
  took_more before (j ∷ is) [] i c k g = absurd g
  took_more before [] (Took h d ∷ es) i c k g = absurd g
  took_more before (j ∷ is) (Took h d ∷ es) i c k g =
      (g.0, g.1, took_more (before ++ Took h d ∷ []) is es i c (subst (λ b. content site b i ≡ Some c) (sym (append_assoc before (Took h d ∷ []) es)) k) g.2)
  took_more before [] (Started t l d p ∷ es) i c k g =
      (g.0, took_more (before ++ Started t l d p ∷ []) [] es i c (subst (λ b. content site b i ≡ Some c) (sym (append_assoc before (Started t l d p ∷ []) es)) k) g.1)
  took_more before (j ∷ is) (Started t l d p ∷ es) i c k g =
      (g.0, took_more (before ++ Started t l d p ∷ []) (j ∷ is) es i c (subst (λ b. content site b i ≡ Some c) (sym (append_assoc before (Started t l d p ∷ []) es)) k) g.1)

  started_more : (before : List Entry) (is : List Input) (es : List Entry) (t l : ℕ) (c : Class) (p : PacketData) → starts site (before ++ es) l t ≡ Some (c, p) → GoesOn site before is es → GoesOn site before is (es ++ Started t l c p ∷ [])
  started_more before [] [] t l c p k g = (subst (λ b. starts site b l t ≡ Some (c, p)) (append-nil before) k, tt)
  started_more before (j ∷ is) [] t l c p k g = absurd g
  started_more before [] (Took h d ∷ es) t l c p k g = absurd g
  started_more before (j ∷ is) (Took h d ∷ es) t l c p k g =
      (g.0, g.1, started_more (before ++ Took h d ∷ []) is es t l c p (subst (λ b. starts site b l t ≡ Some (c, p)) (sym (append_assoc before (Took h d ∷ []) es)) k) g.2)
  started_more before [] (Started u m d q ∷ es) t l c p k g =
      (g.0, started_more (before ++ Started u m d q ∷ []) [] es t l c p (subst (λ b. starts site b l t ≡ Some (c, p)) (sym (append_assoc before (Started u m d q ∷ []) es)) k) g.1)
  started_more before (j ∷ is) (Started u m d q ∷ es) t l c p k g =
      (g.0, started_more (before ++ Started u m d q ∷ []) (j ∷ is) es t l c p (subst (λ b. starts site b l t ≡ Some (c, p)) (sym (append_assoc before (Started u m d q ∷ []) es)) k) g.1)

  -- what comes at a time changes nothing before it
  cut_more : (u t : ℕ) (log : List Entry) (x : Entry) → u < t → entry_time x ≡ t → cut entry_time (suc u) (log ++ x ∷ []) ≡ cut entry_time (suc u) log
  cut_more u t log x l e =
      filter-append (λ y. nat_lt (entry_time y) (suc u)) log (x ∷ [])
      ∙ (ap (λ zs. cut entry_time (suc u) log ++ zs) (cut-late entry_time entry_rank (suc u) (x ∷ []) (omega arith, tt)) ∙ append-nil (cut entry_time (suc u) log))

  leaves_more : (t : ℕ) (log : List Entry) (x : Entry) → entry_time x ≡ t → LeavesNone site t log → LeavesNone site t (log ++ x ∷ [])
  leaves_more t log x e h = λ u l a. rw (cut_more u t log x a e) (h u l a)

  -- a time begins
  pub begins : (inputs : List Input) (t : ℕ) (log : List Entry) → IsNodeLog site inputs t log → IsAt site t 0 (due t inputs) log
  begins inputs t log h = record {
    in_order = h.in_order;
    placed = each-weaker (λ e. entry_time e < t) (IsPlaced t 0) (λ e l. inl l) log h.early;
    steps = h.steps;
    none_before = h.none_left;
    none_now = λ k a. absurd (omega arith);
  }

  before_any : (t r : ℕ) (log : List Entry) (x : Entry) → entry_time x ≡ t → r ≤ entry_rank x → AllByRecursion (IsPlaced t r) log → AllByRecursion (λ e. MayPrecede entry_time entry_rank e x) log
  before_any t r log x e l h = each-weaker (IsPlaced t r) (λ y. MayPrecede entry_time entry_rank y x)
      (λ y k. elim k [ inl i ↦ inl (omega arith) | inr i ↦ inr (i.0 ∙ sym e, (let j = i.1 in omega arith)) ]) log h

  -- an input of this time is taken
  pub takes : (t : ℕ) (taken : List Input) (log : List Entry) (i : Input) (c : Content) → input_time i ≡ t → content site log i ≡ Some c → IsAt site t 0 taken log → IsAt site t 0 (taken ++ i ∷ []) (log ++ Took i c ∷ [])
  takes t taken log i c e k h = record {
    in_order = in_order-snoc log (Took i c) h.in_order (before_any t 0 log (Took i c) e (omega arith) h.placed);
    placed = each-append (IsPlaced t 0) log (Took i c ∷ []) h.placed (inr (e, omega arith), tt);
    steps = took_more [] taken log i c k h.steps;
    none_before = leaves_more t log (Took i c) e h.none_before;
    none_now = λ k a. absurd (omega arith);
  }

  placed_more : (t r s : ℕ) (log : List Entry) → r ≤ s → AllByRecursion (IsPlaced t r) log → AllByRecursion (IsPlaced t s) log
  placed_more t r s log l h = each-weaker (IsPlaced t r) (IsPlaced t s) (λ y k. elim k [ inl i ↦ inl i | inr i ↦ inr (i.0, (let j = i.1 in omega arith)) ]) log h

  less : (k l : ℕ) → k < suc l → (k ≡ l → ⊥) → k < l
  less k l a n = elim (cases_lt k l) [ inl b ↦ b | inr b ↦ absurd (n (omega arith)) ]

  -- a link starts a packet, which keeps it busy
  pub starts_one : (t l : ℕ) (c : Class) (p : PacketData) (taken : List Input) (log : List Entry) → starts site log l t ≡ Some (c, p) → starts site (log ++ Started t l c p ∷ []) l t ≡ None → IsAt site t l taken log → IsAt site t (suc l) taken (log ++ Started t l c p ∷ [])
  starts_one t l c p taken log d busy h = record {
    in_order = in_order-snoc log (Started t l c p) h.in_order (before_any t l log (Started t l c p) refl (omega arith) h.placed);
    placed = each-append (IsPlaced t (suc l)) log (Started t l c p ∷ []) (placed_more t l (suc l) log (omega arith) h.placed) (inr (refl, omega arith), tt);
    steps = started_more [] taken log t l c p d h.steps;
    none_before = leaves_more t log (Started t l c p) refl h.none_before;
    none_now = λ k b.
        elim (cases_eq k l) [
          | inl same ↦ subst (λ j. starts site (log ++ Started t l c p ∷ []) j t ≡ None) (sym same) busy
          | inr other ↦ apart site log t l c p k t (λ e. other (sym e)) ∙ h.none_now k (less k l b other)
        ];
  }

  -- links up to a higher number start none
  pub rests : (t r s : ℕ) (taken : List Input) (log : List Entry) → r ≤ s → ((k : ℕ) → r ≤ k → k < s → starts site log k t ≡ None) → IsAt site t r taken log → IsAt site t s taken log
  rests t r s taken log l none h = record {
    in_order = h.in_order;
    placed = placed_more t r s log l h.placed;
    steps = h.steps;
    none_before = h.none_before;
    none_now = λ k b. elim (cases_lt k r) [ inl a ↦ h.none_now k a | inr a ↦ none k a b ];
  }

  -- the time is over
  pub ends : (inputs : List Input) (t r : ℕ) (log : List Entry) → ((k : ℕ) → r ≤ k → starts site log k t ≡ None) → IsAt site t r (due (suc t) inputs) log → IsNodeLog site inputs (suc t) log
  ends inputs t r log none h =
      let early : AllByRecursion (λ e. entry_time e < suc t) log = each-weaker (IsPlaced t r) (λ y. entry_time y < suc t) (λ y k. elim k [ inl i ↦ omega arith | inr i ↦ (let j = i.0 in omega arith) ]) log h.placed in
      record {
        in_order = h.in_order;
        early = early;
        steps = h.steps;
        none_left = λ u k a.
            elim (cases_lt u t) [
              | inl l ↦ h.none_before u k l
              | inr l ↦
                  let now : u ≡ t = omega arith in
                  rw (now, cut-early entry_time entry_rank (suc t) log early) (elim (cases_lt k r) [ inl b ↦ h.none_now k b | inr b ↦ none k b ])
            ];
      }
