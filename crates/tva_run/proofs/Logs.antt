-- A node has at most one log over its inputs, and its log before an earlier time is its log up to that time.
use Rattle.tva_run.proofs.Common.{nat_tests, ◌≡◌, ℕ, suc, ◌<◌, ◌≤◌, List, [], ◌∷◌, ◌++◌, Some, refl, sym, subst, ◌∙◌, ap, ap₂, arith, inl, inr, ◌⊎◌, nat_lt, AllByRecursion, cases_order, append-nil, filter-append, filter_map-append, same_Some, Class, PacketData, MayPrecede, IsInOrder, cut, Input, Site, Entry, Took, Started, input_time, input_source, entry_time, entry_rank, port_logs, starts, due, GoesOn, LeavesNone, IsNodeLog}
use Rattle.std.proofs.lemmas.List.{append_assoc}
use Rattle.tva_run.proofs.Joins.{filter-true, each-append, each-weaker, in_order-filter, cut-late, cut-early, each-cut, cut-cut, times_from, each_later, each_at_least}
use Rattle.tva_run.proofs.Putting.{strictly_trans}

-- inputs in order
abbrev pub AreInOrder : List Input → Type 0
AreInOrder inputs = IsInOrder input_time input_source inputs

pair_same : {X Y : Type 0} (a b : X) (c d : Y) → (let p : X × Y = (a, c) in p) ≡ (b, d) → (a ≡ b) × (c ≡ d)
pair_same a b c d e = (ap (λ p. p.0) e, ap (λ p. p.1) e)

-- in order, what follows is no earlier
later_than : (x : Entry) (xs : List Entry) → IsInOrder entry_time entry_rank (x ∷ xs) → AllByRecursion (λ y. entry_time x ≤ entry_time y) xs
later_than x xs h = (times_from entry_time entry_rank x xs h).1

-- a start on one link is nothing in another's log
pub logs-other : (before : List Entry) (time on : ℕ) (class : Class) (packet : PacketData) (link : ℕ) → (on ≡ link → ⊥) → port_logs (before ++ Started time on class packet ∷ []) link ≡ port_logs before link
logs-other before time on class packet link n = grind (arith, nat_tests, filter_map-append, append-nil)

module _ (site : Site) where
  -- so it changes nothing of what another link starts
  pub apart : (before : List Entry) (time on : ℕ) (class : Class) (packet : PacketData) (link now : ℕ) → (on ≡ link → ⊥) → starts site (before ++ Started time on class packet ∷ []) link now ≡ starts site before link now
  apart before time on class packet link now n = rw (logs-other before time on class packet link n) refl

  -- the inputs that are still to be taken are no earlier than what follows
  inputs_late : (t : ℕ) (before : List Entry) (is : List Input) (es : List Entry) → GoesOn site before is es → AllByRecursion (λ e. t ≤ entry_time e) es → AllByRecursion (λ i. t ≤ input_time i) is
  inputs_late t before (i ∷ is) [] g h = absurd g
  inputs_late t before (i ∷ is) (Took j c ∷ es) g h = (subst (λ k. t ≤ input_time k) g.0 h.0, inputs_late t (before ++ Took j c ∷ []) is es g.2 h.1)
  inputs_late t before (i ∷ is) (Started u l c p ∷ es) g h = inputs_late t (before ++ Started u l c p ∷ []) (i ∷ is) es g.1 h.1
  inputs_late t before [] _ g h = tt

  -- an input that is taken after a start comes later
  after_start : (u l : ℕ) (c : Class) (p : PacketData) (before : List Entry) (i : Input) (is : List Input) (es : List Entry) → GoesOn site before (i ∷ is) es → AllByRecursion (MayPrecede entry_time entry_rank (Started u l c p)) es → u < input_time i
  after_start u l c p before i is [] g h = absurd g
  after_start u l c p before i is (Took j d ∷ es) g h =
      elim h.0 [ inl k ↦ subst (λ x. u < input_time x) g.0 k | inr k ↦ absurd (let e = k.1 in omega arith) ]
  after_start u l c p before i is (Started t k d q ∷ es) g h = after_start u l c p (before ++ Started t k d q ∷ []) i is es g.1 h.1

  -- ## before an earlier time

  start_cut : (before : List Entry) (is : List Input) (u k : ℕ) (c : Class) (p : PacketData) (es : List Entry) → starts site before k u ≡ Some (c, p) → GoesOn site (before ++ Started u k c p ∷ []) is es → GoesOn site before is (Started u k c p ∷ es)
  start_cut before _ u k c p es b g = (b, g)

  GoesOn-cut : (t : ℕ) (before : List Entry) (is : List Input) (es : List Entry) → AreInOrder is → IsInOrder entry_time entry_rank es → GoesOn site before is es → GoesOn site before (due t is) (cut entry_time t es)
  GoesOn-cut t before [] [] o a g = tt
  GoesOn-cut t before (i ∷ is) [] o a g = absurd g
  GoesOn-cut t before [] (Took j c ∷ es) o a g = absurd g
  GoesOn-cut t before (i ∷ is) (Took j c ∷ es) o a g = grind (arith, nat_tests, filter-true, cut-late, each_later, (GoesOn-cut t (before ++ Took j c ∷ []) is es o.1 a.1 g.2))
  GoesOn-cut t before [] (Started u k c p ∷ es) o a g = grind (arith, nat_tests, filter-true, cut-late, each_later, (GoesOn-cut t (before ++ Started u k c p ∷ []) [] es o a.1 g.1))
  GoesOn-cut t before (i ∷ is) (Started u k c p ∷ es) o a g = grind (arith, nat_tests, filter-true, start_cut, each_later, cut-late, inputs_late, (GoesOn-cut t (before ++ Started u k c p ∷ []) (i ∷ is) es o a.1 g.1))

  pub IsNodeLog-cut : (inputs : List Input) (t until : ℕ) (log : List Entry) → AreInOrder inputs → t ≤ until → IsNodeLog site inputs until log → IsNodeLog site inputs t (cut entry_time t log)
  IsNodeLog-cut inputs t until log o l h = record {
    in_order = in_order-filter entry_time entry_rank (λ e. nat_lt (entry_time e) t) log h.in_order;
    early = each-cut entry_time entry_rank t log;
    steps = rw (← cut-cut input_time input_source t until inputs l) (GoesOn-cut t [] (due until inputs) log (in_order-filter input_time input_source (λ i. nat_lt (input_time i) until) inputs o) h.in_order h.steps);
    none_left = λ u k a. rw (cut-cut entry_time entry_rank (suc u) t log (omega arith)) (h.none_left u k (omega arith));
  }

  pub cut_same : (inputs : List Input) (until : ℕ) (log : List Entry) → IsNodeLog site inputs until log → cut entry_time until log ≡ log
  cut_same inputs until log h = cut-early entry_time entry_rank until log h.early

  -- inputs that agree before a time serve as well
  pub IsNodeLog-same : (is js : List Input) (until : ℕ) (log : List Entry) → due until is ≡ due until js → IsNodeLog site is until log → IsNodeLog site js until log
  IsNodeLog-same is js until log e h = grind arith

  -- ## at most one

  -- strictly after a start of this link at this time
  abbrev After : ℕ → ℕ → Entry → Type 0
  After t l e = (t < entry_time e) ⊎ ((t ≡ entry_time e) × (suc l < entry_rank e))

  after_all : (t l : ℕ) (x : Entry) (xs : List Entry) → IsInOrder entry_time entry_rank (x ∷ xs) → After t l x → AllByRecursion (After t l) (x ∷ xs)
  after_all t l x xs o a = (a, each-weaker (MayPrecede entry_time entry_rank x) (After t l) (λ y n. strictly_trans t (suc l) (entry_time x) (entry_rank x) (entry_time y) (entry_rank y) a n) xs o.0)

  -- one side: what follows `before`, all whose times are at most m
  record Rest (until m : ℕ) (before es : List Entry) : Type 0 where
    late : AllByRecursion (λ e. m ≤ entry_time e) es
    early : AllByRecursion (λ e. entry_time e < until) es
    order : IsInOrder entry_time entry_rank es
    none : LeavesNone site until (before ++ es)

  rest_more : (until m : ℕ) (before : List Entry) (x : Entry) (es : List Entry) → Rest until m before (x ∷ es) → Rest until (entry_time x) (before ++ x ∷ []) es
  rest_more until m before x es r = record {
    late = later_than x es r.order;
    early = r.early.1;
    order = r.order.1;
    none = λ u l a. rw (append_assoc before (x ∷ []) es) (r.none u l a);
  }

  before_more : (m : ℕ) (before : List Entry) (x : Entry) → m ≤ entry_time x → AllByRecursion (λ e. entry_time e ≤ m) before → AllByRecursion (λ e. entry_time e ≤ entry_time x) (before ++ x ∷ [])
  before_more m before x l h = each-append (λ e. entry_time e ≤ entry_time x) before (x ∷ []) (each-weaker (λ e. entry_time e ≤ m) (λ e. entry_time e ≤ entry_time x) (λ e k. omega arith) before h) (omega arith, tt)

  module _ (until : ℕ) where
    -- what comes after a start at one time leaves what that link starts there
    starts_past : (l t : ℕ) (before es : List Entry) → AllByRecursion (After t l) es → starts site (before ++ cut entry_time (suc t) es) l t ≡ starts site before l t
    starts_past l t before [] h = ap (λ b. starts site b l t) (append-nil before)
    starts_past l t before (Took j c ∷ es) h = grind (arith, nat_tests, (starts_past l t before es h.1))
    starts_past l t before (Started u j c p ∷ es) h = grind (arith, nat_tests, filter-true, starts, append_assoc, apart, (starts_past l t before es h.1), (starts_past l t (before ++ Started u j c p ∷ []) es h.1))

    -- a start that is due can't be left out
    missing : (l t m : ℕ) (c : Class) (p : PacketData) (before es : List Entry) → t < until → m ≤ t → AllByRecursion (λ e. entry_time e ≤ m) before → starts site before l t ≡ Some (c, p) → Rest until m before es → AllByRecursion (After t l) es → ⊥
    missing l t m c p before es b w d e r h =
        let none = r.none t l b in
        let here : cut entry_time (suc t) (before ++ es) ≡ before ++ cut entry_time (suc t) es =
        filter-append (λ x. nat_lt (entry_time x) (suc t)) before es
        ∙ ap (λ zs. zs ++ cut entry_time (suc t) es) (cut-early entry_time entry_rank (suc t) before (each-weaker (λ x. entry_time x ≤ m) (λ x. entry_time x < suc t) (λ x i. omega arith) before d)) in
        let some : starts site (cut entry_time (suc t) (before ++ es)) l t ≡ Some (c, p) = ap (λ zs. starts site zs l t) here ∙ (starts_past l t before es h ∙ e) in
        let clash = sym none ∙ some in
        cc

    abbrev Same : List Input → ℕ → List Entry → List Entry → List Entry → Type 0
    Same is m before xs ys = AllByRecursion (λ e. entry_time e ≤ m) before → Rest until m before xs → Rest until m before ys → GoesOn site before is xs → GoesOn site before is ys → xs ≡ ys

    -- two starts that both are due are the same one
    both_start : (m : ℕ) (before : List Entry) (is : List Input) (t l u k : ℕ) (c d : Class) (p q : PacketData) (xs ys : List Entry) → AllByRecursion (λ e. entry_time e ≤ m) before → Rest until m before (Started t l c p ∷ xs) → Rest until m before (Started u k d q ∷ ys) → starts site before l t ≡ Some (c, p) → starts site before k u ≡ Some (d, q) → Started t l c p ≡ Started u k d q
    both_start m before is t l u k c d p q xs ys b x y gx gy =
        elim (cases_order t u) [
          | inl time ↦ elim (cases_order l k) [
            | inl link ↦
                let packet = pair_same c d p q (same_Some (c, p) (d, q) (sym gx ∙ (ap₂ (λ v w. starts site before v w) link time ∙ gy))) in
                (λ i. Started (time i) (link i) (packet.0 i) (packet.1 i))
            | inr order ↦ elim order [
              | inl less ↦ absurd (missing l t m c p before (Started u k d q ∷ ys) x.early.0 x.late.0 b gx y (after_all t l (Started u k d q) ys y.order (inr (time, omega arith))))
              | inr more ↦ absurd (missing k u m d q before (Started t l c p ∷ xs) y.early.0 y.late.0 b gy x (after_all u k (Started t l c p) xs x.order (inr (sym time, omega arith))))
            ]
          ]
          | inr order ↦ elim order [
            | inl less ↦ absurd (missing l t m c p before (Started u k d q ∷ ys) x.early.0 x.late.0 b gx y (after_all t l (Started u k d q) ys y.order (inl less)))
            | inr more ↦ absurd (missing k u m d q before (Started t l c p ∷ xs) y.early.0 y.late.0 b gy x (after_all u k (Started t l c p) xs x.order (inl more)))
          ]
        ]

    lockstep : (m : ℕ) (before : List Entry) (is : List Input) (xs ys : List Entry) → Same is m before xs ys
    lockstep m before [] [] [] b x y gx gy = refl
    lockstep m before (i ∷ is) [] ys b x y gx gy = absurd gx
    lockstep m before (i ∷ is) (Took j c ∷ xs) [] b x y gx gy = absurd gy
    lockstep m before (i ∷ is) (Started t l c p ∷ xs) [] b x y gx gy = absurd gy
    lockstep m before [] (Took j c ∷ xs) ys b x y gx gy = absurd gx
    lockstep m before [] [] (Took j c ∷ ys) b x y gx gy = absurd gy
    lockstep m before [] (Started t l c p ∷ xs) (Took j d ∷ ys) b x y gx gy = absurd gy
    lockstep m before [] [] (Started t l c p ∷ ys) b x y gx gy = absurd (missing l t m c p before [] y.early.0 y.late.0 b gy.0 x tt)
    lockstep m before [] (Started t l c p ∷ xs) [] b x y gx gy = absurd (missing l t m c p before [] x.early.0 x.late.0 b gx.0 y tt)
    lockstep m before (i ∷ is) (Took j c ∷ xs) (Took k d ∷ ys) b x y gx gy =
        let same : Took j c ≡ Took k d = ap₂ Took (gx.0 ∙ sym gy.0) (same_Some c d (sym gx.1 ∙ gy.1)) in
        ap₂ ◌∷◌ same (lockstep (input_time j) (before ++ Took j c ∷ []) is xs ys (before_more m before (Took j c) x.late.0 b) (rest_more until m before (Took j c) xs x)
        (subst (λ e. Rest until (entry_time e) (before ++ e ∷ []) ys) (sym same) (rest_more until m before (Took k d) ys y)) gx.2
        (subst (λ e. GoesOn site (before ++ e ∷ []) is ys) (sym same) gy.2))
    lockstep m before (i ∷ is) (Took j c ∷ xs) (Started u k d q ∷ ys) b x y gx gy =
        let sooner = after_start u k d q (before ++ Started u k d q ∷ []) i is ys gy.1 y.order.0 in
        absurd (missing k u m d q before (Took j c ∷ xs) y.early.0 y.late.0 b gy.0 x (after_all u k (Took j c) xs x.order (inl (subst (λ z. u < input_time z) (sym gx.0) sooner))))
    lockstep m before (i ∷ is) (Started t l c p ∷ xs) (Took k d ∷ ys) b x y gx gy =
        let sooner = after_start t l c p (before ++ Started t l c p ∷ []) i is xs gx.1 x.order.0 in
        absurd (missing l t m c p before (Took k d ∷ ys) x.early.0 x.late.0 b gx.0 y (after_all t l (Took k d) ys y.order (inl (subst (λ z. t < input_time z) (sym gy.0) sooner))))
    lockstep m before is (Started t l c p ∷ xs) (Started u k d q ∷ ys) b x y gx gy =
        let same = both_start m before is t l u k c d p q xs ys b x y gx.0 gy.0 in
        ap₂ ◌∷◌ same (lockstep t (before ++ Started t l c p ∷ []) is xs ys (before_more m before (Started t l c p) x.late.0 b) (rest_more until m before (Started t l c p) xs x)
        (subst (λ e. Rest until (entry_time e) (before ++ e ∷ []) ys) (sym same) (rest_more until m before (Started u k d q) ys y)) gx.1
        (subst (λ e. GoesOn site (before ++ e ∷ []) is ys) (sym same) gy.1))

    -- inputs that agree before a time have one log up to it
    pub IsNodeLog-unique : (is js : List Input) (a b : List Entry) → due until is ≡ due until js → IsNodeLog site is until a → IsNodeLog site js until b → a ≡ b
    IsNodeLog-unique is js a b e ha hb =
        lockstep 0 [] (due until is) a b tt
        (record { late = each_at_least entry_time entry_rank a; early = ha.early; order = ha.in_order; none = ha.none_left })
        (record { late = each_at_least entry_time entry_rank b; early = hb.early; order = hb.in_order; none = hb.none_left })
        ha.steps (subst (λ (xs : List Input). GoesOn site [] xs b) (sym e) hb.steps)
