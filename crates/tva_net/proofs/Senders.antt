-- What the links of nodes send: each packet on a link out of its node, and when it arrives.
use Rattle.tva_net.proofs.Common.{◌≡◌, ℕ, zero, suc, ◌+◌, ◌*◌, ◌<◌, ◌≤◌, List, [], ◌∷◌, ◌++◌, length, get_or, map, filter, Bool, true, false, cond, Option, Some, None, refl, sym, subst, ◌∙◌, ap, ap₂, arith, inl, inr, ◌==◌, ◌&&◌, flat_map, nat_lt, nat_le, slice_get, option_map, option_map_or, option_and_then, AllByRecursion, cons_option, find, cases_Bool, cases_eq, cond-true, cond-false, eqb-true, eq-eqb, ne_eqb, lt-ltb, le-ltb, cases_lt, nat_tests, append-nil, filter-append, LinkLimits, LinkPlan, Config, NodePlan, from_source, filter-true, filter-false, filter-none, each-append, Input, Sending, Site, site_of, link_out, Entry, Took, Started, input_time, input_source, entry_time, GoesOn, due, start_after, port_logs, sendings, NodeState, unsent, arrival, link_from, links_out, site_at, goes_to, mail_to, same_Some}
use Rattle.tva_base.specs.declared.packet.Class.{Class}
use Rattle.tva_shim.specs.Packets.{PacketData, packet_length}
use Rattle.tva_plan.specs.Wiring.{picked}
use Rattle.tva_net.proofs.Lists.{drop_none}

-- ## the links out of a node

-- the link of that number is among these, which are numbered from k on, and begins at n
abbrev pub IsAmong : ℕ → ℕ → ℕ → List LinkPlan → ℕ × LinkPlan → Type 0
IsAmong n key k links o = (i : ℕ) × (key ≡ k + i) × (slice_get links i ≡ Some o.1) × (o.1.from ≡ n)

among_rest : (n key k : ℕ) (l : LinkPlan) (ls : List LinkPlan) (o : ℕ × LinkPlan) → IsAmong n key (k + 1) ls o → IsAmong n key k (l ∷ ls) o
among_rest n key k l ls o (i, is, at, from) = (suc i, omega (arith, is), at, from)

among_first : (n key k : ℕ) (l : LinkPlan) (ls : List LinkPlan) (o : ℕ × LinkPlan) → (l.from == n) ≡ true → (k == key) ≡ true → Some (let x : ℕ × LinkPlan = (k, l) in x) ≡ Some o → IsAmong n key k (l ∷ ls) o
among_first n key k l ls o a b e =
    let pair : ℕ × LinkPlan = (k, l) in
    let same : pair ≡ o = same_Some pair o e in
    let link : l ≡ o.1 = ap (λ (x : ℕ × LinkPlan). x.1) same in
    let key_is : k ≡ key = eqb-true k key b in
    (0, omega (arith, key_is), ap Some link, ap (λ (x : LinkPlan). x.from) (sym link) ∙ eqb-true l.from n a)

found_here : (n key k : ℕ) (l : LinkPlan) (ls : List LinkPlan) (rest : List (ℕ × LinkPlan)) (o : ℕ × LinkPlan) (b : Bool) → (l.from == n) ≡ b
    → (find (λ (x : ℕ × LinkPlan). x.0 == key) rest ≡ Some o → IsAmong n key (k + 1) ls o)
    → find (λ (x : ℕ × LinkPlan). x.0 == key) (cons_option (cond b (Some (let x : ℕ × LinkPlan = (k, l) in x)) None) rest) ≡ Some o → IsAmong n key k (l ∷ ls) o
found_here n key k l ls rest o false a next e = among_rest n key k l ls o (next e)
found_here n key k l ls rest o true a next e =
    let pair : ℕ × LinkPlan = (k, l) in
    elim (cases_Bool (k == key)) [
      | inl c ↦ among_first n key k l ls o a c (sym (cond-true (k == key) (Some pair) (find (λ (x : ℕ × LinkPlan). x.0 == key) rest) c) ∙ e)
      | inr c ↦ among_rest n key k l ls o (next (sym (cond-false (k == key) (Some pair) (find (λ (x : ℕ × LinkPlan). x.0 == key) rest) c) ∙ e))
    ]

found_in : (n key k : ℕ) (links : List LinkPlan) (o : ℕ × LinkPlan) → find (λ (x : ℕ × LinkPlan). x.0 == key) (picked (link_from n) k links) ≡ Some o → IsAmong n key k links o
found_in n key k [] o e = absurd (cc)
found_in n key k (l ∷ ls) o e = found_here n key k l ls (picked (link_from n) (k + 1) ls) o (l.from == n) refl (λ f. found_in n key (k + 1) ls o f) e

out_by : (config : Config) (n key : ℕ) (site : Site) (o : ℕ × LinkPlan) (found : Option NodePlan) → option_map (λ p. site_of n p (links_out n config.links)) found ≡ Some site → link_out site key ≡ Some o
    → (slice_get config.links key ≡ Some o.1) × (o.1.from ≡ n)
out_by config n key site o None e f = absurd (cc)
out_by config n key site o (Some p) e f =
    let same : site_of n p (links_out n config.links) ≡ site = same_Some (site_of n p (links_out n config.links)) site e in
    let f' : find (λ (x : ℕ × LinkPlan). x.0 == key) (picked (link_from n) 0 config.links) ≡ Some o = subst (λ (s : Site). link_out s key ≡ Some o) (sym same) f in
    let (i, is, at, from) = found_in n key 0 config.links o f' in
    let place : key ≡ i = omega (arith, is) in
    (subst (λ (j : ℕ). slice_get config.links j ≡ Some o.1) (sym place) at, from)

-- a link out of a node is the configuration's of that number, and begins there
pub out_is : (config : Config) (n key : ℕ) (site : Site) (o : ℕ × LinkPlan) → site_at config n ≡ Some site → link_out site key ≡ Some o
    → (slice_get config.links key ≡ Some o.1) × (o.1.from ≡ n)
out_is config n key site o e f = out_by config n key site o (slice_get config.nodes n) e f

-- ## what is sent

-- what an entry starts, it starts on a link out
abbrev pub HasLink : Site → Entry → Type 0
HasLink site (Took input content) = Unit {0}
HasLink site (Started time link class packet) = (o : ℕ × LinkPlan) × (link_out site link ≡ Some o)

module _ (site : Site) where
  some_link : (before : List Entry) (link now : ℕ) (o : Option (ℕ × LinkPlan)) (s : Class × PacketData) → option_and_then (λ (x : ℕ × LinkLimits). start_after x.1 (port_logs before link) now) (option_map (λ (x : ℕ × LinkPlan). let y : ℕ × LinkLimits = (x.0, x.1.limits) in y) o) ≡ Some s → (x : ℕ × LinkPlan) × (o ≡ Some x)
  some_link before link now None s e = absurd (cc)
  some_link before link now (Some x) s e = (x, refl)

  pub goes_linked : (before : List Entry) (is : List Input) (es : List Entry) → GoesOn site before is es → AllByRecursion (HasLink site) es
  goes_linked before [] [] g = tt
  goes_linked before (i ∷ is) [] g = tt
  goes_linked before [] (Took j c ∷ es) g = absurd g
  goes_linked before (i ∷ is) (Took j c ∷ es) g = (tt, goes_linked (before ++ Took j c ∷ []) is es g.2)
  goes_linked before [] (Started u k c p ∷ es) g = (some_link before k u (link_out site k) (c, p) g.0, goes_linked (before ++ Started u k c p ∷ []) [] es g.1)
  goes_linked before (i ∷ is) (Started u k c p ∷ es) g = (some_link before k u (link_out site k) (c, p) g.0, goes_linked (before ++ Started u k c p ∷ []) (i ∷ is) es g.1)

  -- what is sent from a time on: on a link out, and it arrives the link's delay later or still later
  abbrev pub IsSentFrom : ℕ → Sending → Type 0
  IsSentFrom t s = (o : ℕ × LinkPlan) × (link_out site s.link ≡ Some o) × (t + o.1.delay ≤ s.arrive.0)

  arrives_late : (t time k : ℕ) (p : PacketData) (o : ℕ × LinkPlan) (found : Option (ℕ × LinkPlan)) → found ≡ Some o → t ≤ time
      → t + o.1.delay ≤ option_map_or (λ (x : ℕ × LinkPlan). time + packet_length p * x.1.limits.ns_per_byte + x.1.delay) found time
  arrives_late t time k p o found e l = rw e (omega (arith, l))

  pub sent_from : (t : ℕ) (es : List Entry) → AllByRecursion (HasLink site) es → AllByRecursion (λ e. t ≤ entry_time e) es → AllByRecursion (IsSentFrom t) (sendings site es)
  sent_from t [] h l = tt
  sent_from t (Took j c ∷ es) h l = sent_from t es h.1 l.1
  sent_from t (Started u k c p ∷ es) h l = ((h.0.0, h.0.1, arrives_late t u k p h.0.0 (link_out site k) h.0.1 l.0), sent_from t es h.1 l.1)

each-other : (site : Site) (t key : ℕ) (ss : List Sending) → ((o : ℕ × LinkPlan) → link_out site key ≡ Some o → ⊥) → AllByRecursion (IsSentFrom site t) ss → AllByRecursion (λ s. (s.link == key) ≡ false) ss
each-other site t key [] none h = tt
each-other site t key (s ∷ ss) none h =
    (ne_eqb s.link key (λ e. none h.0.0 (subst (λ (k : ℕ). link_out site k ≡ Some h.0.0) e h.0.1)), each-other site t key ss none h.1)

-- on a link that isn't out of the node, it sends nothing
pub sends_none : (site : Site) (t key : ℕ) (ss : List Sending) → ((o : ℕ × LinkPlan) → link_out site key ≡ Some o → ⊥) → AllByRecursion (IsSentFrom site t) ss → filter (λ (s : Sending). s.link == key) ss ≡ []
sends_none site t key ss none h = filter-none (λ (s : Sending). s.link == key) ss (each-other site t key ss none h)

-- ## what several nodes sent

module _ (p : Sending → Bool) where
  pub since_none : (vs : List NodeState) → ((i : ℕ) (d : NodeState) → i < length vs → filter p (get_or vs i d).sendings ≡ []) → filter p (flat_map unsent vs) ≡ []
  since_none [] h = refl
  since_none (v ∷ vs) h =
      filter-append p (unsent v) (flat_map unsent vs)
      ∙ ap₂ ◌++◌ (drop_none p v.gone.sent v.sendings (h 0 v (omega arith))) (since_none vs (λ i d l. h (suc i) d (omega (arith, l))))

  -- of what only one of the nodes sends, that is what they send
  pub since_one : (vs : List NodeState) (m : ℕ) (d : NodeState) → m < length vs
      → ((i : ℕ) (e : NodeState) → i < length vs → (i ≡ m → ⊥) → filter p (get_or vs i e).sendings ≡ [])
      → filter p (flat_map unsent vs) ≡ filter p (unsent (get_or vs m d))
  since_one [] m d l h = absurd (omega (arith, l))
  since_one (v ∷ vs) zero d l h =
      filter-append p (unsent v) (flat_map unsent vs)
      ∙ (ap (λ (xs : List Sending). filter p (unsent v) ++ xs) (since_none vs (λ i e j. h (suc i) e (omega (arith, j)) (λ z. omega (arith, z))))
      ∙ append-nil (filter p (unsent v)))
  since_one (v ∷ vs) (suc m) d l h =
      filter-append p (unsent v) (flat_map unsent vs)
      ∙ ap₂ (λ (xs ys : List Sending). xs ++ ys) (drop_none p v.gone.sent v.sendings (h 0 v (omega arith) (λ z. omega (arith, z))))
      (since_one vs m d (omega (arith, l)) (λ i e j k'. h (suc i) e (omega (arith, j)) (λ z. k' (omega (arith, z)))))

-- what holds of each node's part holds of all
pub each_since : (P : Sending → Type 0) (vs : List NodeState) → ((i : ℕ) (d : NodeState) → i < length vs → AllByRecursion P (unsent (get_or vs i d))) → AllByRecursion P (flat_map unsent vs)
each_since P [] h = tt
each_since P (v ∷ vs) h = each-append P (unsent v) (flat_map unsent vs) (h 0 v (omega arith)) (each_since P vs (λ i d l. h (suc i) d (omega (arith, l))))

-- ## what arrives

pub arrive_no_rows : (ss : List Sending) → from_source input_source 0 (map arrival ss) ≡ []
arrive_no_rows [] = refl
arrive_no_rows (s ∷ ss) = filter-false (λ i. input_source i == 0) (arrival s) (map arrival ss) (ne_eqb (suc s.link) 0 (λ e. omega (arith, e))) ∙ arrive_no_rows ss

pub arrive_from : (k : ℕ) (ss : List Sending) → from_source input_source (suc k) (map arrival ss) ≡ map arrival (filter (λ s. s.link == k) ss)
arrive_from k [] = refl
arrive_from k (s ∷ ss) =
    elim (cases_eq s.link k) [
      | inl e ↦
          filter-true (λ i. input_source i == suc k) (arrival s) (map arrival ss) (eq-eqb (suc s.link) (suc k) (ap suc e))
          ∙ (ap (λ (is : List Input). arrival s ∷ is) (arrive_from k ss) ∙ ap (map arrival) (sym (filter-true (λ (x : Sending). x.link == k) s ss (eq-eqb s.link k e))))
      | inr n ↦
          filter-false (λ i. input_source i == suc k) (arrival s) (map arrival ss) (ne_eqb (suc s.link) (suc k) (λ e. n (omega (arith, e))))
          ∙ (arrive_from k ss ∙ ap (map arrival) (sym (filter-false (λ (x : Sending). x.link == k) s ss (ne_eqb s.link k n))))
    ]

is_within : (h t : ℕ) → nat_lt t (h + 1) ≡ nat_le t h
is_within h t = elim (cases_lt h t) [
  | inl l ↦ le-ltb t (h + 1) (omega (arith, l)) ∙ sym (past h t l)
  | inr l ↦ lt-ltb t (h + 1) (omega (arith, l)) ∙ sym (early h t l)
]
  where
    past : (h t : ℕ) → h < t → nat_le t h ≡ false
    past h t l = grind (arith, nat_tests)

    early : (h t : ℕ) → t ≤ h → nat_le t h ≡ true
    early h t l = grind (arith, nat_tests)

pub arrive_due : (h : ℕ) (ss : List Sending) → due (h + 1) (map arrival ss) ≡ map arrival (filter (λ s. nat_le s.arrive.0 h) ss)
arrive_due h [] = refl
arrive_due h (s ∷ ss) =
    elim (cases_Bool (nat_le s.arrive.0 h)) [
      | inl a ↦
          filter-true (λ i. nat_lt (input_time i) (h + 1)) (arrival s) (map arrival ss) (is_within h s.arrive.0 ∙ a)
          ∙ (ap (λ (is : List Input). arrival s ∷ is) (arrive_due h ss) ∙ ap (map arrival) (sym (filter-true (λ (x : Sending). nat_le x.arrive.0 h) s ss a)))
      | inr a ↦
          filter-false (λ i. nat_lt (input_time i) (h + 1)) (arrival s) (map arrival ss) (is_within h s.arrive.0 ∙ a)
          ∙ (arrive_due h ss ∙ ap (map arrival) (sym (filter-false (λ (x : Sending). nat_le x.arrive.0 h) s ss a)))
    ]

module _ (horizon : ℕ) (links : List LinkPlan) (node key : ℕ) where
  abbrev pub on_key : Sending → Bool
  on_key s = s.link == key

  abbrev pub in_time : Sending → Bool
  in_time s = nat_le s.arrive.0 horizon

  goes_there : (s : Sending) (b : Bool) → s.link ≡ key → option_map_or (λ (l : LinkPlan). l.to == node) (slice_get links key) false ≡ b → goes_to horizon links node s ≡ (b && in_time s)
  goes_there s b e f = ap (λ (c : Bool). c && in_time s) (ap (λ (k : ℕ). option_map_or (λ (l : LinkPlan). l.to == node) (slice_get links k) false) e ∙ f)

  -- on a link that doesn't end there, nothing goes there
  pub goes_none : option_map_or (λ (l : LinkPlan). l.to == node) (slice_get links key) false ≡ false → (ss : List Sending) → filter on_key (filter (goes_to horizon links node) ss) ≡ []
  goes_none f [] = refl
  goes_none f (s ∷ ss) =
      elim (cases_Bool (goes_to horizon links node s)) [
        | inl a ↦
            ap (filter on_key) (filter-true (goes_to horizon links node) s ss a)
            ∙ (filter-false on_key s (filter (goes_to horizon links node) ss) (ne_eqb s.link key (λ e. let no = sym a ∙ goes_there s false e f in absurd (cc))) ∙ goes_none f ss)
        | inr a ↦ ap (filter on_key) (filter-false (goes_to horizon links node) s ss a) ∙ goes_none f ss
      ]

  -- on one that ends there, what arrives in time
  pub goes_all : option_map_or (λ (l : LinkPlan). l.to == node) (slice_get links key) false ≡ true → (ss : List Sending) → filter on_key (filter (goes_to horizon links node) ss) ≡ filter in_time (filter on_key ss)
  goes_all f [] = refl
  goes_all f (s ∷ ss) =
      elim (cases_eq s.link key) [
        | inl e ↦
            let on : on_key s ≡ true = eq-eqb s.link key e in
            let there : goes_to horizon links node s ≡ in_time s = goes_there s true e f in
            elim (cases_Bool (in_time s)) [
              | inl a ↦
                  ap (filter on_key) (filter-true (goes_to horizon links node) s ss (there ∙ a))
                  ∙ (filter-true on_key s (filter (goes_to horizon links node) ss) on
                  ∙ (ap (λ (xs : List Sending). s ∷ xs) (goes_all f ss)
                  ∙ sym (ap (filter in_time) (filter-true on_key s ss on) ∙ filter-true in_time s (filter on_key ss) a)))
              | inr a ↦
                  ap (filter on_key) (filter-false (goes_to horizon links node) s ss (there ∙ a))
                  ∙ (goes_all f ss ∙ sym (ap (filter in_time) (filter-true on_key s ss on) ∙ filter-false in_time s (filter on_key ss) a))
            ]
        | inr n ↦
            let off : on_key s ≡ false = ne_eqb s.link key n in
            let skip : filter in_time (filter on_key (s ∷ ss)) ≡ filter in_time (filter on_key ss) = ap (filter in_time) (filter-false on_key s ss off) in
            elim (cases_Bool (goes_to horizon links node s)) [
              | inl a ↦
                  ap (filter on_key) (filter-true (goes_to horizon links node) s ss a)
                  ∙ (filter-false on_key s (filter (goes_to horizon links node) ss) off ∙ (goes_all f ss ∙ sym skip))
              | inr a ↦ ap (filter on_key) (filter-false (goes_to horizon links node) s ss a) ∙ (goes_all f ss ∙ sym skip)
            ]
      ]

  pub mail_none : option_map_or (λ (l : LinkPlan). l.to == node) (slice_get links key) false ≡ false → (ss : List Sending) → from_source input_source (suc key) (mail_to horizon links ss node) ≡ []
  mail_none f ss = arrive_from key (filter (goes_to horizon links node) ss) ∙ ap (map arrival) (goes_none f ss)

  pub mail_on : option_map_or (λ (l : LinkPlan). l.to == node) (slice_get links key) false ≡ true → (ss : List Sending) → from_source input_source (suc key) (mail_to horizon links ss node) ≡ due (horizon + 1) (map arrival (filter on_key ss))
  mail_on f ss = arrive_from key (filter (goes_to horizon links node) ss) ∙ (ap (map arrival) (goes_all f ss) ∙ sym (arrive_due horizon (filter on_key ss)))
