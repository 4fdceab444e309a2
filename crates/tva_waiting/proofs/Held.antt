-- The queues that lanes stand for.
use Rattle.tva_waiting.proofs.Common.{nat_tests, ◌≡◌, ℕ, zero, suc, ◌+◌, ◌-◌, ◌<◌, ◌≤◌, List, [], ◌∷◌, ◌++◌, length, map, get_or, set, take, Some, None, true, false, refl, sym, subst, ◌∙◌, ap, ap₂, arith, add-one, inl, inr, Bool, deque_len, insert, not, ◌==◌, ◌^◌, AllByRecursion, eq-eqb, ne_eqb, get_or-map, get_or-set_other, get_or-set_same, length-append, length-map, length-set, map-append, map-set, set-get_or, map-set_same, place_in, ring, IsInOrder, put_in, sorted, Input, Arrival, FromTrace, input_source, input_time, each-put_in, arrived, first_time, is_row_first, AreQueues, IsNextIn, IsQueue, Queue, all_in, head_at, head_of, key_of, never, no_queue, AreWaiting, HaveGiven, Hold, IsLaneOf, flight_source, flight_time, lane_queue, queues_in, queues_of, row_in, rows_queue, sources_of, turn_source, turn_time, waiting_in, Lane, Lanes, cases_lt}
use Rattle.tva_rows.specs.Brief.{Grows, IsWhatHeld}
use Rattle.tva_rows.proofs.Packing.{held-grown, what-grown}
use Rattle.tva_run.specs.declared.kinds.Sending.{Sending}
use Rattle.tva_waiting.specs.declared.lanes.Turn.{Turn}
use Rattle.tva_waiting.proofs.Finding.{all_in-end, found, head-insert, head_at-end, heads-set, in_order_held, in_range, map-put_in, new_key, not_found, queues_end}
use Rattle.tva_waiting.proofs.Queues.{first_is, first_of, not_of, put_one, queue_at, queues_put, queues_taken, taken_one}

-- ## a lane is found

-- the lanes' sources are not the rows'
pub lane_found : (lanes : List Lane) (link place : ℕ) → place_in (link + 1) (sources_of lanes) ≡ Some place → (0 < place) × IsLaneOf lanes link (place - 1)
lane_found lanes link place e =
    let k = found (link + 1) (sources_of lanes) place e in
    at place k.0 k.1
  where
    links : List Lane → List ℕ
    links ls = map (λ (lane : Lane). lane.link + 1) ls

    at : (p : ℕ) → p < length (sources_of lanes) → ((d : ℕ) → get_or (sources_of lanes) p d ≡ link + 1) → (0 < p) × IsLaneOf lanes link (p - 1)
    at zero l h = absurd (let i = h 0 in omega (arith, i))
    at (suc n) l h =
        let back : suc n - 1 ≡ n = omega arith in
        let within : n < length lanes = (let m = length-map lanes (λ (lane : Lane). lane.link + 1) in omega (arith, l, m)) in (
          omega arith,
          record {
            within = subst (λ k. k < length lanes) (sym back) within;
            its = λ d. ap (λ k. (get_or lanes k d).link) back ∙ (let i = sym (get_or-map (λ (lane : Lane). lane.link + 1) lanes n d 0 within) ∙ h 0 in omega (arith, i));
          },
        )

-- where no lane has the source, no queue has it
pub new_source : (layouts : List ℕ) (turns : List Turn) (lanes : List Lane) (source : ℕ) → place_in source (sources_of lanes) ≡ None → AllByRecursion (λ (o : Queue). o.source ≡ source → ⊥) (queues_of layouts turns lanes)
new_source layouts turns lanes source e =
    let n = not_found source (sources_of lanes) e in
    (other 0 n.0, each lanes n.1)
  where
    other : (k : ℕ) → (k == source) ≡ false → k ≡ source → ⊥
    other k h e = absurd (let i = sym (eq-eqb k source e) ∙ h in cc)

    each : (ls : List Lane) → AllByRecursion (λ k. (k == source) ≡ false) (map (λ (lane : Lane). lane.link + 1) ls) → AllByRecursion (λ (o : Queue). o.source ≡ source → ⊥) (map lane_queue ls)
    each [] h = tt
    each (l ∷ ls) h = (other (l.link + 1) h.0, each ls h.1)

-- the source of a lane is none of those before it, and not the rows'
pub source_new : (lanes : List Lane) (place : ℕ) (d : Lane) → AreQueues (map lane_queue lanes) → place < length lanes → place_in ((get_or lanes place d).link + 1) (0 ∷ take place (map (λ (lane : Lane). lane.link + 1) lanes)) ≡ None
source_new lanes place d a l = new_key ((get_or lanes place d).link + 1) (0 ∷ take place (map (λ (lane : Lane). lane.link + 1) lanes)) (ne_eqb 0 ((get_or lanes place d).link + 1) (λ e. omega (arith, e)), before lanes place a l)
  where
    at : (k : ℕ) (ls : List Lane) (p : ℕ) → AllByRecursion (λ (o : Queue). o.source ≡ k → ⊥) (map lane_queue ls) → p < length ls → (get_or ls p d).link + 1 ≡ k → ⊥
    at k [] p h m e = absurd (omega arith)
    at k (l ∷ ls) zero h m e = h.0 e
    at k (l ∷ ls) (suc p) h m e = at k ls p h.1 (omega (arith, m)) e

    before : (ls : List Lane) (p : ℕ) → AreQueues (map lane_queue ls) → p < length ls → AllByRecursion (λ k. (k == (get_or ls p d).link + 1) ≡ false) (take p (map (λ (lane : Lane). lane.link + 1) ls))
    before [] p b m = absurd (omega arith)
    before (l ∷ ls) zero b m = tt
    before (l ∷ ls) (suc p) b m = (ne_eqb (l.link + 1) ((get_or ls p d).link + 1) (λ e. at (l.link + 1) ls p b.1 (omega (arith, m)) (sym e)), before ls p b.2 (omega (arith, m)))

-- ## layouts that grew

grown_held : (old new : List ℕ) (turns : List Turn) → Grows old new → AllByRecursion (λ (turn : Turn). IsWhatHeld old turn.what) turns → AllByRecursion (λ (turn : Turn). IsWhatHeld new turn.what) turns
grown_held old new [] g h = tt
grown_held old new (turn ∷ turns) g h = (subst (λ (bytes : List ℕ). IsWhatHeld bytes turn.what) (sym g.1) (held-grown old g.0 turn.what h.0), grown_held old new turns g h.1)

grown_rows : (old new : List ℕ) (turns : List Turn) → Grows old new → AllByRecursion (λ (turn : Turn). IsWhatHeld old turn.what) turns → map (row_in new) turns ≡ map (row_in old) turns
grown_rows old new [] g h = refl
grown_rows old new (turn ∷ turns) g h = grind (arith, nat_tests, what-grown, (grown_rows old new turns g h.1))

-- ## other lanes of the same queues, and of one queue that is another

module _ (w v : Lanes) (a : AreWaiting w) (held : AllByRecursion (λ (turn : Turn). IsWhatHeld v.layouts.items turn.what) v.rows.items) (sources : v.sources ≡ ring v.places (sources_of v.list.items)) where
  pub waiting_changed : (qs : List Queue) → queues_in v ≡ qs → AreQueues qs → length qs ≤ v.places → v.places ≤ 2 ^ 18 → length v.heads ≡ v.places → ((place : ℕ) → get_or v.heads place never ≡ head_at qs place) → AreWaiting v
  waiting_changed qs e i room few count heads = grind (arith, nat_tests)

pub in_order_same : (w v : Lanes) → queues_in v ≡ queues_in w → waiting_in v ≡ waiting_in w
in_order_same w v e = ap (λ (qs : List Queue). sorted input_time input_source (all_in qs)) e

pub waiting_grown : (w v : Lanes) → AreWaiting w → Grows w.layouts.items v.layouts.items → v.rows.items ≡ w.rows.items → v.list ≡ w.list → v.sources ≡ w.sources → v.heads ≡ w.heads → v.places ≡ w.places → Hold v (waiting_in w)
waiting_grown w v a g rows list sources heads places =
    let held : AllByRecursion (λ (turn : Turn). IsWhatHeld v.layouts.items turn.what) v.rows.items =
    subst (λ (ts : List Turn). AllByRecursion (λ (turn : Turn). IsWhatHeld v.layouts.items turn.what) ts) (sym rows) (grown_held w.layouts.items v.layouts.items w.rows.items g a.held) in
    let same : queues_in v ≡ queues_in w =
    ap₂ (λ (xs : List Input) (ls : List Lane). record { source = 0; inputs = xs } ∷ map lane_queue ls) (ap (map (row_in v.layouts.items)) rows ∙ grown_rows w.layouts.items v.layouts.items w.rows.items g a.held) (ap (λ l. l.items) list) in (
      waiting_changed w v a held (sources ∙ (a.sources ∙ ap₂ (λ (n : ℕ) (ls : List Lane). ring n (sources_of ls)) (sym places) (sym (ap (λ l. l.items) list)))) (queues_in w) same a.queues (subst (λ n. length (queues_in w) ≤ n) (sym places) a.room) (subst (λ n. n ≤ 2 ^ 18) (sym places) a.few)
          (ap length heads ∙ (a.count ∙ sym places)) (λ place. ap (λ (hs : List ℕ). get_or hs place never) heads ∙ a.heads place),
      in_order_same w v same,
    )

-- the heads as they were serve where the first of the changed queue is as it was
pub heads-kept : (heads : List ℕ) (qs : List Queue) (p : ℕ) (q : Queue) → ((place : ℕ) → get_or heads place never ≡ head_at qs place) → p < length qs → head_of q.inputs ≡ head_at qs p → (place : ℕ) → get_or heads place never ≡ head_at (set qs p q) place
heads-kept heads qs p q h l e place = grind (arith, nat_tests, get_or-set_same, l, get_or-set_other)

-- ## a row more

pub row_put : (layouts : List ℕ) (turns : List Turn) (lanes : List Lane) (turn : Turn) → queues_of layouts (put_in turn_time turn_source turn turns) lanes
    ≡ set (queues_of layouts turns lanes) 0 (record { source = 0; inputs = put_in input_time input_source (row_in layouts turn) (map (row_in layouts) turns) })
row_put layouts turns lanes turn = ap (λ (xs : List Input). record { source = 0; inputs = xs } ∷ map lane_queue lanes) (map-put_in (row_in layouts) turn_time turn_source (λ t. refl) (λ t. refl) turn turns)

pub rows_in_order : (layouts : List ℕ) (turns : List Turn) → IsInOrder input_time input_source (map (row_in layouts) turns) → IsInOrder turn_time turn_source turns
rows_in_order layouts turns h = in_order_held (row_in layouts) turn_time turn_source (λ t. refl) (λ t. refl) turns h

-- ## a packet more

arrived_source : (s : Sending) → flight_source s ≡ input_source (arrived s)
arrived_source s = add-one s.link

pub flights_in_order : (flights : List Sending) → IsInOrder input_time input_source (map arrived flights) → IsInOrder flight_time flight_source flights
flights_in_order flights h = in_order_held arrived flight_time flight_source (λ s. refl) arrived_source flights h

pub flight_put : (sent : Sending) (flights : List Sending) → map arrived (put_in flight_time flight_source sent flights) ≡ put_in input_time input_source (arrived sent) (map arrived flights)
flight_put sent flights = map-put_in arrived flight_time flight_source (λ s. refl) arrived_source sent flights

-- a lane that is another, among the queues
pub lane_set : (layouts : List ℕ) (turns : List Turn) (lanes : List Lane) (place : ℕ) (lane : Lane) → queues_of layouts turns (set lanes place lane) ≡ set (queues_of layouts turns lanes) (place + 1) (lane_queue lane)
lane_set layouts turns lanes place lane = grind (arith, nat_tests, map-set)

pub queue_of_lane : (layouts : List ℕ) (turns : List Turn) (lanes : List Lane) (place : ℕ) (d : Lane) (e : Queue) → place < length lanes → get_or (queues_of layouts turns lanes) (place + 1) e ≡ lane_queue (get_or lanes place d)
queue_of_lane layouts turns lanes place d e l = ap (λ n. get_or (queues_of layouts turns lanes) n e) (add-one place) ∙ get_or-map lane_queue lanes place d e l

-- what a place behind the rows' has is a lane
pub queue_at_lane : (layouts : List ℕ) (turns : List Turn) (lanes : List Lane) (place : ℕ) (d : Lane) (e : Queue) → (place ≡ 0 → ⊥) → place - 1 < length lanes → get_or (queues_of layouts turns lanes) place e ≡ lane_queue (get_or lanes (place - 1) d)
queue_at_lane layouts turns lanes place d e n l =
    let up : place - 1 + 1 ≡ place = omega (arith, above place n) in
    subst (λ k. get_or (queues_of layouts turns lanes) k e ≡ lane_queue (get_or lanes (place - 1) d)) up (queue_of_lane layouts turns lanes (place - 1) d e l)
  where
    above : (k : ℕ) → (k ≡ 0 → ⊥) → 0 < k
    above zero n = absurd (n refl)
    above (suc k) n = omega arith

-- behind the lanes nothing waits
pub queue_past : (layouts : List ℕ) (turns : List Turn) (lanes : List Lane) (place : ℕ) → length lanes < place → get_or (queues_of layouts turns lanes) place no_queue ≡ no_queue
queue_past layouts turns lanes zero l = absurd (omega arith)
queue_past layouts turns lanes (suc place) l = past lanes place (omega (arith, l))
  where
    past : (ls : List Lane) (p : ℕ) → length ls ≤ p → get_or (map lane_queue ls) p no_queue ≡ no_queue
    past [] p m = refl
    past (k ∷ ls) zero m = absurd (omega arith)
    past (k ∷ ls) (suc p) m = past ls p (omega (arith, m))

-- ## one queue that is another

module _ (w v : Lanes) (a : AreWaiting w) (held : AllByRecursion (λ (turn : Turn). IsWhatHeld v.layouts.items turn.what) v.rows.items) (sources : v.sources ≡ w.sources) (links : sources_of v.list.items ≡ sources_of w.list.items) (places : v.places ≡ w.places) (p : ℕ) (l : p < length (queues_in w)) where
  abbrev was : Queue
  was = get_or (queues_in w) p no_queue

  in_heads : p < length w.heads
  in_heads = omega (arith, l, a.room, a.count)

  with_queue : (q : Queue) → queues_in v ≡ set (queues_in w) p q → AreQueues (set (queues_in w) p q) → length v.heads ≡ length w.heads → ((place : ℕ) → get_or v.heads place never ≡ head_at (set (queues_in w) p q) place) → AreWaiting v
  with_queue q same i count heads = grind (arith, nat_tests, waiting_changed, length-set, links)

  module _ (x : Input) (e : input_source x ≡ was.source) (soon : input_time x < 2 ^ 64) where
    abbrev put : Queue
    put = record { source = was.source; inputs = put_in input_time input_source x was.inputs }

    pub input_put : queues_in v ≡ set (queues_in w) p put → length v.heads ≡ length w.heads → ((place : ℕ) → get_or v.heads place never ≡ head_at (set (queues_in w) p put) place) → Hold v (put_in input_time input_source x (waiting_in w))
    input_put same count heads = (
      with_queue put same (queues_put (queues_in w) p no_queue x a.queues l e soon) count heads,
      ap (λ (qs : List Queue). sorted input_time input_source (all_in qs)) same ∙ put_one (queues_in w) p no_queue x a.queues l e soon,
    )

    -- where it is the first now, the table says so; else it stays as it was
    pub heads_first : v.heads ≡ set w.heads p (key_of x) → head_of put.inputs ≡ key_of x → (length v.heads ≡ length w.heads) × ((place : ℕ) → get_or v.heads place never ≡ head_at (set (queues_in w) p put) place)
    heads_first h k = (
      ap length h ∙ length-set w.heads p (key_of x),
      λ place. ap (λ (hs : List ℕ). get_or hs place never) h ∙ heads-set w.heads (queues_in w) p (key_of x) put a.heads in_heads l (sym k) place,
    )

    pub heads_later : v.heads ≡ w.heads → head_of put.inputs ≡ head_of was.inputs → (length v.heads ≡ length w.heads) × ((place : ℕ) → get_or v.heads place never ≡ head_at (set (queues_in w) p put) place)
    heads_later h k = (
      ap length h,
      λ place. ap (λ (hs : List ℕ). get_or hs place never) h ∙ heads-kept w.heads (queues_in w) p put a.heads l k place,
    )

  pub input_taken : (x : Input) (rest : List Input) → IsNextIn (queues_in w) was x rest → queues_in v ≡ set (queues_in w) p (record { source = was.source; inputs = rest }) → v.heads ≡ set w.heads p (head_of rest) → HaveGiven w x v
  input_taken x rest n same h = (
    with_queue (record { source = was.source; inputs = rest }) same (queues_taken (queues_in w) p no_queue x rest a.queues l n) (ap length h ∙ length-set w.heads p (head_of rest))
        (λ place. ap (λ (hs : List ℕ). get_or hs place never) h ∙ heads-set w.heads (queues_in w) p (head_of rest) (record { source = was.source; inputs = rest }) a.heads in_heads l refl place),
    taken_one (queues_in w) p no_queue x rest a.queues l n ∙ ap (λ (xs : List Input). x ∷ xs) (sym (ap (λ (qs : List Queue). sorted input_time input_source (all_in qs)) same)),
  )

-- ## a row

module _ (w v : Lanes) (a : AreWaiting w) (layouts : v.layouts ≡ w.layouts) (list : v.list ≡ w.list) (sources : v.sources ≡ w.sources) (places : v.places ≡ w.places) where
  some_queue : 0 < length (queues_in w)
  some_queue = omega arith

  pub row_waits : (turn : Turn) (at : ℕ) → turn.time < 2 ^ 64 → IsWhatHeld w.layouts.items turn.what → v.rows.items ≡ put_in turn_time turn_source turn w.rows.items → v.rows.items ≡ insert w.rows.items at turn → at ≤ length w.rows.items
      → (at ≡ 0 → v.heads ≡ set w.heads 0 (key_of (row_in w.layouts.items turn))) → ((at ≡ 0 → ⊥) → v.heads ≡ w.heads) → Hold v (put_in input_time input_source (row_in w.layouts.items turn) (waiting_in w))
  row_waits turn at soon h put inserted within first later =
      let row = row_in w.layouts.items turn in
      let held : AllByRecursion (λ (t : Turn). IsWhatHeld v.layouts.items t.what) v.rows.items =
      subst (λ (ts : List Turn). AllByRecursion (λ (t : Turn). IsWhatHeld v.layouts.items t.what) ts) (sym put)
      (each-put_in turn_time turn_source (λ (t : Turn). IsWhatHeld v.layouts.items t.what) turn w.rows.items (subst (λ ls. IsWhatHeld ls.items turn.what) (sym layouts) h) (subst (λ ls. AllByRecursion (λ (t : Turn). IsWhatHeld ls.items t.what) w.rows.items) (sym layouts) a.held)) in
      let links : sources_of v.list.items ≡ sources_of w.list.items = ap (λ ls. sources_of ls.items) list in
      let same : queues_in v ≡ set (queues_in w) 0 (record { source = 0; inputs = put_in input_time input_source row (map (row_in w.layouts.items) w.rows.items) }) =
      ap (λ ls. queues_of ls.items v.rows.items v.list.items) layouts
      ∙ (ap (λ ls. queues_of w.layouts.items v.rows.items ls.items) list
      ∙ (ap (λ (ts : List Turn). queues_of w.layouts.items ts w.list.items) put
      ∙ row_put w.layouts.items w.rows.items w.list.items turn)) in
      let heads = by_place at refl row held links in
      input_put w v a held sources links places 0 some_queue row refl soon same heads.0 heads.1
    where
      made : map (row_in w.layouts.items) (insert w.rows.items at turn) ≡ put_in input_time input_source (row_in w.layouts.items turn) (map (row_in w.layouts.items) w.rows.items)
      made = ap (map (row_in w.layouts.items)) (sym inserted ∙ put) ∙ map-put_in (row_in w.layouts.items) turn_time turn_source (λ t. refl) (λ t. refl) turn w.rows.items

      by_place : (n : ℕ) → at ≡ n → (row : Input) → (held : AllByRecursion (λ (t : Turn). IsWhatHeld v.layouts.items t.what) v.rows.items) → (links : sources_of v.list.items ≡ sources_of w.list.items)
          → (length v.heads ≡ length w.heads) × ((place : ℕ) → get_or v.heads place never ≡ head_at (set (queues_in w) 0 (record { source = 0; inputs = put_in input_time input_source (row_in w.layouts.items turn) (map (row_in w.layouts.items) w.rows.items) })) place)
      by_place zero e row held links =
          heads_first w v a held sources links places 0 some_queue (row_in w.layouts.items turn) refl soon (first e)
          (sym (ap head_of made) ∙ ap (λ n. head_of (map (row_in w.layouts.items) (insert w.rows.items n turn))) e)
      by_place (suc n) e row held links =
          heads_later w v a held sources links places 0 some_queue (row_in w.layouts.items turn) refl soon (later (λ f. let g = sym e ∙ f in omega (arith, g)))
          (sym (ap head_of made) ∙ head-insert (row_in w.layouts.items) w.rows.items at turn (omega (arith, e)) within)

  pub row_taken : (turn : Turn) → is_row_first (waiting_in w) ≡ true → w.rows.items ≡ turn ∷ v.rows.items → v.heads ≡ set w.heads 0 (head_of (map (row_in w.layouts.items) v.rows.items)) → HaveGiven w (row_in w.layouts.items turn) v
  row_taken turn row is h =
      let held : AllByRecursion (λ (t : Turn). IsWhatHeld v.layouts.items t.what) v.rows.items =
      subst (λ ls. AllByRecursion (λ (t : Turn). IsWhatHeld ls.items t.what) v.rows.items) (sym layouts) (subst (λ (ts : List Turn). AllByRecursion (λ (t : Turn). IsWhatHeld w.layouts.items t.what) ts) is a.held).1 in
      let links : sources_of v.list.items ≡ sources_of w.list.items = ap (λ ls. sources_of ls.items) list in
      let same : queues_in v ≡ set (queues_in w) 0 (record { source = 0; inputs = map (row_in w.layouts.items) v.rows.items }) =
      ap (λ ls. queues_of ls.items v.rows.items v.list.items) layouts ∙ ap (λ ls. queues_of w.layouts.items v.rows.items ls.items) list in
      let waits : map (row_in w.layouts.items) w.rows.items ≡ row_in w.layouts.items turn ∷ map (row_in w.layouts.items) v.rows.items = ap (map (row_in w.layouts.items)) is in
      input_taken w v a held sources links places 0 some_queue (row_in w.layouts.items turn) (map (row_in w.layouts.items) v.rows.items) (by_first (waiting_in w) refl row waits) same h
    where
      by_first : (zs : List Input) → waiting_in w ≡ zs → is_row_first zs ≡ true → map (row_in w.layouts.items) w.rows.items ≡ row_in w.layouts.items turn ∷ map (row_in w.layouts.items) v.rows.items
          → IsNextIn (queues_in w) (rows_queue w.layouts.items w.rows.items) (row_in w.layouts.items turn) (map (row_in w.layouts.items) v.rows.items)
      by_first [] e r f = absurd (cc)
      by_first (FromTrace r ∷ zs) e h f = first_of (queues_in w) 0 no_queue (row_in w.layouts.items turn) (map (row_in w.layouts.items) v.rows.items) a.queues some_queue f (FromTrace r) zs e refl
      by_first (Arrival time link packet ∷ zs) e r f = absurd (cc)

-- where the next is a row, a row waits
pub rows_wait : (w : Lanes) → AreWaiting w → is_row_first (waiting_in w) ≡ true → length w.rows.items ≡ 0 → ⊥
rows_wait w a row e = by_first (waiting_in w) refl row
  where
    none : (ts : List Turn) → length ts ≡ 0 → map (row_in w.layouts.items) ts ≡ []
    none [] l = refl
    none (t ∷ ts) l = absurd (omega (arith, l))

    by_first : (zs : List Input) → waiting_in w ≡ zs → is_row_first zs ≡ true → ⊥
    by_first [] f r = absurd (cc)
    by_first (FromTrace r ∷ zs) f h = not_of (queues_in w) 0 no_queue a.queues (omega arith) (none w.rows.items e) (FromTrace r) zs f refl
    by_first (Arrival time link packet ∷ zs) f r = absurd (cc)

-- ## a packet

-- a lane is another, of the same link
module _ (w v : Lanes) (place : ℕ) (lane : Lane) (a : AreWaiting w) (within : place < length w.list.items) (link : lane.link ≡ (get_or w.list.items place lane).link) (rows : v.rows ≡ w.rows) (layouts : v.layouts ≡ w.layouts) (list : v.list.items ≡ set w.list.items place lane) (sources : v.sources ≡ w.sources) (places : v.places ≡ w.places) where
  abbrev was_lane : Lane
  was_lane = get_or w.list.items place lane

  still_held : AllByRecursion (λ (t : Turn). IsWhatHeld v.layouts.items t.what) v.rows.items
  still_held = subst (λ ls. AllByRecursion (λ (t : Turn). IsWhatHeld ls.items t.what) v.rows.items) (sym layouts) (subst (λ ts. AllByRecursion (λ (t : Turn). IsWhatHeld w.layouts.items t.what) ts.items) (sym rows) a.held)

  links : sources_of v.list.items ≡ sources_of w.list.items
  links = ap sources_of list ∙ ap (λ (ns : List ℕ). 0 ∷ ns) (map-set_same (λ (k : Lane). k.link + 1) w.list.items place lane lane (ap (λ n. n + 1) link))

  l : place + 1 < length (queues_in w)
  l = let m = length-map w.list.items lane_queue in omega (arith, m, within)

  is_lane : get_or (queues_in w) (place + 1) no_queue ≡ lane_queue was_lane
  is_lane = queue_of_lane w.layouts.items w.rows.items w.list.items place lane no_queue within

  another : queues_in v ≡ set (queues_in w) (place + 1) (lane_queue lane)
  another = grind (arith, nat_tests, lane_set)

  pub flight_waits : (at : ℕ) (sent : Sending) → was_lane.link ≡ sent.link → sent.arrive.0 < 2 ^ 64 → lane.flights.items ≡ put_in flight_time flight_source sent was_lane.flights.items → lane.flights.items ≡ insert was_lane.flights.items at sent → at ≤ length was_lane.flights.items
      → (at ≡ 0 → v.heads ≡ set w.heads (place + 1) (key_of (arrived sent))) → ((at ≡ 0 → ⊥) → v.heads ≡ w.heads) → Hold v (put_in input_time input_source (arrived sent) (waiting_in w))
  flight_waits at sent its soon put inserted within first later = input_put w v a still_held sources links places (place + 1) l (arrived sent) from soon same heads.0 heads.1
    where
      from : input_source (arrived sent) ≡ (get_or (queues_in w) (place + 1) no_queue).source
      from = sym (ap (λ (q : Queue). q.source) is_lane ∙ (ap (λ n. n + 1) its ∙ add-one sent.link))

      made : map arrived lane.flights.items ≡ put_in input_time input_source (arrived sent) (get_or (queues_in w) (place + 1) no_queue).inputs
      made = ap (map arrived) put ∙ (flight_put sent was_lane.flights.items ∙ ap (put_in input_time input_source (arrived sent)) (sym (ap (λ (q : Queue). q.inputs) is_lane)))

      same : queues_in v ≡ set (queues_in w) (place + 1) (record { source = (get_or (queues_in w) (place + 1) no_queue).source; inputs = put_in input_time input_source (arrived sent) (get_or (queues_in w) (place + 1) no_queue).inputs })
      same = another ∙ ap₂ (λ (n : ℕ) (xs : List Input). set (queues_in w) (place + 1) (record { source = n; inputs = xs })) (ap (λ n. n + 1) link ∙ sym (ap (λ (q : Queue). q.source) is_lane)) made

      by_place : (n : ℕ) → at ≡ n
          → (length v.heads ≡ length w.heads) × ((p : ℕ) → get_or v.heads p never ≡ head_at (set (queues_in w) (place + 1) (record { source = (get_or (queues_in w) (place + 1) no_queue).source; inputs = put_in input_time input_source (arrived sent) (get_or (queues_in w) (place + 1) no_queue).inputs })) p)
      by_place zero e =
          heads_first w v a still_held sources links places (place + 1) l (arrived sent) from soon (first e)
          (sym (ap head_of made) ∙ (ap (λ (fs : List Sending). head_of (map arrived fs)) inserted ∙ ap (λ n. head_of (map arrived (insert was_lane.flights.items n sent))) e))
      by_place (suc n) e =
          heads_later w v a still_held sources links places (place + 1) l (arrived sent) from soon (later (λ f. let g = sym e ∙ f in omega (arith, g)))
          (sym (ap head_of made) ∙ (ap (λ (fs : List Sending). head_of (map arrived fs)) inserted ∙ (head-insert arrived was_lane.flights.items at sent (omega (arith, e)) within ∙ ap head_of (sym (ap (λ (q : Queue). q.inputs) is_lane)))))

      heads : (length v.heads ≡ length w.heads) × ((p : ℕ) → get_or v.heads p never ≡ head_at (set (queues_in w) (place + 1) (record { source = (get_or (queues_in w) (place + 1) no_queue).source; inputs = put_in input_time input_source (arrived sent) (get_or (queues_in w) (place + 1) no_queue).inputs })) p)
      heads = by_place at refl

  pub flight_taken : (p : ℕ) (sent : Sending) → place + 1 ≡ p → ((x : Input) (rest : List Input) → (get_or (queues_in w) p no_queue).inputs ≡ x ∷ rest → IsNextIn (queues_in w) (get_or (queues_in w) p no_queue) x rest)
      → was_lane.flights.items ≡ sent ∷ lane.flights.items → v.heads ≡ set w.heads p (head_of (map arrived lane.flights.items)) → HaveGiven w (arrived sent) v
  flight_taken p sent up some taken h =
      let here : get_or (queues_in w) p no_queue ≡ lane_queue was_lane = subst (λ n. get_or (queues_in w) n no_queue ≡ lane_queue was_lane) up is_lane in
      let inputs = ap (λ (q : Queue). q.inputs) here ∙ ap (map arrived) taken in
      let same : queues_in v ≡ set (queues_in w) p (record { source = (get_or (queues_in w) p no_queue).source; inputs = map arrived lane.flights.items }) =
      another
      ∙ (ap (λ n. set (queues_in w) n (lane_queue lane)) up
      ∙ ap (λ n. set (queues_in w) p (record { source = n; inputs = map arrived lane.flights.items })) (ap (λ n. n + 1) link ∙ sym (ap (λ (q : Queue). q.source) here))) in
      input_taken w v a still_held sources links places p (omega (arith, l, up)) (arrived sent) (map arrived lane.flights.items) (some (arrived sent) (map arrived lane.flights.items) inputs) same h

  -- it got room, and nothing else
  pub same_flights : lane.flights.items ≡ was_lane.flights.items → v.heads ≡ w.heads → Hold v (waiting_in w)
  same_flights flights heads = grind (arith, nat_tests, arrived, is_lane, another, set-get_or, waiting_changed, still_held, links, never, in_order_same)

-- where the next is no row, a lane has it
pub lane_next : (w : Lanes) (p : ℕ) → AreWaiting w → ((x : Input) (rest : List Input) → (get_or (queues_in w) p no_queue).inputs ≡ x ∷ rest → IsNextIn (queues_in w) (get_or (queues_in w) p no_queue) x rest) → ((get_or (queues_in w) p no_queue).inputs ≡ [] → all_in (queues_in w) ≡ [])
    → (waiting_in w ≡ [] → ⊥) → is_row_first (waiting_in w) ≡ false → (0 < p) × (p - 1 < length w.list.items) × ((d : Lane) → (get_or w.list.items (p - 1) d).flights.items ≡ [] → ⊥)
lane_next w p a some none waits row = by_inputs (get_or (queues_in w) p no_queue).inputs refl
  where
    back : (k : ℕ) → suc k - 1 ≡ k
    back k = omega arith

    by_inputs : (xs : List Input) → (get_or (queues_in w) p no_queue).inputs ≡ xs → (0 < p) × (p - 1 < length w.list.items) × ((d : Lane) → (get_or w.list.items (p - 1) d).flights.items ≡ [] → ⊥)
    by_inputs [] e = absurd (waits (ap (sorted input_time input_source) (none e)))
    by_inputs (x ∷ rest) e = by_place p refl
      where
        l : p < length (queues_in w)
        l = in_range (queues_in w) p x rest e

        by_place : (k : ℕ) → p ≡ k → (0 < p) × (p - 1 < length w.list.items) × ((d : Lane) → (get_or w.list.items (p - 1) d).flights.items ≡ [] → ⊥)
        by_place zero f = absurd (row_there w.rows.items refl (ap (λ n. (get_or (queues_in w) n no_queue).inputs) (sym f) ∙ e))
          where
            row_there : (ts : List Turn) → w.rows.items ≡ ts → map (row_in w.layouts.items) w.rows.items ≡ x ∷ rest → ⊥
            row_there [] g h = absurd (let i = sym (ap (map (row_in w.layouts.items)) g) ∙ h in cc)
            row_there (t ∷ ts) g h =
                let is : (get_or (queues_in w) p no_queue).inputs ≡ row_in w.layouts.items t ∷ map (row_in w.layouts.items) ts = ap (λ n. (get_or (queues_in w) n no_queue).inputs) f ∙ ap (map (row_in w.layouts.items)) g in
                absurd (let i = sym row ∙ (((first_is (queues_in w) p no_queue a.queues l some none).1) ∙ ap is_row_first is) in cc)
        by_place (suc k) f =
            let within : k < length w.list.items = (let m = length-map w.list.items lane_queue in omega (arith, l, f, m)) in
            let down : p - 1 ≡ k = ap (λ n. n - 1) f ∙ back k in (
              omega (arith, f),
              subst (λ n. n < length w.list.items) (sym down) within,
              λ d g.
                  let is : (get_or (queues_in w) p no_queue).inputs ≡ [] =
                  ap (λ n. (get_or (queues_in w) n no_queue).inputs) f ∙ (ap (λ (q : Queue). q.inputs) (get_or-map lane_queue w.list.items k d no_queue within) ∙ ap (map arrived) (ap (λ n. (get_or w.list.items n d).flights.items) (sym down) ∙ g)) in
                  absurd (let i = sym is ∙ e in cc),
            )

pub lane_in_order : (w : Lanes) → AreWaiting w → (place : ℕ) (d : Lane) → place < length w.list.items → IsInOrder flight_time flight_source (get_or w.list.items place d).flights.items
lane_in_order w a place d l =
    let m : place + 1 < length (queues_in w) = (let n = length-map w.list.items lane_queue in omega (arith, n, l)) in
    flights_in_order (get_or w.list.items place d).flights.items
    (subst (λ (q : Queue). IsInOrder input_time input_source q.inputs) (queue_of_lane w.layouts.items w.rows.items w.list.items place d no_queue l) (queue_at (queues_in w) (place + 1) no_queue a.queues m).in_order)

-- ## what comes next

module _ (w : Lanes) (p : ℕ) (a : AreWaiting w) (some : (x : Input) (rest : List Input) → (get_or (queues_in w) p no_queue).inputs ≡ x ∷ rest → IsNextIn (queues_in w) (get_or (queues_in w) p no_queue) x rest) (none : (get_or (queues_in w) p no_queue).inputs ≡ [] → all_in (queues_in w) ≡ []) where
  -- of the queue at the place, as of all
  pub next_is : (first_time (waiting_in w) ≡ first_time (get_or (queues_in w) p no_queue).inputs) × (is_row_first (waiting_in w) ≡ is_row_first (get_or (queues_in w) p no_queue).inputs)
  next_is = elim (cases_lt p (length (queues_in w))) [
    | inl l ↦ first_is (queues_in w) p no_queue a.queues l some none
    | inr l ↦
        let past : get_or (queues_in w) p no_queue ≡ no_queue = queue_past w.layouts.items w.rows.items w.list.items p (let m = length-map w.list.items lane_queue in omega (arith, m, l)) in
        let nothing : waiting_in w ≡ [] = ap (sorted input_time input_source) (none (ap (λ (q : Queue). q.inputs) past)) in
        (ap first_time nothing ∙ sym (ap (λ (q : Queue). first_time q.inputs) past), ap is_row_first nothing ∙ sym (ap (λ (q : Queue). is_row_first q.inputs) past))
  ]

  pub row_is_next : p ≡ 0 → (empty : Bool) → empty ≡ (deque_len w.rows == 0) → deque_len w.rows ≡ length w.rows.items → not empty ≡ is_row_first (waiting_in w)
  row_is_next e empty f many = ap not f ∙ (ap (λ n. not (n == 0)) many ∙ (by_rows w.rows.items ∙ sym (next_is.1 ∙ ap (λ n. is_row_first (get_or (queues_in w) n no_queue).inputs) e)))
    where
      by_rows : (ts : List Turn) → not (length ts == 0) ≡ is_row_first (map (row_in w.layouts.items) ts)
      by_rows [] = refl
      by_rows (t ∷ ts) = grind (arith)

  pub row_not_next : (p ≡ 0 → ⊥) → false ≡ is_row_first (waiting_in w)
  row_not_next n = sym (next_is.1 ∙ no_row p n)
    where
      no_flight_row : (fs : List Sending) → is_row_first (map arrived fs) ≡ false
      no_flight_row [] = refl
      no_flight_row (f ∷ fs) = refl

      no_lane_row : (ls : List Lane) (k : ℕ) → is_row_first (get_or (map lane_queue ls) k no_queue).inputs ≡ false
      no_lane_row [] k = refl
      no_lane_row (l ∷ ls) zero = no_flight_row l.flights.items
      no_lane_row (l ∷ ls) (suc k) = no_lane_row ls k

      no_row : (k : ℕ) → (k ≡ 0 → ⊥) → is_row_first (get_or (queues_in w) k no_queue).inputs ≡ false
      no_row zero m = absurd (m refl)
      no_row (suc k) m = no_lane_row w.list.items k

-- ## a lane that is made

-- one of a link that had none, in which nothing waits
pub lane_made : (w v : Lanes) (link : ℕ) (lane : Lane) → AreWaiting w → place_in (link + 1) (sources_of w.list.items) ≡ None → link < 2 ^ 16 → lane.link ≡ link → lane.flights.items ≡ [] → length (queues_in w) < w.places
    → v.rows ≡ w.rows → v.layouts ≡ w.layouts → v.list.items ≡ w.list.items ++ lane ∷ [] → v.sources ≡ ring w.sources.places (w.sources.keys ++ (link + 1) ∷ []) → v.places ≡ w.places → v.heads ≡ w.heads → Hold v (waiting_in w)
lane_made w v link lane a new few is none room rows layouts list sources places heads =
    let held : AllByRecursion (λ (t : Turn). IsWhatHeld v.layouts.items t.what) v.rows.items =
    subst (λ ls. AllByRecursion (λ (t : Turn). IsWhatHeld ls.items t.what) v.rows.items) (sym layouts) (subst (λ ts. AllByRecursion (λ (t : Turn). IsWhatHeld w.layouts.items t.what) ts.items) (sym rows) a.held) in
    let more : Queue = record { source = link + 1; inputs = [] } in
    let queue : lane_queue lane ≡ more = ap₂ (λ (n : ℕ) (xs : List Input). record { source = n; inputs = xs }) (ap (λ n. n + 1) is) (ap (map arrived) none) in
    let same : queues_in v ≡ queues_in w ++ more ∷ [] =
    ap (λ ls. queues_of ls.items v.rows.items v.list.items) layouts
    ∙ (ap (λ ts. queues_of w.layouts.items ts.items v.list.items) rows
    ∙ (ap (λ (ls : List Lane). queues_of w.layouts.items w.rows.items ls) list
    ∙ ap (λ (qs : List Queue). rows_queue w.layouts.items w.rows.items ∷ qs) (map-append lane_queue w.list.items (lane ∷ []) ∙ ap (λ (q : Queue). map lane_queue w.list.items ++ q ∷ []) queue))) in
    let found : v.sources ≡ ring v.places (sources_of v.list.items) =
    sources
    ∙ ap₂ ring (ap (λ r. r.places) a.sources ∙ sym places)
    (ap (λ r. r.keys ++ (link + 1) ∷ []) a.sources
    ∙ ap (λ (ns : List ℕ). 0 ∷ ns) (ap (λ n. map (λ (l : Lane). l.link + 1) w.list.items ++ n ∷ []) (ap (λ n. n + 1) (sym is)) ∙ (sym (map-append (λ (l : Lane). l.link + 1) w.list.items (lane ∷ [])) ∙ ap (map (λ (l : Lane). l.link + 1)) (sym list)))) in
    let one : IsQueue more = record { few = omega (arith, few); from = tt; soon = tt; in_order = tt } in
    let longer : length (queues_in w ++ more ∷ []) ≡ length (queues_in w) + 1 = length-append (queues_in w) (more ∷ []) in (
      waiting_changed w v a held found (queues_in w ++ more ∷ []) same (queues_end (queues_in w) more a.queues one (new_source w.layouts.items w.rows.items w.list.items (link + 1) new)) (omega (arith, room, longer, places)) (subst (λ n. n ≤ 2 ^ 18) (sym places) a.few)
          (ap length heads ∙ (a.count ∙ sym places)) (λ place. ap (λ (hs : List ℕ). get_or hs place never) heads ∙ (a.heads place ∙ sym (head_at-end (queues_in w) (link + 1) place))),
      ap (λ (qs : List Queue). sorted input_time input_source (all_in qs)) same ∙ ap (sorted input_time input_source) (all_in-end (queues_in w) (link + 1)),
    )
