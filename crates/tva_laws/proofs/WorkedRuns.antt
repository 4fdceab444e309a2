-- How worked logs are shown to be a run: their order, that all is early and that no start is left out, each by a test.
use Rattle.tva_laws.proofs.Common.{◌≡◌, ◌≤◌, ◌<◌, ◌+◌, ◌⊎◌, inl, inr, ℕ, zero, suc, Bool, true, false, ◌&&◌, ◌||◌, cond, eqb, ltb, leb, List, [], ◌∷◌, ◌++◌, Option, Some, None, refl, ap, sym, subst, ◌∙◌, arith, append-nil, append_assoc, nat_lt, option_and_then, option_map, AllByRecursion, find, cases_lt, lt-ltb, ltb-true, leb-true, eqb-true, nat_tests, LinkLimits, HostPlan, LinkPlan, PacketData, and_true, Config, Row, MayPrecede, IsInOrder, from_source, cut, filter-true, filter-none, cut-late, each_later, Input, Site, Entry, input_time, input_source, entry_time, entry_rank, port_logs, GoesOn, due, start_after, Logs, reaches, HasLog, Deal, Prepared, Coming, ComesInTime, RouterPlan, ShowsMinted, in_force, ComesUnder, slice_get, Host, Router, log_at, Took, Arrival, at_time, Arrived, Fate, is_marked, shows, IsSteadyPath, deals, comings, coming, charges_at, charges, IsSteadyIn}
use Rattle.tva_laws.specs.Steady.{Walk}
use Rattle.tva_port.specs.declared.requests.RequestQueues.{RequestQueues}
use Rattle.tva_port.specs.declared.requests.RequestQueues.TheVariants.{OneLevel, TwoLevels}
use Rattle.tva_port.specs.Log as port
use Rattle.tva_port.specs.Levels.{AreNone}
use Rattle.tva_port.specs.Waiting.{Waiting, IsEmpty, waiting_after}
use Rattle.tva_port.proofs.Idling.{empty_idles}

-- ## order, by a test

may_by : (a b c d : ℕ) (x : Bool) → ltb a c ≡ x → (x || (eqb a c && leb b d)) ≡ true → (a < c) ⊎ ((a ≡ c) × (b ≤ d))
may_by a b c d x e k = grind (arith, nat_tests, ltb-true, and_true, eqb-true, leb-true)

module _ {X : Type 0} (time source : X → ℕ) where
  abbrev pub all_behind : X → List X → Bool
  all_behind x [] = true
  all_behind x (y ∷ ys) = (ltb (time x) (time y) || (eqb (time x) (time y) && leb (source x) (source y))) && all_behind x ys

  abbrev pub stands : List X → Bool
  stands [] = true
  stands (x ∷ xs) = all_behind x xs && stands xs

  each_behind : (x : X) (xs : List X) → all_behind x xs ≡ true → AllByRecursion (MayPrecede time source x) xs
  each_behind x [] e = tt
  each_behind x (y ∷ ys) e =
      let k = and_true (ltb (time x) (time y) || (eqb (time x) (time y) && leb (source x) (source y))) (all_behind x ys) e in
      (may_by (time x) (source x) (time y) (source y) (ltb (time x) (time y)) refl k.0, each_behind x ys k.1)

  pub in_order_by : (xs : List X) → stands xs ≡ true → IsInOrder time source xs
  in_order_by [] e = tt
  in_order_by (x ∷ xs) e = let k = and_true (all_behind x xs) (stands xs) e in (each_behind x xs k.0, in_order_by xs k.1)

-- ## inputs

apart : (k s : ℕ) → k < s → eqb k s ≡ false
apart k s l = grind (arith, nat_tests)

-- all of them come from sources up to a number
abbrev pub are_within : ℕ → List Input → Bool
are_within most [] = true
are_within most (i ∷ is) = leb (input_source i) most && are_within most is

each_apart : (most s : ℕ) (inputs : List Input) → most < s → are_within most inputs ≡ true
    → AllByRecursion (λ (i : Input). eqb (input_source i) s ≡ false) inputs
each_apart most s [] l e = tt
each_apart most s (i ∷ is) l e =
    let k = and_true (leb (input_source i) most) (are_within most is) e in
    grind (arith, nat_tests, leb-true, apart, each_apart most s is l k.1)

-- none comes from a source past them
pub none_from : (most s : ℕ) (inputs : List Input) → most < s → are_within most inputs ≡ true → from_source input_source s inputs ≡ []
none_from most s inputs l e = filter-none (λ (i : Input). eqb (input_source i) s) inputs (each_apart most s inputs l e)

-- what holds of the first numbers, and of those past them, holds of each
abbrev pub Below : ℕ → (ℕ → Type 0) → Type 0
Below zero P = Unit {0}
Below (suc k) P = P zero × Below k (λ s. P (suc s))

abbrev pub Past : ℕ → (ℕ → Type 0) → Type 0
Past zero P = (n : ℕ) → P n
Past (suc k) P = Past k (λ s. P (suc s))

pub by_number : (k : ℕ) (P : ℕ → Type 0) → Below k P → Past k P → (s : ℕ) → P s
by_number zero P b p s = p s
by_number (suc k) P b p zero = b.0
by_number (suc k) P b p (suc s) = by_number k (λ n. P (suc n)) b.1 p s

-- triples and pairs as calls: a chain of them nests to the right, and stands on few lines
pub triple : {A B C : Type 0} → A → B → C → A × B × C
triple a b c = (a, b, c)

pub pair : {A B : Type 0} → A → B → A × B
pair a b = (a, b)

-- what came in time, by the deal that prepared it and those before and behind that
abbrev pub came_so : {host : HostPlan} {delay : ℕ} {own : List Deal} {x : Coming} → (before : List Deal) (sent : ℕ) (packet : PacketData)
    (after : List Deal) → own ≡ before ++ Prepared sent packet ∷ after → packet.id ≡ x.packet.id → sent + delay ≤ x.time
    → x.time ≤ sent + delay + host.margin → ComesInTime host delay own x
came_so before sent packet after place same from until =
    record { before = before; sent = sent; packet = packet; after = after; place = place; same = same; from = from; until = until }

abbrev pub under_so : {host : HostPlan} {router : RouterPlan} {delay : ℕ} {under : List Deal} {came : ℕ} {x : Coming} → ComesInTime host delay under x
    → came ≤ x.time → ShowsMinted (in_force router x.time) x.packet x.packet.carried came → ComesUnder host router delay under came x
under_so in_time behind minted = record { in_time = in_time; behind = behind; minted = minted }

-- a path is steady up to a packet, by what stands of it in the logs
abbrev pub steady_so : {logs : Logs} {walk : Walk} {before : List Entry} {time link : ℕ} {packet : PacketData} {fate : Fate} {onward : PacketData}
    → (rest : List Entry) → slice_get walk.config.nodes walk.sender ≡ Some (Host walk.host) → slice_get walk.config.nodes walk.node ≡ Some (Router walk.router)
    → log_at logs walk.node ≡ before ++ Took (Arrival (at_time time) link packet) (Arrived (Some link) packet fate onward) ∷ rest
    → is_marked packet.carried ≡ false → packet.hops < 32 → shows packet.carried ≡ true
    → IsSteadyPath walk.host walk.router walk.delay (deals packet.flow.dst (log_at logs walk.sender)) (comings packet.flow before)
    (charges_at walk.router time (charges before)) (coming (Arrival (at_time time) link packet) packet fate)
    → IsSteadyIn logs walk before time link packet fate onward
steady_so rest sender node here unmarked hops shown steady =
    record { sender = sender; node = node; rest = rest; here = here; unmarked = unmarked; hops = hops; shown = shown; steady = steady }

-- ## times

abbrev pub are_early : ℕ → List Entry → Bool
are_early until [] = true
are_early until (e ∷ es) = ltb (entry_time e) until && are_early until es

early_by : (until : ℕ) (log : List Entry) → are_early until log ≡ true → AllByRecursion (λ (e : Entry). entry_time e < until) log
early_by until [] e = tt
early_by until (x ∷ xs) e =
    let k = and_true (ltb (entry_time x) until) (are_early until xs) e in (ltb-true (entry_time x) until k.0, early_by until xs k.1)

-- ## no start is left out

rests : (l : LinkLimits) (log : List port.Entry) (u : ℕ) → IsEmpty (waiting_after l log) → start_after l log u ≡ None
unfolding start_after
rests l log u e = grind (arith, nat_tests, empty_idles)

-- what holds of each front behind which nothing of a time stands holds of what comes up to that time
module _ (P : List Entry → Type 0) (u : ℕ) where
  abbrev Fronts : List Entry → List Entry → Type 0
  Fronts before [] = P before
  Fronts before (e ∷ es) = (u < entry_time e → P before) × (entry_time e ≤ u → Fronts (before ++ e ∷ []) es)

  cut_by : (before es : List Entry) → IsInOrder entry_time entry_rank es → Fronts before es → P (before ++ cut entry_time (suc u) es)
  cut_by before [] o f = subst P (sym (append-nil before)) f
  cut_by before (e ∷ es) o f = elim (cases_lt u (entry_time e)) [
    | inl l ↦
        subst P (sym (ap (λ (xs : List Entry). before ++ xs)
        (cut-late entry_time entry_rank (suc u) (e ∷ es) (each_later entry_time entry_rank (suc u) e es o (omega (arith, l)))) ∙ append-nil before))
        (f.0 l)
    | inr l ↦
        subst P (append_assoc before (e ∷ []) (cut entry_time (suc u) es) ∙ ap (λ (xs : List Entry). before ++ xs)
        (sym (filter-true (λ (x : Entry). nat_lt (entry_time x) (suc u)) e es (lt-ltb (entry_time e) (suc u) (omega (arith, l))))))
        (cut_by (before ++ e ∷ []) es o.1 (f.1 l))
  ]

-- nothing waits, by a test
abbrev pub is_nil : {X : Type 0} → List X → Bool
is_nil [] = true
is_nil (x ∷ xs) = false

abbrev pub are_none : RequestQueues → Bool
are_none (OneLevel f) = is_nil f.queues
are_none (TwoLevels h) = is_nil h.groups

none_by : (q : RequestQueues) → are_none q ≡ true → AreNone q
none_by q e = grind (arith, nat_tests)

abbrev pub is_empty : Waiting → Bool
is_empty w = are_none w.requests && (is_nil w.regulars.queues && is_nil w.legacy)

empty_by : (w : Waiting) → is_empty w ≡ true → IsEmpty w
empty_by w e = grind (arith, nat_tests, and_true)

-- a link starts nothing before a time: nothing waits, or it is busy until then
abbrev pub rests_until : LinkLimits → List port.Entry → ℕ → Bool
rests_until l log time = is_empty (waiting_after l log) || leb time (port.free_after l log)

rest_by : (l : LinkLimits) (log : List port.Entry) (time u : ℕ) → rests_until l log time ≡ true → u < time → start_after l log u ≡ None
unfolding start_after
rest_by l log time u e f = grind (arith, nat_tests, leb-true, rests, empty_by)

-- behind each front of the log nothing waits for a link, but where more happens at the same time, or while the link is busy
abbrev pub is_calm : LinkLimits → ℕ → ℕ → List Entry → List Entry → Bool
is_calm l link last before [] = is_empty (waiting_after l (port_logs before link))
is_calm l link last before (e ∷ es) =
    (leb (entry_time e) last || rests_until l (port_logs before link) (entry_time e))
    && is_calm l link (entry_time e) (before ++ e ∷ []) es

calm_fronts : (l : LinkLimits) (link u last : ℕ) (before es : List Entry) → last ≤ u → is_calm l link last before es ≡ true
    → Fronts (λ (before : List Entry). start_after l (port_logs before link) u ≡ None) u before es
calm_fronts l link u last before [] s c = rests l (port_logs before link) u (empty_by (waiting_after l (port_logs before link)) c)
calm_fronts l link u last before (e ∷ es) s c =
    let k = and_true (leb (entry_time e) last || rests_until l (port_logs before link) (entry_time e))
    (is_calm l link (entry_time e) (before ++ e ∷ []) es) c in
    (λ f. front f (leb (entry_time e) last) refl k.0, λ m. calm_fronts l link u (entry_time e) (before ++ e ∷ []) es m k.1)
  where
    front : u < entry_time e → (b : Bool) → leb (entry_time e) last ≡ b
        → (b || rests_until l (port_logs before link) (entry_time e)) ≡ true
        → start_after l (port_logs before link) u ≡ None
    front f b is t = grind (arith, nat_tests, leb-true, rest_by)

abbrev pub IsCalm : List Entry → ℕ × LinkPlan → Type 0
IsCalm log o = is_calm o.1.limits o.0 0 [] log ≡ true

calm_rests : (log : List Entry) → IsInOrder entry_time entry_rank log → (u : ℕ) (o : ℕ × LinkPlan) → IsCalm log o
    → start_after o.1.limits (port_logs (cut entry_time (suc u) log) o.0) u ≡ None
calm_rests log order u o c =
    cut_by (λ (before : List Entry). start_after o.1.limits (port_logs before o.0) u ≡ None) u [] log order
    (calm_fronts o.1.limits o.0 u 0 [] log (omega arith) c)

abbrev found_start : List Entry → ℕ → ℕ → Option (ℕ × LinkPlan) → Type 0
found_start before link u o =
    option_and_then (λ (o : ℕ × LinkLimits). start_after o.1 (port_logs before link) u) (option_map (λ (o : ℕ × LinkPlan). (o.0, o.1.limits)) o) ≡ None

none_starts : (log : List Entry) → IsInOrder entry_time entry_rank log → (u link : ℕ) (links : List (ℕ × LinkPlan))
    → AllByRecursion (IsCalm log) links
    → found_start (cut entry_time (suc u) log) link u (find (λ (o : ℕ × LinkPlan). eqb o.0 link) links)
none_starts log order u link [] c = refl
none_starts log order u link (o ∷ os) c = by (eqb o.0 link) refl (none_starts log order u link os c.1)
  where
    by : (b : Bool) → eqb o.0 link ≡ b
        → found_start (cut entry_time (suc u) log) link u (find (λ (o : ℕ × LinkPlan). eqb o.0 link) os)
        → found_start (cut entry_time (suc u) log) link u (cond b (Some o) (find (λ (o : ℕ × LinkPlan). eqb o.0 link) os))
    by true e others = grind (arith, nat_tests, eqb-true, calm_rests)
    by false e others = others

-- ## a node's log

-- what is shown of a node's log over inputs
pub record Works (config : Config) (rows : List Row) (logs : Logs) (until : ℕ) (site : Site) (inputs : List Input)
    (log : List Entry) : Type 0 where
  pub turns : stands input_time input_source inputs ≡ true
  pub gives : (s : ℕ) → from_source input_source s inputs ≡ due until (reaches config rows logs site.number s)
  pub order : stands entry_time entry_rank log ≡ true
  pub early : are_early until log ≡ true
  pub steps : GoesOn site [] (due until inputs) log
  pub calm : AllByRecursion (IsCalm log) site.links

pub has_by : (config : Config) (rows : List Row) (logs : Logs) (until : ℕ) (site : Site) (inputs : List Input) (log : List Entry)
    → Works config rows logs until site inputs log → HasLog config rows logs until site log
has_by config rows logs until site inputs log w =
    let order = in_order_by entry_time entry_rank log w.order in
    record {
      inputs = inputs;
      join = record { in_order = in_order_by input_time input_source inputs w.turns; each = w.gives };
      is_log = record {
        in_order = order;
        early = early_by until log w.early;
        steps = w.steps;
        none_left = λ u link l. none_starts log order u link site.links w.calm;
      };
    }
