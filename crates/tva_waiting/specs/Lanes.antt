-- Kit: how inputs wait that are not taken yet: rows in brief, and the packets of each link in a lane of its own.
use Rattle.std.specs.Prelude.{◌≡◌, ◌≤◌, ◌<◌, ◌+◌, ◌^◌, ℕ, List, ◌∷◌, length, map, get_or}
use Rattle.std.specs.List.{AllByRecursion}
use Rattle.std.specs.VecDeque.{deque_capacity, deque_len}
use Rattle.tva_index.specs.KeyRing.{ring}
use Rattle.tva_rows.specs.Brief.{IsWhatHeld, what_in}
use Rattle.tva_run.specs.Joins.{sorted}
use Rattle.tva_run.specs.declared.kinds.Input.{Input}
use Rattle.tva_run.specs.declared.kinds.Input.TheVariants.{FromTrace}
use Rattle.tva_run.specs.declared.kinds.Sending.{Sending}
use Rattle.tva_run.specs.Entries.{input_source, input_time}
use Rattle.tva_waiting.specs.Inputs.{arrived}
use Rattle.tva_waiting.specs.Queues.{AreQueues, Queue, all_in, head_at, never}
use Rattle.tva_waiting.specs.declared.lanes.Lane.{Lane}
use Rattle.tva_waiting.specs.declared.lanes.Lanes.{Lanes}
use Rattle.tva_waiting.specs.declared.lanes.Turn.{Turn}

-- the row that a turn says, over the layouts of all shims
abbrev pub row_in : List ℕ → Turn → Input
row_in layouts turn = FromTrace (record { time = record { 0 = turn.time }; node = turn.node; what = what_in layouts turn.what })

-- the rows are those of the trace, which is the first source
abbrev pub rows_queue : List ℕ → List Turn → Queue
rows_queue layouts turns = record { source = 0; inputs = map (row_in layouts) turns }

abbrev pub lane_queue : Lane → Queue
lane_queue lane = record { source = lane.link + 1; inputs = map arrived lane.flights.items }

abbrev pub queues_of : List ℕ → List Turn → List Lane → List Queue
queues_of layouts turns lanes = rows_queue layouts turns ∷ map lane_queue lanes

abbrev pub queues_in : Lanes → List Queue
queues_in w = queues_of w.layouts.items w.rows.items w.list.items

-- all that waits, in the order of taking
abbrev pub waiting_in : Lanes → List Input
waiting_in w = sorted input_time input_source (all_in (queues_in w))

-- the sources of the rows and of the lanes
abbrev pub sources_of : List Lane → List ℕ
sources_of lanes = 0 ∷ map (λ lane. lane.link + 1) lanes

-- each lane is found by its source, and the heads say when the first of each comes
pub record AreWaiting (w : Lanes) : Type 0 where
  pub queues : AreQueues (queues_in w)
  pub held : AllByRecursion (λ turn. IsWhatHeld w.layouts.items turn.what) w.rows.items
  pub sources : w.sources ≡ ring w.places (sources_of w.list.items)
  pub room : length (queues_in w) ≤ w.places
  pub few : w.places ≤ 2 ^ 18
  pub count : length w.heads ≡ w.places
  pub heads : (place : ℕ) → get_or w.heads place never ≡ head_at (queues_in w) place

-- the lanes are as they should be, and this waits in them
abbrev pub Hold : Lanes → List Input → Type 0
Hold w all = AreWaiting w × (waiting_in w ≡ all)

-- they gave this away, which was the next
abbrev pub HaveGiven : Lanes → Input → Lanes → Type 0
HaveGiven old input new = AreWaiting new × (waiting_in old ≡ input ∷ waiting_in new)

-- ## places

-- the lane of a link stands at a place
pub record IsLaneOf (lanes : List Lane) (link place : ℕ) : Type 0 where
  pub within : place < length lanes
  pub its : (d : Lane) → (get_or lanes place d).link ≡ link

-- a packet more may be put there
abbrev pub HasRoomAt : List Lane → ℕ → Type 0
HasRoomAt lanes place = (d : Lane) → deque_len (get_or lanes place d).flights + 1 ≤ deque_capacity (get_or lanes place d).flights

-- ## order in a lane

abbrev pub turn_time : Turn → ℕ
turn_time turn = turn.time

abbrev pub turn_source : Turn → ℕ
turn_source turn = 0

abbrev pub flight_time : Sending → ℕ
flight_time sent = sent.arrive.0

abbrev pub flight_source : Sending → ℕ
flight_source sent = sent.link + 1
