-- Kit: inputs that wait by their source, those of each in their order.
use Rattle.std.specs.Prelude.{◌≡◌, ◌<◌, ◌+◌, ◌-◌, ◌*◌, ◌^◌, ℕ, List, [], ◌∷◌, ◌++◌, get_or}
use Rattle.std.specs.List.{AllByRecursion}
use Rattle.tva_run.specs.Joins.{IsInOrder, MayPrecede}
use Rattle.tva_run.specs.declared.kinds.Input.{Input}
use Rattle.tva_run.specs.Entries.{input_source, input_time}

-- a source, and what waits of it
pub record Queue : Type 0 where
  pub source : ℕ
  pub inputs : List Input

-- what waits of all, one source behind another
abbrev pub all_in : List Queue → List Input
all_in [] = []
all_in (queue ∷ queues) = queue.inputs ++ all_in queues

-- a source is the trace or one of so many links, and a time has 64 bits
pub record IsQueue (queue : Queue) : Type 0 where
  pub few : queue.source < 2 ^ 17
  pub from : AllByRecursion (λ input. input_source input ≡ queue.source) queue.inputs
  pub soon : AllByRecursion (λ input. input_time input < 2 ^ 64) queue.inputs
  pub in_order : IsInOrder input_time input_source queue.inputs

-- no two are of one source
abbrev pub AreQueues : List Queue → Type 0
AreQueues [] = Unit {0}
AreQueues (queue ∷ queues) = IsQueue queue × AllByRecursion (λ other. other.source ≡ queue.source → ⊥) queues × AreQueues queues

-- an input is the first of its queue, and may stand before all that waits
pub record IsNextIn (queues : List Queue) (queue : Queue) (input : Input) (rest : List Input) : Type 0 where
  pub first : queue.inputs ≡ input ∷ rest
  pub before : AllByRecursion (MayPrecede input_time input_source input) (all_in queues)

-- ## the table by which the next is found

-- by time, and at one time by source
abbrev pub key_of : Input → ℕ
key_of input = input_time input * 2 ^ 32 + input_source input

-- where no input waits: later than each
abbrev pub never : ℕ
never = 2 ^ 128 - 1

abbrev pub head_of : List Input → ℕ
head_of [] = never
head_of (input ∷ inputs) = key_of input

abbrev pub no_queue : Queue
no_queue = record { source = 0; inputs = [] }

-- what waits first in the queue at a place
abbrev pub head_at : List Queue → ℕ → ℕ
head_at queues place = head_of (get_or queues place no_queue).inputs
