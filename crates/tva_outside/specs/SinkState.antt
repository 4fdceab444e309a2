-- Crate: what there is to know of a sink in memory.
use Rattle.std.specs.Prelude.{ℕ, List}

-- what was written, how many bytes a write takes at most, the numbers of the writes that are to fail, how
-- many writes there were, those that found no memory aside, and how many of them failed
pub record SinkState : Type 0 where
  pub bytes : List ℕ
  pub most : ℕ
  pub failing : List ℕ
  pub writes : ℕ
  pub faults : ℕ
