-- Kit: all that a node's links sent.
use Rattle.std.specs.Prelude.{ℕ, List, [], ◌∷◌, ◌++◌, length}
use Rattle.tva_run.specs.declared.kinds.Sending.{Sending}
use Rattle.tva_waiting.specs.Kept.{KeptList}
use Rattle.tva_waiting.specs.declared.memory.Memory.{Memory}
use Rattle.tva_waiting.specs.declared.memory.Memory.TheVariants as memory

-- what memory keeps of what was sent, all of that, how many of the first of these it has no more, and how many were
-- handed over
pub record SentList : Type 0 where
  pub keeps : Memory
  pub all : List Sending
  pub gone : ℕ
  pub told : ℕ

-- of two lists the one that is kept
abbrev pub kept_of : Memory → KeptList Sending → KeptList Sending → KeptList Sending
kept_of memory.All whole flights = whole
kept_of memory.Nothing whole flights = flights

abbrev pub sent_list : Memory → KeptList Sending → SentList
sent_list keeps list = record { keeps = keeps; all = list.all; gone = list.gone; told = list.told }

-- with one more that was sent
abbrev pub with_sent : Sending → SentList → SentList
with_sent sending sent = record sent { all = sent.all ++ sending ∷ [] }

-- what is gone once all is handed over
abbrev pub gone_sendings : Memory → SentList → ℕ
gone_sendings memory.All sent = sent.gone
gone_sendings memory.Nothing sent = length sent.all
