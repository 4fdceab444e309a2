-- Crate: a ring of turns, the front first: keys, and how many bytes each may still send, whatever waits behind them.
use Rattle.std.specs.Prelude.{ℕ, zero, suc, ◌+◌, ◌-◌, ◌*◌, ◌==◌, if◌then◌else◌, List, [], ◌∷◌}
use Rattle.std.specs.Int.{div_ceil}
use Rattle.tva_base.specs.declared.limits.DrrLimits.{DrrLimits}

pub record Turn : Type 0 where
  pub key : ℕ
  pub deficit : ℕ

abbrev pub turn : ℕ → ℕ → Turn
turn key deficit = record { key = key; deficit = deficit }

-- the deficit of the key's turn
abbrev pub deficit_of : ℕ → List Turn → ℕ
deficit_of key [] = 0
deficit_of key (t ∷ ts) = if t.key == key then t.deficit else deficit_of key ts

-- the deficits of all other turns
abbrev pub other_deficits : ℕ → List Turn → ℕ
other_deficits key [] = 0
other_deficits key (t ∷ ts) = (if t.key == key then 0 else t.deficit) + other_deficits key ts

-- how many turns stand before the key's
abbrev pub place_of : ℕ → List Turn → ℕ
place_of key [] = 0
place_of key (t ∷ ts) = if t.key == key then 0 else suc (place_of key ts)

-- how many quanta the others get before a turn at a place has got so many: in each round as many as
-- there are others, in the first as many as stand between the front and it
abbrev pub quanta_before : ℕ → ℕ → ℕ → ℕ
quanta_before others zero turns = turns * others
quanta_before others (suc before) turns = before + (turns - 1) * others

-- the bytes that may still go before and with the key's next so many bytes: what the others may send at
-- once, these bytes, and a quantum for each turn of another before them
abbrev pub ahead : DrrLimits → ℕ → ℕ → List Turn → ℕ
ahead l key bytes ts =
    other_deficits key ts + bytes
    + quanta_before (l.queues - 1) (place_of key ts) (div_ceil (bytes - deficit_of key ts) l.quantum) * l.quantum
