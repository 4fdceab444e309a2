-- Product: the ordinals by which a node numbers its packets.
use Rattle.std.specs.Prelude.{ℕ, ◌+◌, min}

-- the ordinal of the packet behind so many: one more, as far as 64 bits go
abbrev pub ordinal_behind : ℕ → ℕ
ordinal_behind made = min (made + 1) 18446744073709551615
