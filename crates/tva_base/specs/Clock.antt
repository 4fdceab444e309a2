-- Product: a router's second: its time plus its clock's offset, in whole seconds.
use Rattle.std.specs.Prelude.{ℕ, ◌+◌, ◌/◌}

-- the router second at a time, for a clock that is so far ahead
abbrev pub router_second : ℕ → ℕ → ℕ
router_second offset now = (now + offset) / 1000000000
