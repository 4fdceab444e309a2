-- Crate: calls that are numbered from 1, some of which are to fail.
use Rattle.std.specs.Prelude.{◌==◌, ℕ, Bool, List}
use Rattle.std.specs.List.{list_any}

-- the call with that number is to fail
abbrev pub is_due : List ℕ → ℕ → Bool
is_due failing number = list_any (λ call. call == number) failing
