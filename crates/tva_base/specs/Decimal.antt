-- Product: what a text of decimal digits is as a number.
use Rattle.std.specs.Prelude.{ℕ, ◌+◌, ◌-◌, ◌*◌, ◌^◌, ◌==◌, nat_le, ◌&&◌, if◌then◌else◌, Bool, false, List, [], ◌∷◌}
use Rattle.std.specs.Prelude.{length, Some, None}
use Rattle.std.specs.{declared.option.Option.Option, List.list_all, Char.is_ascii_digit}

-- the number that digits write
abbrev pub number_in : List ℕ → ℕ
number_in [] = 0
number_in (digit ∷ digits) = (digit - 48) * 10 ^ length digits + number_in digits

-- a text of 1 to 20 digits
abbrev pub is_decimal : List ℕ → Bool
is_decimal text = nat_le 1 (length text) && nat_le (length text) 20 && list_all is_ascii_digit text

-- the number that a text writes, where it is of that form and at most so great
unfoldable pub decimal_of : List ℕ → ℕ → Option ℕ
decimal_of text max =
    if is_decimal text && nat_le (number_in text) max then Some (number_in text) else None

-- a digit 0 with more digits behind it
abbrev pub has_leading_zero : List ℕ → Bool
has_leading_zero [] = false
has_leading_zero (digit ∷ []) = false
has_leading_zero (digit ∷ next ∷ digits) = digit == 48

-- the number that a text writes without leading zeros
unfoldable pub plain_decimal_of : List ℕ → ℕ → Option ℕ
plain_decimal_of text max = if has_leading_zero text then None else decimal_of text max
