-- A prefix that was read has at most 32 bits, and zeros past them.
use Rattle.tva_config_entries.proofs.Common.{◌≤◌, ℕ, ◌-◌, ◌^◌, ◌/◌, List, Option, Some, None, IfSome, arith, nat_tests, Address, address_of, parted, kept, prefix_of, IsPrefix}
use Rattle.std.proofs.Math.Nat.{mul-mod_left}
use Rattle.tva_base.specs.Decimal.{decimal_of, plain_decimal_of}
use Rattle.tva_base.specs.Options.{◌>>=◌}

pub decimal_within : (text : List ℕ) (max : ℕ) → IfSome (plain_decimal_of text max) (λ k. k ≤ max)
unfolding plain_decimal_of decimal_of
decimal_within text max = grind (arith, nat_tests)

pub kept_valid : (a : Address) (bits : ℕ) → bits ≤ 32 → IsPrefix (record { address = kept a bits; bits = bits })
kept_valid a bits few = record { bits = few; zeros = mul-mod_left (a.0 / 2 ^ (32 - bits)) (2 ^ (32 - bits)) }

bits_valid : (a : Address) (o : Option ℕ) → IfSome o (λ k. k ≤ 32) → IfSome (o >>= λ bits. Some (record { address = kept a bits; bits = bits })) IsPrefix
bits_valid a None within = tt
bits_valid a (Some bits) within = kept_valid a bits within

address_valid : (o : Option Address) (text : List ℕ) → IfSome (o >>= λ a. plain_decimal_of text 32 >>= λ bits. Some (record { address = kept a bits; bits = bits })) IsPrefix
address_valid None text = tt
address_valid (Some a) text = bits_valid a (plain_decimal_of text 32) (decimal_within text 32)

parts_valid : (o : Option (List ℕ × List ℕ)) → IfSome (o >>= λ parts. address_of parts.0 >>= λ a. plain_decimal_of parts.1 32 >>= λ bits. Some (record { address = kept a bits; bits = bits })) IsPrefix
parts_valid None = tt
parts_valid (Some parts) = address_valid (address_of parts.0) parts.1

pub prefix_valid : (text : List ℕ) → IfSome (prefix_of text) IsPrefix
unfolding prefix_of
prefix_valid text = parts_valid (parted 47 text)
