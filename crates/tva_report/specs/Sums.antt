-- Product: what a router let through, over its charges.
use Rattle.std.specs.Prelude.{ℕ, ◌*◌, ◌==◌, nat_lt, Bool, ◌&&◌, if◌then◌else◌, List, [], ◌∷◌, length, map, sum_by, Option, Some, None}
use Rattle.std.specs.Option.{option_map}
use Rattle.tva_base.specs.declared.packet.Grant.{Grant}
use Rattle.tva_base.specs.declared.packet.Time.{Time}
use Rattle.tva_flow.specs.Charges.{same_grant}
use Rattle.tva_report.specs.declared.charged.Charged.{Charged}
use Rattle.tva_report.specs.declared.pairs.Pair.{Pair}
use Rattle.tva_report.specs.declared.sums.Sums.{Sums}
use Rattle.tva_report.specs.Charged.{boot_among, of_boot}
use Rattle.tva_report.specs.Pairs.{firsts, with_sums}

-- a boot and a grant
abbrev pub same_pair : Pair → Pair → Bool
same_pair a b = (a.boot == b.boot) && same_grant a.grant b.grant

abbrev pub pair_of : List (Time × List ℕ) → Charged → Pair
pair_of restarts c = record { boot = boot_among restarts c.time.0; grant = c.grant }

-- the pairs with a charge, in the order of the first charge of each
abbrev pub pairs_in : List (Time × List ℕ) → List Charged → List Pair
pairs_in restarts cs = firsts same_pair (map (pair_of restarts) cs)

-- the bytes of a charge where it is one of the grant
abbrev pub charged_bytes : Grant → Charged → ℕ
charged_bytes grant c = if same_grant c.grant grant then c.length else 0

-- the sum of a pair: the bytes of the grant among the charges of the boot
abbrev pub bytes_of_pair : List (Time × List ℕ) → List Charged → Pair → ℕ
bytes_of_pair restarts cs pair = sum_by (charged_bytes pair.grant) (of_boot restarts pair.boot cs)

abbrev pub pair_sums : List (Time × List ℕ) → List Charged → List (Pair × ℕ)
pair_sums restarts cs = with_sums (bytes_of_pair restarts cs) (pairs_in restarts cs)

-- twice the units of a grant, in bytes
abbrev pub limit_of : Grant → ℕ
limit_of grant = 2 * 1024 * grant.rights.n

-- the sum of the one pair is a greater part of its limit than that of the other
abbrev pub is_worse : Pair × ℕ → Pair × ℕ → Bool
is_worse a b = nat_lt (b.1 * limit_of a.0.grant) (a.1 * limit_of b.0.grant)

-- the worst of that pair and these, and among equals the first
abbrev pub worst_from : Pair × ℕ → List (Pair × ℕ) → Pair × ℕ
worst_from best [] = best
worst_from best (pair ∷ pairs) = worst_from (if is_worse pair best then pair else best) pairs

abbrev pub worst_of : List (Pair × ℕ) → Option (Pair × ℕ)
worst_of [] = None
worst_of (pair ∷ pairs) = Some (worst_from pair pairs)

-- its grant and its sum
abbrev pub grant_and_sum : Pair × ℕ → Grant × ℕ
grant_and_sum pair = (pair.0.grant, pair.1)

-- the sums of a router with these restarts and charges
abbrev pub sums_of : List (Time × List ℕ) → List Charged → Sums
sums_of restarts cs = record {
  grants = length (pairs_in restarts cs);
  charges = length cs;
  bytes = sum_by (λ c. c.length) cs;
  worst = option_map grant_and_sum (worst_of (pair_sums restarts cs));
}
