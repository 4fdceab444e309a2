-- Crate: how the sums of pairs are kept while charges come, and that they stand for the charges so far.
use Rattle.std.specs.Prelude.{◌≡◌, ℕ, ◌+◌, ◌*◌, ◌≤◌, ◌^◌, Bool, if◌then◌else◌, List, [], ◌∷◌, length, sum_by, All, Option}
use Rattle.std.specs.BTreeMap.{get}
use Rattle.std.specs.List.{position_from}
use Rattle.std.specs.Ordering.{nat_cmp, ordering_then}
use Rattle.std.specs.declared.cmp.Ordering.{Ordering}
use Rattle.tva_base.specs.declared.packet.Time.{Time}
use Rattle.tva_base.specs.Orders.{grant_order}
use Rattle.tva_report.specs.declared.charged.Charged.{Charged}
use Rattle.tva_report.specs.declared.pairs.Pair.{Pair}
use Rattle.tva_report.specs.declared.pairs.Table.{Table}
use Rattle.tva_report.specs.declared.sums.Tally.{Tally}
use Rattle.tva_report.specs.Sums.{pair_sums, same_pair}

-- by the boot, and in one boot by the grant
abbrev pub pair_order : Pair → Pair → Ordering
pair_order a b = ordering_then (nat_cmp a.boot b.boot) (grant_order a.grant b.grant)

-- where a pair stands among these
abbrev pub place_of : Pair → List (Pair × ℕ) → Option ℕ
place_of pair sums = position_from (λ s. same_pair s.0 pair) 0 sums

-- the map knows where each pair stands
abbrev pub IsPlaced : Table → Type 0
IsPlaced table = (pair : Pair) → get pair_order table.places pair ≡ place_of pair table.sums.items

-- so much more for a key, which comes last where it is new
abbrev pub add_to : {K : Type 0} → (K → K → Bool) → K → ℕ → List (K × ℕ) → List (K × ℕ)
add_to same key more [] = (key, more) ∷ []
add_to same key more (s ∷ sums) =
    if same s.0 key then (s.0, s.1 + more) ∷ sums else s ∷ add_to same key more sums

-- no sum passes the sum of all, and so many charges have few enough bytes
pub record IsSound (tally : Tally) : Type 0 where
  pub placed : IsPlaced tally.table
  pub parts : All (λ s. s.1 ≤ tally.bytes) tally.table.sums.items
  pub bounded : tally.bytes ≤ tally.charges * 2 ^ 32

-- there is room for so many charges more
abbrev pub HasRoom : Tally → ℕ → Type 0
HasRoom tally more = tally.charges + more ≤ 4000000

-- what was added up of these charges
pub record StandsFor (tally : Tally) (restarts : List (Time × List ℕ)) (cs : List Charged) : Type 0 where
  pub sums : tally.table.sums.items ≡ pair_sums restarts cs
  pub charges : tally.charges ≡ length cs
  pub bytes : tally.bytes ≡ sum_by (λ c. c.length) cs
