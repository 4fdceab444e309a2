-- Product: when a router takes a shown capability, and for which grant.
use Rattle.std.specs.Prelude.{◌<◌, ◌≤◌, ℕ, ◌+◌, ◌-◌, List, nat_lt, nat_le, ◌==◌, if◌then◌else◌}
use Rattle.tva_base.specs.declared.packet.Flow.{Flow}
use Rattle.tva_base.specs.declared.packet.Grant.{Grant}
use Rattle.tva_base.specs.declared.packet.Rights.{Rights}
use Rattle.tva_caps.specs.Formula.{age_of, capability_of, precap_of}
use Rattle.tva_caps.specs.declared.minters.Checked.{Checked}
use Rattle.tva_caps.specs.declared.minters.Checked.TheVariants.{BadHash, Expired, Valid}

-- what a router answers to a shown value that by its age comes from that router second
unfoldable pub checked_at : List ℕ → Flow → ℕ → Rights → ℕ → Checked
checked_at master flow shown rights minted =
    if shown == capability_of (precap_of master flow minted) rights
    then Valid (record { flow = flow; rights = rights; second = minted })
    else BadHash

-- what a router with this master answers to a value that is shown in a router second, for a flow
-- and with rights: expired by its age, or from before the clock's second 0, or by the formula
unfoldable pub check_of : List ℕ → ℕ → Flow → ℕ → Rights → Checked
check_of master second flow shown rights =
    if nat_le rights.t (age_of second shown) then Expired
    else if nat_lt second (age_of second shown) then BadHash
    else checked_at master flow shown rights (second - age_of second shown)

-- the grant may be used in that router second
pub record IsSecondOf (grant : Grant) (second : ℕ) : Type 0 where
  pub from : grant.second ≤ second
  pub until : second < grant.second + grant.rights.t

-- a fact about the grant, where the answer is one
abbrev pub IfValid : Checked → (Grant → Type 0) → Type 0
IfValid (Valid grant) P = P grant
IfValid Expired P = Unit {0}
IfValid BadHash P = Unit {0}
