-- Kit: what is known of capabilities that were checked.
use Rattle.std.specs.Prelude.{◌≡◌, ℕ, ◌==◌, Bool, true, List, Option, Some, None}
use Rattle.tva_base.specs.declared.packet.Grant.{Grant}
use Rattle.tva_caps.specs.Formula.{capability_of, precap_of}
use Rattle.tva_caps.specs.declared.known.Good.{Good}

-- a router with this master takes the capability for that grant
abbrev pub is_good : List ℕ → Grant → ℕ → Bool
is_good master grant cap = cap == capability_of (precap_of master grant.flow grant.second) grant.rights

-- what is known, if anything, is good under this master
abbrev pub IsGoodOrNone : List ℕ → Option Good → Type 0
IsGoodOrNone master None = Unit {0}
IsGoodOrNone master (Some good) = is_good master good.grant good.cap ≡ true

-- what is known of a grant tells of each capability that is shown for that grant whether it is good, and of no
-- other
abbrev pub IsTold : Option Good → Good → Option Bool → Type 0
IsTold None shown told = told ≡ None
IsTold (Some good) shown None = good.grant ≡ shown.grant → ⊥
IsTold (Some good) shown (Some is) = (good.grant ≡ shown.grant) × (is ≡ (good.cap == shown.cap))
