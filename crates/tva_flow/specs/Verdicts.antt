-- Product: the verdict on a packet, over all charges of its router so far.
use Rattle.std.specs.Prelude.{◌≡◌, ◌⊎◌, ℕ, ◌+◌, ◌*◌, ◌==◌, nat_lt, nat_le, Bool, true, false, not, ◌&&◌, ◌||◌}
use Rattle.std.specs.Prelude.{if◌then◌else◌, List, [], ◌∷◌, Option, Some, None}
use Rattle.tva_base.specs.declared.packet.Flow.{Flow}
use Rattle.tva_base.specs.declared.packet.Grant.{Grant}
use Rattle.tva_base.specs.Clock.{router_second}
use Rattle.tva_flow.specs.declared.verdicts.Verdict.{Verdict}
use Rattle.tva_flow.specs.declared.verdicts.Verdict.TheVariants.{Authorised, Expired, OverN, UnknownNonce, CacheFull}
use Rattle.tva_flow.specs.declared.verdicts.Verdict.TheVariants.{Superseded}
use Rattle.tva_flow.specs.Charges.{Charge, charge, same_grant, lives, holder, used, living_count}

-- the holder's grant isn't this one, and its second isn't earlier
abbrev pub supersedes : Option Charge → Grant → Bool
supersedes None g = false
supersedes (Some c) g = not (same_grant c.grant g) && nat_le g.second c.grant.second

-- the verdict on a packet that shows a capability of the grant, at a cache of so many slots:
-- the first row that holds
unfoldable pub list_verdict : ℕ → List Charge → ℕ → Grant → ℕ → Verdict
list_verdict slots h now g length =
    if lives h g.flow now && supersedes (holder h g.flow) g then Superseded
    else (if nat_lt (1024 * g.rights.n) (used h g now + length) then OverN
    else (if not (lives h g.flow now) && nat_le slots (living_count h now) then CacheFull
    else Authorised g))

-- the rows by the flow's holder: a flow without one doesn't live
abbrev pub nonce_rows : ℕ → List Charge → ℕ → Flow → ℕ → ℕ → Option Charge → Verdict
nonce_rows offset h now f nonce length None = UnknownNonce
nonce_rows offset h now f nonce length (Some c) =
    if not (lives h f now) || not (c.nonce == nonce) then UnknownNonce
    else (if nat_le (c.grant.second + c.grant.rights.t) (router_second offset now) then Expired
    else (if nat_lt (1024 * c.grant.rights.n) (used h c.grant now + length) then OverN
    else Authorised c.grant))

-- the verdict on a packet that shows a nonce alone, under a clock that is so far ahead: the first
-- row that holds, by the flow's holder
unfoldable pub nonce_verdict : ℕ → List Charge → ℕ → Flow → ℕ → ℕ → Verdict
nonce_verdict offset h now f nonce length = nonce_rows offset h now f nonce length (holder h f)

abbrev pub is_authorised : Verdict → Bool
is_authorised (Authorised g) = true
is_authorised v = false

-- what a verdict adds to the charges
abbrev pub charged : Verdict → ℕ → ℕ → ℕ → List Charge
charged (Authorised g) now nonce length = charge now g nonce length ∷ []
charged v now nonce length = []

-- over the charges before it, a charge is authorised by the grant that it showed or by its nonce
abbrev pub IsAuthorised : ℕ → ℕ → List Charge → Charge → Type 0
IsAuthorised slots offset before c =
    (list_verdict slots before c.time c.grant c.length ≡ Authorised c.grant)
    ⊎ (nonce_verdict offset before c.time c.grant.flow c.nonce c.length ≡ Authorised c.grant)
