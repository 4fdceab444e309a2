-- Kit: the steps of a flow cache on one entry, for the contracts of the functions that take them.
use Rattle.std.specs.Prelude.{◌≡◌, ℕ, ◌+◌, ◌*◌, ◌^◌, ◌==◌, ◌≤◌, ◌<◌, nat_lt, nat_le, Bool, not, ◌&&◌, if◌then◌else◌}
use Rattle.std.specs.Prelude.{List, [], ◌∷◌, ◌++◌}
use Rattle.tva_base.specs.declared.packet.Grant.{Grant}
use Rattle.tva_base.specs.Credit.{credit_of}
use Rattle.tva_flow.specs.declared.verdicts.Verdict.{Verdict}
use Rattle.tva_flow.specs.declared.verdicts.Verdict.TheVariants.{Authorised, Expired, OverN, UnknownNonce, CacheFull}
use Rattle.tva_flow.specs.declared.verdicts.Verdict.TheVariants.{Superseded}
use Rattle.tva_flow.specs.declared.kept.Entry.{Entry}
use Rattle.tva_flow.specs.Charges.{Charge, same_grant}
use Rattle.tva_flow.specs.Verdicts.{charged}
use Rattle.tva_flow.specs.Stands.{cache, StandsFor}

-- Why an end stays inside 64 bits. A packet has at least 20 bytes, so it is credited its bytes' part of the
-- grant's T seconds and at most 1/20 ns for each byte to round that up: of used bytes all packets together get at
-- most used * (20 * 10^9 T + 1024 N) / (20 * 1024 N) ns. A grant has at most 1024 N bytes in a life, T is below 2^8
-- and N below 2^32: so that is at most 2^39 ns under one grant. In a life the grants' seconds only rise, so the
-- life ends at most 2^39 ns past the last time for each second and for the holder: below 2^61.
pub record IsNear (last : ℕ) (e : Entry) : Type 0 where
  pub end : e.end * (20480 * e.grant.rights.n)
      ≤ (last + e.grant.second * 2 ^ 39) * (20480 * e.grant.rights.n)
      + e.used * (20000000000 * e.grant.rights.t + 1024 * e.grant.rights.n)
  pub used : e.used ≤ 1024 * e.grant.rights.n
  pub units : e.grant.rights.n < 2 ^ 32
  pub some : 1 ≤ e.grant.rights.n
  pub seconds : (1 ≤ e.grant.rights.t) × (e.grant.rights.t < 2 ^ 8)
  pub second : e.grant.second ≤ 2000000

abbrev pub AreNear : ℕ → List Entry → Type 0
AreNear last [] = Unit {0}
AreNear last (e ∷ es) = IsNear last e × AreNear last es

abbrev pub entry : Grant → ℕ → ℕ → ℕ → ℕ → Entry
entry grant cap nonce used end = record { grant = grant; cap = cap; nonce = nonce; used = used; end = end }

-- the entry's holder keeps the grant out
abbrev pub blocks : Entry → Grant → Bool
blocks e g = not (same_grant e.grant g) && nat_le g.second e.grant.second

-- the bytes of the grant that the entry counts
abbrev pub counted : Entry → Grant → ℕ
counted e g = if same_grant e.grant g then e.used else 0

-- the verdict on a packet that shows a grant of the flow, whose entry lives
abbrev pub living_verdict : Entry → Grant → ℕ → Verdict
living_verdict e g length =
    if blocks e g then Superseded
    else (if nat_lt (1024 * g.rights.n) (counted e g + length) then OverN else Authorised g)

-- the verdict on a packet that shows a nonce of the flow, whose entry lives
abbrev pub held_verdict : ℕ → Entry → ℕ → ℕ → Verdict
held_verdict second e nonce length =
    if not (e.nonce == nonce) then UnknownNonce
    else (if nat_le (e.grant.second + e.grant.rights.t) second then Expired
    else (if nat_lt (1024 * e.grant.rights.n) (e.used + length) then OverN else Authorised e.grant))

-- the verdict on a packet of a flow that doesn't live, where so many flows live
abbrev pub opening_verdict : ℕ → ℕ → Grant → ℕ → Verdict
opening_verdict slots count g length =
    if nat_lt (1024 * g.rights.n) length then OverN
    else (if nat_le slots count then CacheFull else Authorised g)

-- the entry after one more packet
abbrev pub renewed : Entry → Grant → ℕ → ℕ → ℕ → Entry
renewed e g cap nonce length = entry g cap nonce (counted e g + length) (e.end + credit_of length g.rights)

-- the first entry of a run
abbrev pub opened : ℕ → Grant → ℕ → ℕ → ℕ → Entry
opened now g cap nonce length = entry g cap nonce length (now + credit_of length g.rights)

-- the answer is the verdict that is wanted, and the entries that it leaves stand for what it added
abbrev pub Admits : ℕ → ℕ → List Charge → ℕ → ℕ → ℕ → Verdict → Verdict → List Entry → Type 0
Admits slots offset h now nonce length wanted answer entries =
    (answer ≡ wanted) × StandsFor (cache slots offset now entries) (h ++ charged answer now nonce length)
