-- Kit: when the path of a host's packets is steady at a router, by miles.
use Rattle.std.specs.Prelude.{◌≡◌, ℕ, ◌+◌, ◌<◌, ◌≤◌, nat_le, Bool, true, false, List, [], ◌∷◌, ◌++◌, filter, Some, None, IfSome, IsSomeAnd}
use Rattle.std.specs.Option.{option_map}
use Rattle.tva_base.specs.declared.packet.Flow.{Flow}
use Rattle.tva_base.specs.declared.packet.Grant.{Grant}
use Rattle.tva_base.specs.declared.packet.Rights.{Rights}
use Rattle.tva_base.specs.Clock.{router_second}
use Rattle.tva_base.specs.Versions.{AreSomeRights}
use Rattle.tva_caps.specs.declared.minters.Checked.{Checked}
use Rattle.tva_caps.specs.declared.minters.Checked.TheVariants.{Valid}
use Rattle.tva_caps.specs.Formula.{precap_of, capability_of}
use Rattle.tva_caps.specs.Check.{check_of}
use Rattle.tva_flow.specs.declared.verdicts.Verdict.TheVariants.{Authorised}
use Rattle.tva_flow.specs.Charges.{Charge, of_flow, last_charge, holder, lives, living_count}
use Rattle.tva_flow.specs.Verdicts.{list_verdict, nonce_verdict}
use Rattle.tva_sender.specs.declared.shape.Shape.{Shape}
use Rattle.tva_sender.specs.declared.shape.Shape.TheVariants as shape
use Rattle.tva_sender.specs.Contacts.{Prepared, asked_at, uses_in}
use Rattle.tva_sender.specs.Played.{IsPlayed}
use Rattle.tva_laws.specs.Miles.{Mile, Went, Got, Told, contacts, charges_in, last_came, last_got, since_got, since_notified}

-- a sender's margin and retry in nanoseconds and the version of its shims, the least delay to the router in
-- nanoseconds, the flow, and the router's master, the nanoseconds that its clock is ahead and its slots
pub record Way : Type 0 where
  pub margin : ℕ
  pub retry : ℕ
  pub version : ℕ
  pub delay : ℕ
  pub flow : Flow
  pub master : List ℕ
  pub offset : ℕ
  pub slots : ℕ

-- a packet that was sent at a time comes to the router within the margin
pub record ComesIn (w : Way) (sent at : ℕ) : Type 0 where
  pub from : sent + w.delay ≤ at
  pub until : at ≤ sent + w.delay + w.margin

-- the grant of rights whose ask came to the router at a time
abbrev pub grant_at : Way → Rights → ℕ → Grant
grant_at w rights came = record { flow = w.flow; rights = rights; second = router_second w.offset came }

-- what the router answers at a time to the capability that it minted for that ask
abbrev pub checked : Way → Rights → ℕ → ℕ → Checked
checked w rights came at =
    check_of w.master (router_second w.offset at) w.flow
    (capability_of (precap_of w.master w.flow (router_second w.offset came)) rights) rights

-- a list is charged by the check of what it shows, the capability of the last grant before it; a nonce
-- alone is charged to the holder, the grant of the flow's last charge
abbrev pub IsShown : Way → List Mile → Shape → Charge → Type 0
IsShown w before shape.Request c = ⊥
IsShown w before (shape.List held) c =
    (c.nonce ≡ held.nonce) × IfSome (last_came before) (λ came. checked w held.rights came c.time ≡ Valid c.grant)
IsShown w before (shape.NonceOnly nonce) c =
    (c.nonce ≡ nonce) × (option_map (λ d. d.grant) (last_charge (charges_in before)) ≡ Some c.grant)
IsShown w before (shape.Renewal held) c =
    (c.nonce ≡ held.nonce) × IfSome (last_came before) (λ came. checked w held.rights came c.time ≡ Valid c.grant)
IsShown w before shape.Legacy c = ⊥

-- a packet of the flow was charged when it came, behind the ask of the last grant before it
pub record IsPaid (w : Way) (before : List Mile) (sent : ℕ) (s : Shape) (bytes : ℕ) (c : Charge) : Type 0 where
  pub comes : ComesIn w sent c.time
  pub behind : IfSome (last_came before) (λ came. came ≤ c.time)
  pub length : c.length ≡ bytes
  pub shown : IsShown w before s c

-- what a mile may be after those before it: a grant's last ask came within the margin, and a shim can
-- carry its rights
abbrev pub IsMile : Way → List Mile → Mile → Type 0
IsMile w before (Went sent s bytes None) = Unit {0}
IsMile w before (Went sent s bytes (Some c)) = IsPaid w before sent s bytes c
IsMile w before (Got rights caps came) =
    AreSomeRights rights × IfSome (asked_at (contacts before)) (λ asked. ComesIn w asked.0 came)
IsMile w before Told = Unit {0}

abbrev pub AreMiles : Way → List Mile → List Mile → Type 0
AreMiles w before [] = Unit {0}
AreMiles w before (m ∷ ms) = IsMile w before m × AreMiles w (before ++ m ∷ []) ms

-- each packet that shows a grant was authorised
abbrev pub IsAuthorisedMile : Mile → Type 0
IsAuthorisedMile (Went sent s bytes None) = uses_in (Prepared sent s bytes) ≡ []
IsAuthorisedMile (Went sent s bytes (Some c)) = Unit {0}
IsAuthorisedMile (Got rights caps came) = Unit {0}
IsAuthorisedMile Told = Unit {0}

abbrev pub AreAuthorised : List Mile → Type 0
AreAuthorised [] = Unit {0}
AreAuthorised (m ∷ ms) = IsAuthorisedMile m × AreAuthorised ms

-- a charge is of no earlier second than an ask that came at a time
abbrev pub is_since : Way → ℕ → Charge → Bool
is_since w came c = nat_le (router_second w.offset came) c.grant.second

-- a nonce alone is known: those packets that count for the life of its grant were authorised, and the last charge of
-- the flow is of no earlier second
pub record IsKnown (w : Way) (h : List Charge) (ms : List Mile) (came : ℕ) : Type 0 where
  pub authorised : AreAuthorised (since_notified (since_got [] ms))
  pub held : IfSome (holder h w.flow) (λ c. is_since w came c ≡ true)

-- that holds of a nonce alone
abbrev pub OfNonce : Shape → Type 0 → Type 0
OfNonce shape.Request P = Unit {0}
OfNonce (shape.List held) P = Unit {0}
OfNonce (shape.NonceOnly nonce) P = P
OfNonce (shape.Renewal held) P = Unit {0}
OfNonce shape.Legacy P = Unit {0}

-- The path is steady up to a packet that was sent in a shape and of a length, and comes at a time to the
-- router, which charged so much before.
pub record IsSteady (w : Way) (h : List Charge) (ms : List Mile) (sent : ℕ) (s : Shape) (bytes at : ℕ) : Type 0 where
  -- the sender keeps to its rules with this peer, up to the packet
  pub rules : 1000000000 + w.margin ≤ w.retry
  pub played : IsPlayed w.margin w.retry w.version (contacts ms ++ Prepared sent s bytes ∷ [])
  -- but for charges of earlier seconds all charges of the flow are of its packets under the last grant, in the order in
  -- which they were prepared
  pub miles : AreMiles w [] ms
  pub charges : IfSome (last_came ms) (λ came. filter (is_since w came) (of_flow w.flow h) ≡ charges_in ms)
  -- the packet comes within the margin, behind the ask of its grant
  pub comes : ComesIn w sent at
  pub behind : IfSome (last_came ms) (λ came. came ≤ at)
  -- a nonce alone is known
  pub nonce : OfNonce s (IfSome (last_came ms) (λ came. IsKnown w h ms came))
  -- where the flow doesn't live, the cache has room
  pub room : lives h w.flow at ≡ false → living_count h at < w.slots

-- The path is steady in narrower words: all charges of the flow are of its packets, and those that show the last grant were
-- authorised.
pub record IsNarrow (w : Way) (h : List Charge) (ms : List Mile) (sent : ℕ) (s : Shape) (bytes at : ℕ) : Type 0 where
  pub rules : 1000000000 + w.margin ≤ w.retry
  pub played : IsPlayed w.margin w.retry w.version (contacts ms ++ Prepared sent s bytes ∷ [])
  pub miles : AreMiles w [] ms
  pub charges : of_flow w.flow h ≡ charges_in ms
  pub comes : ComesIn w sent at
  pub behind : IfSome (last_came ms) (λ came. came ≤ at)
  pub authorised : AreAuthorised (since_got [] ms)
  pub room : lives h w.flow at ≡ false → living_count h at < w.slots

-- a list is taken: it shows the rights that were granted last, its capability is valid, and that grant authorises it
pub record IsListTaken (w : Way) (h : List Charge) (miles : List Mile) (rights : Rights) (came bytes at : ℕ) : Type 0 where
  pub last : last_got miles ≡ Some rights
  pub valid : checked w rights came at ≡ Valid (grant_at w rights came)
  pub verdict : list_verdict w.slots h at (grant_at w rights came) bytes ≡ Authorised (grant_at w rights came)

-- a nonce alone is taken, by the grant of the rights that were granted last
pub record IsNonceTaken (w : Way) (h : List Charge) (miles : List Mile) (nonce : ℕ) (came bytes at : ℕ) : Type 0 where
  pub rights : Rights
  pub last : last_got miles ≡ Some rights
  pub verdict : nonce_verdict w.offset h at w.flow nonce bytes ≡ Authorised (grant_at w rights came)

-- the router authorises what shows a grant, by the ask of the last grant that was taken
abbrev pub IsTaken : Way → List Charge → List Mile → Shape → ℕ → ℕ → Type 0
IsTaken w h miles shape.Request bytes at = Unit {0}
IsTaken w h miles (shape.List held) bytes at =
    IsSomeAnd (last_came miles) (λ came. IsListTaken w h miles held.rights came bytes at)
IsTaken w h miles (shape.NonceOnly nonce) bytes at =
    IsSomeAnd (last_came miles) (λ came. IsNonceTaken w h miles nonce came bytes at)
IsTaken w h miles (shape.Renewal held) bytes at =
    IsSomeAnd (last_came miles) (λ came. IsListTaken w h miles held.rights came bytes at)
IsTaken w h miles shape.Legacy bytes at = Unit {0}
