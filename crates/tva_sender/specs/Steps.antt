-- Kit: what one more contact makes of a peer, for the code within the crate.
use Rattle.std.specs.Prelude.{ℕ, true, false, not, ◌+◌, ◌*◌, ◌^◌, ◌<◌, ◌≤◌, max, ◌==◌, ◌&&◌, if◌then◌else◌, List, Option, Some, None, unwrap_or}
use Rattle.std.specs.Option.{ForSome}
use Rattle.tva_base.specs.{declared.packet.Rights.Rights, declared.packet.Time.Time, Credit.credit_of}
use Rattle.tva_sender.specs.declared.{shape.Shape.Shape, grant.Grant.Grant, peer.Peer.Peer}
use Rattle.tva_sender.specs.{Contacts.time, Contacts.asks, Shapes.list_length, Shapes.nonce_length}
use Rattle.tva_sender.specs.declared.shape.Shape.TheVariants as shape

-- a grant as it is taken
abbrev pub taken_grant : Rights → List ℕ → Time → Grant
taken_grant rights caps asked =
    record { rights = rights; caps = caps; nonce = None; asked = asked; used = 0; life = 0; notices = 0 }

-- a grant after a packet that used it
abbrev pub charged : Grant → ℕ → ℕ → ℕ → Grant
charged g now bytes nonce = record g {
  nonce = Some (unwrap_or g.nonce nonce);
  used = g.used + bytes;
  life = max g.life now + credit_of bytes g.rights;
}

-- a grant after a packet in that shape
abbrev pub used_by : ℕ → Grant → ℕ → Shape → ℕ → Grant
used_by version g now shape.Request body = g
used_by version g now (shape.List held) body = charged g now (list_length version held.caps body) held.nonce
used_by version g now (shape.NonceOnly nonce) body = charged g now (nonce_length body) nonce
used_by version g now (shape.Renewal held) body = charged g now (list_length version held.caps body) held.nonce
used_by version g now shape.Legacy body = g

abbrev pub grant_used_by : ℕ → Option Grant → ℕ → Shape → ℕ → Option Grant
grant_used_by version None now s body = None
grant_used_by version (Some g) now s body = Some (used_by version g now s body)

-- a peer after a packet in that shape
abbrev pub prepared : ℕ → Peer → ℕ → Shape → ℕ → Peer
prepared version p now s body = record {
  asked = if asks s then time now else p.asked;
  is_answered = not (asks s) && p.is_answered;
  grant = grant_used_by version p.grant now s body;
}

-- a peer after its grant was taken
abbrev pub answered : Peer → Rights → List ℕ → Peer
answered p rights caps = record { asked = p.asked; is_answered = true; grant = Some (taken_grant rights caps p.asked) }

-- a grant after a notice: the second one gives it up
abbrev pub noticed : Option Grant → Option Grant
noticed None = None
noticed (Some g) = if g.notices == 0 then Some (record g { life = 0; notices = 1 }) else None

-- the ask isn't later than the last time, the life is not far past it, and the bytes are within
-- the grant
pub record IsNear (last : ℕ) (g : Grant) : Type 0 where
  pub asked : g.asked.0 ≤ last
  pub life : g.life ≤ last + g.used * 2 ^ 38
  pub used : g.used ≤ 1024 * g.rights.n
  pub rights : (g.rights.n < 2 ^ 32) × (g.rights.t < 2 ^ 8)

-- so is the grant of a peer, where it has one, and its last ask
pub record IsNearPeer (last : ℕ) (p : Peer) : Type 0 where
  pub asked : p.asked.0 ≤ last
  pub grant : ForSome p.grant (λ g. IsNear last g)

-- a peer after the first packet, a request
abbrev pub first_asked : Time → Peer
first_asked now = record { asked = now; is_answered = false; grant = None }
