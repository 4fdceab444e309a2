-- Product: what a sender keeps, and for which history it stands.
use Rattle.std.specs.Prelude.{◌≡◌, ℕ, Bool, nat_eq, ◌==◌, if◌then◌else◌, not, List, [], ◌∷◌, Option, Some, None, is_some}
use Rattle.std.specs.Map.{lookup}
use Rattle.tva_base.specs.declared.addresses.Address.{Address}
use Rattle.tva_sender.specs.{declared.peer.Peer.Peer, Played.IsPlayed, Played.NoneLater}
use Rattle.tva_sender.specs.Contacts.{Contact, last_ask, held_grant, asked_at, awaits, grant_held}

-- its rules, the number of peers that it has room for, the last time, and its peers
pub record Book : Type 0 where
  pub margin : ℕ
  pub retry : ℕ
  pub version : ℕ
  pub spare : ℕ
  pub last : ℕ
  pub peers : List (ℕ × Peer)

-- at the beginning, without peers and without room
abbrev pub empty_book : ℕ → ℕ → ℕ → Book
empty_book margin retry version =
    record { margin = margin; retry = retry; version = version; spare = 0; last = 0; peers = [] }

abbrev pub peer_at : Address → List (ℕ × Peer) → Option Peer
peer_at a peers = lookup (nat_eq a.0) peers

-- the peer is known
abbrev pub knows : Book → Address → Bool
knows v a = is_some (peer_at a v.peers)

-- what happened with one peer, among what happened with all
abbrev pub of_peer : Address → List (Address × Contact) → List Contact
of_peer a [] = []
of_peer a (c ∷ cs) = if a.0 == c.0.0 then c.1 ∷ of_peer a cs else of_peer a cs

-- what is kept of a peer is by what happened with it: the last ask, whether that is answered, and
-- the grant that is held
pub record Keeps (p : Peer) (h : List Contact) : Type 0 where
  pub asked : asked_at h ≡ Some p.asked
  pub awaits : awaits h ≡ not p.is_answered
  pub grant : grant_held h ≡ p.grant

-- with a peer that isn't known there was no ask and no grant
pub record IsStrange (h : List Contact) : Type 0 where
  pub asked : last_ask h ≡ None
  pub grant : held_grant h ≡ None

abbrev pub IsKept : Option Peer → List Contact → Type 0
IsKept None h = IsStrange h
IsKept (Some p) h = Keeps p h

-- each peer is kept by what happened with it, which a sender with these rules can have, and no packet
-- was prepared later than the last time
pub record StandsFor (v : Book) (h : List (Address × Contact)) : Type 0 where
  pub kept : (a : Address) → IsKept (peer_at a v.peers) (of_peer a h)
  pub played : (a : Address) → IsPlayed v.margin v.retry v.version (of_peer a h)
  pub times : (a : Address) → NoneLater v.last (of_peer a h)
