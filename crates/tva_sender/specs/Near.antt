-- Kit: the bounds on what a sender keeps of its peers, for the invariant of its model.
use Rattle.std.specs.Prelude.{ℕ, nat_eq, List}
use Rattle.std.specs.{Map.lookup, Option.ForSome}
use Rattle.tva_sender.specs.{declared.peer.Peer.Peer, Steps.IsNearPeer}

abbrev pub AreNear : ℕ → List (ℕ × Peer) → Type 0
AreNear last peers = (q : ℕ) → ForSome (lookup (nat_eq q) peers) (λ p. IsNearPeer last p)
