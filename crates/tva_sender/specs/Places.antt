-- Kit: the places of addresses, for the contracts of the functions that find and add one.
use Rattle.std.specs.Prelude.{◌≡◌, ℕ, zero, suc, true, false, ◌≤◌, nat_eq, List, [], ◌∷◌, map}
use Rattle.tva_sender.specs.declared.peer.Peer.{Peer}

-- addresses in the order of their places, and for how many more there is room
pub record Known : Type 0 where
  pub addresses : List ℕ
  pub spare : ℕ

abbrev pub known : List ℕ → ℕ → Known
known addresses spare = record { addresses = addresses; spare = spare }

-- the address has no place
abbrev pub IsNowhere : ℕ → List ℕ → Type 0
IsNowhere a [] = Unit {0}
IsNowhere a (x ∷ xs) = (nat_eq a x ≡ false) × IsNowhere a xs

-- the address stands at the place, and at none before
abbrev pub IsFirstAt : ℕ → List ℕ → ℕ → Type 0
IsFirstAt a [] i = ⊥
IsFirstAt a (x ∷ xs) zero = nat_eq a x ≡ true
IsFirstAt a (x ∷ xs) (suc i) = (nat_eq a x ≡ false) × IsFirstAt a xs i

-- the peers stand at the places of their addresses, and there is room for so many more
pub record ArePlaced (room : ℕ) (k : Known) (left : ℕ) (ps : List (ℕ × Peer)) : Type 0 where
  pub addresses : map (λ p. p.0) ps ≡ k.addresses
  pub places : room ≤ k.spare
  pub peers : room ≤ left
