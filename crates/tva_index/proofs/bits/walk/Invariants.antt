use Rattle.tva_index.proofs.Common.{◌≡◌, ℕ, ◌<◌, ◌≤◌, Some, HasKey, links_of, entries_of, link_at, entry_at, bits_past, spot}
use Rattle.tva_index.proofs.bits.walk.Given as goal

-- the steps so far lead to this place, before which no entry of the key was, and these are the bits that are left
abbrev pub invariant-loop-step : goal.invariant-loop-step
invariant-loop-step l = record {
  path : spot (links_of l.tree.places.items) l.key l._step ≡ Some l.led.at;
  link : 0 < l._step → link_at (links_of l.tree.places.items) l.led.link ≡ Some l.led.at;
  bits : l.bits ≡ bits_past l.key l._step;
  later : (p : ℕ) → HasKey l.key (entry_at (entries_of l.tree.places.items) p) → (d : ℕ) → spot (links_of l.tree.places.items) l.key d ≡ Some p → l._step ≤ d;
}
