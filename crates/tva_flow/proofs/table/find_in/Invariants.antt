use Rattle.tva_flow.proofs.Common.{◌≡◌, ℕ, ◌<◌, length, get_or, Some, None, Entry, IsUpTo, rank}
use Rattle.std.proofs.Common.{MatchOption}
use Rattle.tva_flow.proofs.table.find_in.Given as goal

-- the walk is in the bucket, and has each place of the flow still before it
abbrev pub invariant-loop-at : goal.invariant-loop-at
invariant-loop-at l = record {
  here : MatchOption l.at (Unit {0}) (λ p. get_or l.places.homes p None ≡ Some l.bucket);
  rest : (i : ℕ) (e : Entry) → i < length l.all.items → e ≡ get_or l.all.items i e → e.grant.flow ≡ l.flow → IsUpTo l.at i;
}

abbrev pub decreases-loop-at : goal.decreases-loop-at
decreases-loop-at l = rank l.at
