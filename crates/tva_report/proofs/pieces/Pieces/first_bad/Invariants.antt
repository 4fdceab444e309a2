use Rattle.tva_report.proofs.Common.{◌≡◌, length, bad_ahead}
use Rattle.tva_report.proofs.pieces.Pieces.first_bad.Given as goal

-- no piece before those that are ahead was bad
abbrev pub invariant-loop-piece : goal.invariant-loop-piece
invariant-loop-piece l = bad_ahead l.self ≡ bad_ahead l.pieces

abbrev pub decreases-loop-piece : goal.decreases-loop-piece
decreases-loop-piece l = length l.pieces.rest
