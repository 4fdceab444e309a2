use Rattle.tva_gen.proofs.Common.{◌≡◌, ◌++◌, map, drawn_rows}
use Rattle.tva_gen.proofs.rows.put_rows.Given as goal

abbrev pub invariant-loop-left : goal.invariant-loop-left
invariant-loop-left l = l.text.items ++ drawn_rows l.horizon (map (λ h. h.now) l.hosts) l.left l.time l.words ≡ l.fn.text.items ++ drawn_rows l.horizon (map (λ h. h.now) l.hosts) l.count 0 l.fn.words

abbrev pub decreases-loop-left : goal.decreases-loop-left
decreases-loop-left l = l.left
