-- The lines of an audit, written word by word.
use Rattle.tva.proofs.Common.{◌≡◌, ℕ, List, [], ◌∷◌, ◌++◌, append_assoc, codes, decimal, join_with_byte, ended}

pub line_put : (old name g c b w t1 t2 t3 t4 t5 t6 new : List ℕ) → t1 ≡ old ++ name → t2 ≡ t1 ++ codes " grants=" ++ g → t3 ≡ t2 ++ codes " charges=" ++ c
    → t4 ≡ t3 ++ codes " bytes=" ++ b → t5 ≡ t4 ++ codes " worst=" → t6 ≡ t5 ++ w → new ≡ t6 ++ codes "\n"
    → new ≡ old ++ ended (join_with_byte 32
    (name ∷ (codes "grants=" ++ g) ∷ (codes "charges=" ++ c) ∷ (codes "bytes=" ++ b) ∷ (codes "worst=" ++ w) ∷ []))
line_put old name g c b w t1 t2 t3 t4 t5 t6 new e1 e2 e3 e4 e5 e6 e7 =
    let line : List ℕ = name ++ (codes " grants=" ++ (g ++ (codes " charges=" ++ (c ++ (codes " bytes=" ++ (b ++ (codes " worst=" ++ w))))))) in
    let all : new ≡ old ++ (line ++ codes "\n") = simp (e7, e6, e5, e4, e3, e2, e1, append_assoc) in all

-- the text of an audit, from its lines and their number
pub audit_put : (sums t1 t2 new : List ℕ) (lines : ℕ) → t1 ≡ sums → t2 ≡ t1 ++ codes "report ok lines=" ++ decimal lines
    → new ≡ t2 ++ codes "\n" → new ≡ sums ++ ended (codes "report ok lines=" ++ decimal lines)
audit_put sums t1 t2 new lines e e2 e3 = simp (e3, e2, e, append_assoc)
