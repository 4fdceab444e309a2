-- A text that is written in two pieces.
use Rattle.tva.proofs.Common.{◌≡◌, ◌≤◌, ℕ, ◌+◌, List, ◌++◌, length, take, drop, refl, sym, ap, ◌∙◌, append_assoc, arith, take-append-add, take-append_seam, take-append-drop, Rose, IsWritten, IsCut, Done, WriteFault, OutOfMemory}
use Rattle.tva.specs.declared.status.Status as status

-- a cut of the second piece is one of both
cut_of_both : (old mid new : List ℕ) (first second : List ℕ) → mid ≡ old ++ first → IsCut mid new second → IsCut old new (first ++ second)
cut_of_both old mid new first second done (n, cut) = (
  length first + n,
  cut ∙ ap (λ known. known ++ (take n second)) done
      ∙ append_assoc old first (take n second)
      ∙ ap (λ (xs : List ℕ). old ++ xs) (sym (take-append-add first second n)),
)

-- behind a piece that is written whole, how writing the rest ends is how writing both ends
pub written_both : (old mid new : List ℕ) (before between now : ℕ) (first second : List ℕ) (s : status.Status) → mid ≡ old ++ first → before ≤ between → IsWritten mid new (Rose between now) second s → IsWritten old new (Rose before now) (first ++ second) s
written_both old mid new before between now first second Done done later w =
    w ∙ ap (λ known. known ++ second) done ∙ append_assoc old first second
written_both old mid new before between now first second WriteFault done later w = (omega (arith, w.0, later), cut_of_both old mid new first second done w.1)
written_both old mid new before between now first second OutOfMemory done later w = cut_of_both old mid new first second done w
written_both old mid new before between now first second _ done later w = absurd w

-- the first bytes of a text are the first bytes of a longer one
pub cut_of_longer : (old new : List ℕ) (text rest : List ℕ) → IsCut old new text → IsCut old new (text ++ rest)
cut_of_longer old new text rest (n, cut) =
    let front = take n text in (
      length front,
      cut ∙ ap (λ (xs : List ℕ). old ++ xs) (sym (
          ap (take (length front)) (ap (λ xs. xs ++ rest) (sym (take-append-drop n text)) ∙ append_assoc front (drop n text) rest)
          ∙ take-append_seam front (drop n text ++ rest))),
    )

-- a first piece that isn't written whole ends the writing of both
pub stopped_first : (old new : List ℕ) (rose : Type 0) (first second : List ℕ) (s : status.Status) → (s ≡ Done → ⊥) → IsWritten old new rose first s → IsWritten old new rose (first ++ second) s
stopped_first old new rose first second Done not_done w = absurd (not_done refl)
stopped_first old new rose first second WriteFault not_done w = (w.0, cut_of_longer old new first second w.1)
stopped_first old new rose first second OutOfMemory not_done w = cut_of_longer old new first second w
stopped_first old new rose first second _ not_done w = absurd w
