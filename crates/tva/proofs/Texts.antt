-- What comes of writing a text: its answer, of each command that comes to one.
use Rattle.tva.proofs.Common.{◌≡◌, ℕ, List, ap, inr, refl, ◌∙◌, HeldByName, Load, Command, shim, Expected, Sought, comes_to, followed, plan_at, writes, shows, replays, refuses, IsText, Answers, IsBegunText, Just, OfCommand, Done, WriteFault, OutOfMemory, IsFound, IsWritten, Config}
use Rattle.tva.specs.declared.status.Status as status
use Rattle.tva.proofs.Replays.{answers_of_just}

-- a text that is to be written is one that is begun
pub begun_of_text : (x : Expected) (text : List ℕ) → IsText x text → IsBegunText x text
begun_of_text (replays plan trace) text (rows, are, has) = (rows, are, has.report)
begun_of_text (refuses r) text is = absurd is
begun_of_text _ text is = is

-- what writing a text answers
pub answers_of_written : (x : Expected) (text : List ℕ) → IsText x text → (w : Type 0) (old new : List ℕ) (s : status.Status) → IsWritten old new w text s → Answers (Just x) w old new s
answers_of_written x text is w old new Done a = (text, is, a)
answers_of_written x text is w old new WriteFault a = (a.0, (text, begun_of_text x text is, a.1))
answers_of_written x text is w old new OutOfMemory a = inr (text, begun_of_text x text is, a)
answers_of_written x text is w old new _ a = absurd a

-- a command that comes to a text of its plan
module _ (first last : List Load) (config : List ℕ) (command : Command) (text : Config → List ℕ) (w : Type 0) (old : List ℕ)
    (comes : (files : HeldByName) → comes_to command files ≡ followed (plan_at config files) (λ plan. writes (text plan))) where
  pub text_found : (plan : Config) (bytes new : List ℕ) (s : status.Status) → IsFound first last (plan_at config) plan → bytes ≡ text plan → IsWritten old new w bytes s
      → Answers (OfCommand first last command) w old new s
  text_found plan bytes new s found same a =
      answers_of_just first last command (writes (text plan)) w old new s
      (λ files agree. comes files ∙ ap (λ (p : Sought Config). followed p (λ plan. writes (text plan))) (found files agree))
      (answers_of_written (writes (text plan)) bytes same w old new s a)

-- the command that shows a shim reads nothing
pub shim_answers : (first : List Load) (bytes : List ℕ) (w : Type 0) (old new : List ℕ) (s : status.Status) → Answers (Just (shows bytes)) w old new s
    → Answers (OfCommand first first (shim bytes)) w old new s
shim_answers first bytes w old new s a = answers_of_just first first (shim bytes) (shows bytes) w old new s (λ files agree. refl) a
