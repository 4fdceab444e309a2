-- On every status, what is written is the first bytes of a text that is to be written.
use Rattle.tva.proofs.Common.{◌≡◌, ◌⊎◌, ℕ, List, IfSome, None, Some, ap, inl, inr, refl, subst, IsSomeAnd, HeldByName, option_map, Option, Load, Command, command_of, OfWanted, wanted, AgreeSince, Expected, comes_to, refuses, Answers, OfCommand, WroteAll, WrotePart, Done, Usage, WriteFault, EventLimit, OutOfMemory}
use Rattle.tva.specs.declared.status.Status as status
use Rattle.tva.proofs.Replays.{cut_of_whole}
use Rattle.tva.proofs.Texts.{begun_of_text}

part_of_all : (old new : List ℕ) (x : Expected) → WroteAll old new x → WrotePart old new x
part_of_all old new x (text, is, w) = inr (text, begun_of_text x text is, cut_of_whole old new text w)

-- what an answer has written, whichever it is
pub part_of_answer : (first last : List Load) (command : Command) (w : Type 0) (old new : List ℕ) (s : status.Status) → Answers (OfCommand first last command) w old new s
    → OfCommand first last command (WrotePart old new)
part_of_answer first last command w old new Done a = λ files agree. part_of_all old new (comes_to command files) (a files agree)
part_of_answer first last command w old new Usage a = absurd a
part_of_answer first last command w old new WriteFault a = λ files agree. inr (a.1 files agree)
part_of_answer first last command w old new (EventLimit m) a = λ files agree. (a files agree).1
part_of_answer first last command w old new OutOfMemory a = a
part_of_answer first last command w old new _ a = λ files agree. inl a.1

-- what holds of a command holds of the words that are it
pub of_words : (first last : List Load) (words : List (List ℕ)) (command : Command) (holds : Expected → Type 0) → Some command ≡ command_of words
    → OfCommand first last command holds → OfWanted first last words holds
of_words first last words command holds is h files agree =
    subst (λ (c : Option Command). IfSome (option_map (λ command. comes_to command files) c) holds) is (h files agree)

-- and of words that are none, whatever it is
pub of_no_words : (first last : List Load) (words : List (List ℕ)) (holds : Expected → Type 0) → None ≡ command_of words → OfWanted first last words holds
of_no_words first last words holds is files agree =
    subst (λ (c : Option Command). IfSome (option_map (λ command. comes_to command files) c) holds) is tt

-- an answer at another name of its status
pub at_status : (first last : List Load) (command : Command) (w : Type 0) (old new : List ℕ) (s t : status.Status) → s ≡ t
    → Answers (OfCommand first last command) w old new s → Answers (OfCommand first last command) w old new t
at_status first last command w old new s t same a = subst (λ (u : status.Status). Answers (OfCommand first last command) w old new u) same a

told_of : (files : HeldByName) (c : Option Command) (r : status.Status) → (c ≡ None → ⊥) → IfSome (option_map (λ command. comes_to command files) c) (λ x. x ≡ refuses r)
    → option_map (λ command. comes_to command files) c ≡ Some (refuses r)
told_of files None r some h = absurd (some refl)
told_of files (Some c) r some h = ap Some h

-- files over which words come to a refusal, where the shelf tells that it holds them
pub missing_held : (held : Option HeldByName) (first last : List Load) (words : List (List ℕ)) (rose : Type 0) (r : status.Status) → (command_of words ≡ None → ⊥)
    → rose ⊎ IsSomeAnd held (AgreeSince first last) → OfWanted first last words (λ x. x ≡ refuses r)
    → rose ⊎ IsSomeAnd held (λ files. wanted files words ≡ Some (refuses r))
missing_held held first last words rose r some (inl up) h = inl up
missing_held None first last words rose r some (inr there) h = absurd there
missing_held (Some files) first last words rose r some (inr agree) h = inr (told_of files (command_of words) r some (h files agree))
