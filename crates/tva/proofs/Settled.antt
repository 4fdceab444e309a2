-- How a run ends where nothing fails.
use Rattle.tva.proofs.Common.{◌≡◌, inl, inr, ℕ, List, ◌++◌, refl, sym, subst, Finding, Load, Command, Expected, comes_to, writes, shows, replays, audits, refuses, Ends, IsText, Answers, HasFound, IsBegunText, OfCommand, WroteLines, all_of, Settles, SettlesRefusal, Done, Usage, WriteFault, EventLimit, OutOfMemory}
use Rattle.tva.specs.declared.status.Status as status
use Rattle.tva.specs.declared.status.Status.TheVariants.{Found as Differs}

-- what has a text ends with all of it
ends_with_text : (x : Expected) (text : List ℕ) → IsText x text → Ends Done x
ends_with_text (writes whole) text is = refl
ends_with_text (shows bytes) text is = refl
ends_with_text (replays plan trace) text (rows, are, has) = (rows, are, (text, has))
ends_with_text (audits plan trace report) text (rows, are, has, sums, are_sums, same) = (rows, are, has)
ends_with_text (refuses r) text is = absurd is

ends_refused : (r : status.Status) (x : Expected) → x ≡ refuses r → Ends r x
ends_refused r x is = subst (λ (y : Expected). Ends r y) (sym is) refl

-- what is cut short ends with the event limit
ends_at_limit : (most : ℕ) (old new : List ℕ) (x : Expected) → WroteLines most old new x → Ends (EventLimit most) x
ends_at_limit most old new (replays plan trace) (rows, are, (same, (text, short, w))) =
    (rows, are, (same, record { until = short.until; told = all_of short.shown ++ short.passing; events = short.events; more = short.more }))
ends_at_limit most old new (audits plan trace report) (rows, are, same, past, kept) = (rows, are, (same, past))
ends_at_limit most old new _ l = absurd l

-- an audit that found a line ends with it
ends_found : (f : Finding) (x : Expected) → HasFound f x → Ends (Differs f) x
ends_found f (audits plan trace report) h = h
ends_found f _ h = absurd h

-- a run that answers so ends as it is to, where the sink's count didn't rise
pub settles_of_answer : (first last : List Load) (command : Command) (w : Type 0) (old new : List ℕ) (s : status.Status) → Answers (OfCommand first last command) w old new s → (w → ⊥)
    → OfCommand first last command (Settles s)
settles_of_answer first last command w old new Done a unfailed = λ files agree. let text = a files agree in inl (ends_with_text (comes_to command files) text.0 text.1)
settles_of_answer first last command w old new Usage a unfailed = absurd a
settles_of_answer first last command w old new (Differs f) a unfailed = λ files agree. inl (ends_found f (comes_to command files) (a.0 files agree))
settles_of_answer first last command w old new WriteFault a unfailed = absurd (unfailed a.0)
settles_of_answer first last command w old new (EventLimit m) a unfailed = λ files agree. inl (ends_at_limit m old new (comes_to command files) (a files agree).0)
settles_of_answer first last command w old new OutOfMemory a unfailed = λ files agree. inr refl
settles_of_answer first last command w old new s a unfailed = λ files agree. inl (ends_refused s (comes_to command files) (a.0 files agree))

-- what has a text, or one that is begun, is no refusal of what is read
refusal_of_begun : (s : status.Status) (x : Expected) (text : List ℕ) → IsBegunText x text → SettlesRefusal s x
refusal_of_begun s (refuses r) text is = absurd is
refusal_of_begun s _ text is = tt

refusal_of_text : (s : status.Status) (x : Expected) (text : List ℕ) → IsText x text → SettlesRefusal s x
refusal_of_text s (refuses r) text is = absurd is
refusal_of_text s _ text is = tt

refusal_of_settled : (s : status.Status) (x : Expected) → Settles s x → SettlesRefusal s x
refusal_of_settled s (refuses r) e = e
refusal_of_settled s _ e = tt

-- the same for refusals of what is read
pub refusal_of_answer : (first last : List Load) (command : Command) (w : Type 0) (old new : List ℕ) (s : status.Status) → Answers (OfCommand first last command) w old new s
    → OfCommand first last command (SettlesRefusal s)
refusal_of_answer first last command w old new Done a = λ files agree. let text = a files agree in refusal_of_text Done (comes_to command files) text.0 text.1
refusal_of_answer first last command w old new Usage a = absurd a
refusal_of_answer first last command w old new (Differs f) a = λ files agree. refusal_of_settled (Differs f) (comes_to command files) (inl (ends_found f (comes_to command files) (a.0 files agree)))
refusal_of_answer first last command w old new WriteFault a = λ files agree. let text = a.1 files agree in refusal_of_begun WriteFault (comes_to command files) text.0 text.1
refusal_of_answer first last command w old new (EventLimit m) a = λ files agree. refusal_of_settled (EventLimit m) (comes_to command files) (inl (ends_at_limit m old new (comes_to command files) (a files agree).0))
refusal_of_answer first last command w old new OutOfMemory a = λ files agree. refusal_of_settled OutOfMemory (comes_to command files) (inr refl)
refusal_of_answer first last command w old new s a = λ files agree. refusal_of_settled s (comes_to command files) (inl (ends_refused s (comes_to command files) (a.0 files agree)))
