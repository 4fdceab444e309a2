-- What an answer by cases says where a step gave a value or a fault.
use Rattle.tva_config_entries.proofs.Common.{◌≡◌, Result, Ok, Err, IsErrAnd, ap, sym, subst, ◌∙◌, ConfigFault, ConfigError, Read, ◌>>=◌, AnswersBy}
use Rattle.tva_config_entries.specs.declared.faults.ConfigError.TheVariants as error

-- the answer that `?` makes of a fault
pub fault_told : {A B : Type 0} (seen : B → A) (read : Read A) (answer : Result B ConfigError) (fault : ConfigFault)
    → IsErrAnd answer (λ e. e ≡ error.Fault fault) → read ≡ Err fault → AnswersBy seen read answer
fault_told seen read (Ok x) fault is due = absurd is
fault_told seen read (Err e) fault is due = subst (λ (x : ConfigError). AnswersBy seen read (Err x)) (sym is) due

-- the same of a fault whose type stays
pub fault_kept : {A : Type 0} (read answer : Read A) (fault : ConfigFault) → IsErrAnd answer (λ e. e ≡ fault) → read ≡ Err fault → answer ≡ read
fault_kept read (Ok x) fault is due = absurd is
fault_kept read (Err e) fault is due = ap Err is ∙ sym due

-- the same of an error that an earlier step told
pub error_told : {A B C D : Type 0} (seen : B → A) (read : Read A) (answer : Result B ConfigError) (step : Read C) (seen_there : D → C) (next : C → Read A) (e : ConfigError)
    → IsErrAnd answer (λ x. x ≡ e) → read ≡ (step >>= next) → AnswersBy seen_there step (Err e) → AnswersBy seen read answer
error_told seen read (Ok x) step seen_there next e is reads told = absurd is
error_told seen read (Err error.OutOfMemory) step seen_there next e is reads told = tt
error_told seen read (Err (error.Fault f)) step seen_there next e is reads told =
    let fault : step ≡ Err f = subst (λ (x : ConfigError). AnswersBy seen_there step (Err x)) (sym is) told in
    reads ∙ ap (λ r. r >>= next) fault

-- a step that gave a value, and one that gave a fault, in a chain of steps
pub given : {A B : Type 0} (r : Read A) (next : A → Read B) (x : A) → r ≡ Ok x → (r >>= next) ≡ next x
given r next x gave = ap (λ q. q >>= next) gave

pub refused : {A B : Type 0} (r : Read A) (next : A → Read B) (fault : ConfigFault) → r ≡ Err fault → (r >>= next) ≡ Err fault
refused r next fault gave = ap (λ q. q >>= next) gave

-- the answer of a last step
pub answered_there : {A B : Type 0} (seen : B → A) (read due : Read A) (answer : Result B ConfigError)
    → read ≡ due → AnswersBy seen due answer → AnswersBy seen read answer
answered_there seen read due answer same is = subst (λ r. AnswersBy seen r answer) (sym same) is

-- a fault that the code makes an error
pub fault_made : {A B : Type 0} (seen : B → A) (read : Read A) (e : ConfigError) (fault due : ConfigFault)
    → e ≡ error.Fault fault → fault ≡ due → read ≡ Err due → AnswersBy seen read (Err e)
fault_made seen read e fault due made same is = subst (λ x. AnswersBy seen read (Err x)) (sym made) (is ∙ ap Err (sym same))
