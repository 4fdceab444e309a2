-- Going over a list step by step.
use Rattle.tva_config_entries.proofs.Common.{◌≡◌, ◌∙◌, ◌<◌, ◌+◌, ℕ, List, [], ◌∷◌, ◌++◌, length, get_or, drop, Ok, Err, sym, ap, at_drop_more, length_push, ConfigFault, Read, ◌>>=◌, in_turn}

-- the steps from here on give what all of them give
abbrev pub Continues : {A B : Type 0} → (List B → A → Read B) → List B → List A → List A → Type 0
Continues step done rest all = in_turn step done rest ≡ in_turn step [] all

-- the next element of a list, and what is left behind it
pub next_at : {A : Type 0} (xs : List A) (i : ℕ) (x : A) → i < length xs → x ≡ get_or xs i x → drop i xs ≡ x ∷ drop (i + 1) xs
next_at xs i x within is = at_drop_more (λ l. l) xs i x within ∙ ap (λ y. y ∷ drop (i + 1) xs) (sym is)

-- a step that gives a value
pub continues_more : {A B : Type 0} (step : List B → A → Read B) (done now : List B) (rest left all : List A) (x : A) (y : B)
    → rest ≡ x ∷ left → step done x ≡ Ok y → now ≡ done ++ y ∷ [] → Continues step done rest all → Continues step now left all
continues_more step done now rest left all x y next gave pushed so_far =
    ap (λ l. in_turn step l left) pushed
    ∙ sym (ap (λ r. r >>= (λ made. in_turn step (done ++ made ∷ []) left)) gave)
    ∙ sym (ap (in_turn step done) next)
    ∙ so_far

-- a step that gives a fault
pub continues_stops : {A B : Type 0} (step : List B → A → Read B) (done : List B) (rest left all : List A) (x : A) (fault : ConfigFault)
    → rest ≡ x ∷ left → step done x ≡ Err fault → Continues step done rest all → in_turn step [] all ≡ Err fault
continues_stops step done rest left all x fault next gave so_far =
    sym so_far
    ∙ ap (in_turn step done) next
    ∙ ap (λ r. r >>= (λ made. in_turn step (done ++ made ∷ []) left)) gave

-- no step is left
pub continues_ends : {A B : Type 0} (step : List B → A → Read B) (done : List B) (rest all : List A)
    → rest ≡ [] → Continues step done rest all → in_turn step [] all ≡ Ok done
continues_ends step done rest all over so_far = sym so_far ∙ ap (in_turn step done) over

-- so many were made
pub one_longer : {A : Type 0} (done now : List A) (y : A) (n : ℕ) → now ≡ done ++ y ∷ [] → length done ≡ n → length now ≡ n + 1
one_longer done now y n pushed long = ap length pushed ∙ length_push done y ∙ ap (λ k. k + 1) long
