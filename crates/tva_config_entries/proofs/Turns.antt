-- What steps in turn keep and leave.
use Rattle.tva_config_entries.proofs.Common.{◌≡◌, ◌<◌, ◌+◌, ℕ, zero, suc, Bool, true, false, List, [], ◌∷◌, ◌++◌, length, get_or, map, Ok, Err, Option, Some, None, All, Contains, inl, inr, refl, ap, sym, ◌∙◌, subst, append_assoc, append-nil, arith, length-append, Contains-append_cases, All-append, All-nil, AreDistinct, ConfigFault, Read, ◌>>=◌, unless, found, in_turn, IfOk}

-- the first of two steps that gave a value
pub first_gave : {A B : Type 0} (r : Read A) (next : A → Read B) (y : B) → (r >>= next) ≡ Ok y → (x : A) × (r ≡ Ok x) × (next x ≡ Ok y)
first_gave (Ok x) next y gave = (x, refl, gave)
first_gave (Err fault) next y gave = absurd (cc)

-- the same, for a chain of steps: each value is a variable where the next step is looked at
pub when_gave : {A B : Type 0} (P : B → Type 0) (r : Read A) (next : A → Read B) (y : B)
    → (r >>= next) ≡ Ok y → ((x : A) → r ≡ Ok x → next x ≡ Ok y → P y) → P y
when_gave P (Ok x) next y gave go = go x refl gave
when_gave P (Err fault) next y gave go = absurd (cc)

-- what is known of a value that a step gave
pub if_gave : {A : Type 0} (r : Read A) (P : A → Type 0) → ((x : A) → r ≡ Ok x → P x) → IfOk r P
if_gave (Ok x) P known = known x refl
if_gave (Err fault) P known = tt

-- what a step gave is one value
abbrev is_given : {A : Type 0} → A → Read A → Type 0
is_given x (Ok y) = x ≡ y
is_given x (Err fault) = ⊥

pub gave_one : {A : Type 0} (x y : A) → ◌≡◌ {A = Read A} (Ok x) (Ok y) → x ≡ y
gave_one x y is = subst (is_given x) is refl

pub unless_gave : (broken : Bool) (fault : ConfigFault) (u : Unit {0}) → unless broken fault ≡ Ok u → broken ≡ false
unless_gave true fault u gave = absurd (cc)
unless_gave false fault u gave = refl

pub found_gave : {A : Type 0} (o : Option A) (fault : ConfigFault) (x : A) → found o fault ≡ Ok x → o ≡ Some x
found_gave None fault x gave = absurd (cc)
found_gave (Some y) fault x gave = cc

keeps_next : {A B : Type 0} (P : List B → Type 0) (step : List B → A → Read B) (done : List B) (x : A) (xs : List A) (ys : List B)
    → ((y : B) → step done x ≡ Ok y → in_turn step (done ++ y ∷ []) xs ≡ Ok ys → P ys)
    → in_turn step done (x ∷ xs) ≡ Ok ys → P ys
keeps_next P step done x xs ys go gave =
    let (y, made, rest) = first_gave (step done x) (λ y. in_turn step (done ++ y ∷ []) xs) ys gave in
    go y made rest

-- what each step keeps of the list so far holds at the end
pub in_turn_keeps : {A B : Type 0} (P : List B → Type 0) (step : List B → A → Read B)
    → ((done : List B) (x : A) (y : B) → P done → step done x ≡ Ok y → P (done ++ y ∷ []))
    → (done : List B) (xs : List A) (ys : List B) → P done → in_turn step done xs ≡ Ok ys → P ys
in_turn_keeps P step more done [] ys holds gave = let same : done ≡ ys = cc in subst P same holds
in_turn_keeps P step more done (x ∷ xs) ys holds gave =
    keeps_next P step done x xs ys (λ y made rest. in_turn_keeps P step more (done ++ y ∷ []) xs ys (more done x y holds made) rest) gave

-- the same where something is known of each element
pub in_turn_keeps_of : {A B : Type 0} (Q : A → Type 0) (P : List B → Type 0) (step : List B → A → Read B)
    → ((done : List B) (x : A) (y : B) → Q x → P done → step done x ≡ Ok y → P (done ++ y ∷ []))
    → (done : List B) (xs : List A) (ys : List B) → All Q xs → P done → in_turn step done xs ≡ Ok ys → P ys
in_turn_keeps_of Q P step more done [] ys known holds gave = let same : done ≡ ys = cc in subst P same holds
in_turn_keeps_of Q P step more done (x ∷ xs) ys known holds gave =
    keeps_next P step done x xs ys (λ y made rest. in_turn_keeps_of Q P step more (done ++ y ∷ []) xs ys (λ k d within. known (suc k) d (omega arith)) (more done x y (known 0 x (omega arith)) holds made) rest) gave

-- each step gives one element
pub in_turn_long : {A B : Type 0} (step : List B → A → Read B) (done : List B) (xs : List A) (ys : List B)
    → in_turn step done xs ≡ Ok ys → length ys ≡ length done + length xs
in_turn_long step done [] ys gave = let same : done ≡ ys = cc in subst (λ zs. length zs ≡ length done + 0) same (omega arith)
in_turn_long step done (x ∷ xs) ys gave =
    let (y, made, rest) = first_gave (step done x) (λ y. in_turn step (done ++ y ∷ []) xs) ys gave in
    let more = in_turn_long step (done ++ y ∷ []) xs ys rest in
    let pushed = length-append done (y ∷ []) in
    omega (arith, more, pushed)

-- steps whose results are known beforehand
pub in_turn_maps : {A B : Type 0} (f : A → B) (step : List B → A → Read B)
    → ((done : List B) (x : A) (y : B) → step done x ≡ Ok y → y ≡ f x)
    → (done : List B) (xs : List A) (ys : List B) → in_turn step done xs ≡ Ok ys → done ++ map f xs ≡ ys
in_turn_maps f step is done [] ys gave = append-nil done ∙ (let same : done ≡ ys = cc in same)
in_turn_maps f step is done (x ∷ xs) ys gave =
    let (y, made, rest) = first_gave (step done x) (λ y. in_turn step (done ++ y ∷ []) xs) ys gave in
    sym (append_assoc done (f x ∷ []) (map f xs))
    ∙ ap (λ z. (done ++ z ∷ []) ++ map f xs) (sym (is done x y made))
    ∙ in_turn_maps f step is (done ++ y ∷ []) xs ys rest

all_cons_at : {A : Type 0} (P : A → Type 0) (x : A) (xs : List A) → P x → All P xs → (k : ℕ) (d : A) → k < length (x ∷ xs) → P (get_or (x ∷ xs) k d)
all_cons_at P x xs here more zero d within = here
all_cons_at P x xs here more (suc k) d within = more k d (omega arith)

pub all_cons : {A : Type 0} (P : A → Type 0) (x : A) (xs : List A) → P x → All P xs → All P (x ∷ xs)
all_cons P x xs here more = all_cons_at P x xs here more

-- what each step shows of its element holds of all
pub in_turn_shows : {A B : Type 0} (P : A → Type 0) (step : List B → A → Read B)
    → ((done : List B) (x : A) (y : B) → step done x ≡ Ok y → P x)
    → (done : List B) (xs : List A) (ys : List B) → in_turn step done xs ≡ Ok ys → All P xs
in_turn_shows P step shows done [] ys gave = λ k d within. absurd (omega arith)
in_turn_shows P step shows done (x ∷ xs) ys gave =
    let (y, made, rest) = first_gave (step done x) (λ y. in_turn step (done ++ y ∷ []) xs) ys gave in
    all_cons P x xs (shows done x y made) (in_turn_shows P step shows (done ++ y ∷ []) xs ys rest)

-- one more element that isn't there
not_in_one : {A : Type 0} (x y : A) → Contains (x ∷ []) y → x ≡ y
not_in_one x y (zero, within, is) = is
not_in_one x y (suc k, within, is) = absurd (omega arith)

pub distinct_push : {A : Type 0} (xs : List A) (x : A) → AreDistinct xs → (Contains xs x → ⊥) → AreDistinct (xs ++ x ∷ [])
distinct_push [] x distinct new = (λ (k, within, is). absurd (omega arith), tt)
distinct_push (y ∷ ys) x distinct new = (
  (λ both. elim (Contains-append_cases ys (x ∷ []) y both) [
    | inl within ↦ distinct.0 within
    | inr last ↦ new (0, omega arith, sym (not_in_one x y last))
  ]),
  distinct_push ys x distinct.1 (λ (k, within, is). new (suc k, omega arith, is)),
)

-- one more element of which P holds
pub all_push : {A : Type 0} (P : A → Type 0) (xs : List A) (x : A) → All P xs → P x → All P (xs ++ x ∷ [])
all_push P xs x all here = All-append P xs (x ∷ []) all (all_cons P x [] here (All-nil P))
