-- What holds of the charges before a place of a list.
use Rattle.tva_flow.proofs.Common.{◌≡◌, ℕ, false, List, [], ◌∷◌, ◌++◌, sym, subst, refl, append_assoc, append-nil, All, All-nil, All-cons, All-head, All-tail, Verdict, Authorised, Charge, nonce_verdict, is_authorised, charged, IsNext, AreNext, IsWithinSeconds, AreTimely}
use Rattle.tva_flow.proofs.Timely.{held-timely}

-- the charges before a place are a list that a router can have
next_front : (slots offset : ℕ) (past before rest : List Charge) → AreNext slots offset past (before ++ rest) → AreNext slots offset past before
next_front slots offset past [] rest a = tt
next_front slots offset past (c ∷ cs) rest a = (a.0, next_front slots offset (past ++ c ∷ []) cs rest a.1)

pub legal_front : (slots offset : ℕ) (before rest : List Charge) → AreNext slots offset [] (before ++ rest) → AreNext slots offset [] before
legal_front slots offset before rest a = next_front slots offset [] before rest a

-- and the charge at the place is the next one after them
next_here : (slots offset : ℕ) (past before : List Charge) (c : Charge) (rest : List Charge) → AreNext slots offset past (before ++ c ∷ rest) → IsNext slots offset (past ++ before) c
next_here slots offset past [] c rest a = subst (λ z. IsNext slots offset z c) (sym (append-nil past)) a.0
next_here slots offset past (d ∷ ds) c rest a = subst (λ z. IsNext slots offset z c) (append_assoc past (d ∷ []) ds) (next_here slots offset (past ++ d ∷ []) ds c rest a.1)

pub legal_here : (slots offset : ℕ) (before : List Charge) (c : Charge) (rest : List Charge) → AreNext slots offset [] (before ++ c ∷ rest) → IsNext slots offset before c
legal_here slots offset before c rest a = next_here slots offset [] before c rest a

pub all_front : (P : Charge → Type 0) (before rest : List Charge) → All P (before ++ rest) → All P before
all_front P [] rest a = All-nil P
all_front P (c ∷ cs) rest a = All-cons P c cs (All-head P c (cs ++ rest) a) (all_front P cs rest (All-tail P c (cs ++ rest) a))

pub timely_front : (offset : ℕ) (before rest : List Charge) → AreTimely offset (before ++ rest) → AreTimely offset before
timely_front offset before rest a = all_front (λ c. IsWithinSeconds offset c.time c.grant) before rest a

-- a charge by a nonce came in its grant's seconds where those before it did
pub timely_here : (slots offset : ℕ) (before : List Charge) (c : Charge) (rest : List Charge) → AreNext slots offset [] (before ++ c ∷ rest) → AreTimely offset before
    → nonce_verdict offset before c.time c.grant.flow c.nonce c.length ≡ Authorised c.grant → IsWithinSeconds offset c.time c.grant
timely_here slots offset before c rest a t v = held-timely offset before c.time c.grant.flow c.nonce c.length c.grant (legal_here slots offset before c rest a).order v t

-- a refusal adds no charge
pub no_charge : (r : Verdict) (now nonce bytes : ℕ) → is_authorised r ≡ false → charged r now nonce bytes ≡ []
no_charge (Authorised g) now nonce bytes h = absurd (cc)
no_charge r now nonce bytes h = refl
