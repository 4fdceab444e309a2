-- What each answer adds came in its grant's seconds.
use Rattle.tva_flow.proofs.Common.{◌≡◌, ℕ, ◌+◌, ◌<◌, ◌≤◌, List, [], ◌∷◌, ◌++◌, Some, refl, sym, ◌∙◌, subst, arith, append-nil, All, All-head, All-tail, All-push, All-filter, Flow, Grant, router_second, Verdict, Authorised, Charge, charge, same_flow, of_flow, last_or, last_charge, list_verdict, nonce_verdict, charged, NoChargeLater, IsWithinSeconds, AreTimely}
use Rattle.tva_flow.proofs.Rows.{list_rows, held}

-- what holds of each charge of a list holds of the last
last_or_all : (P : Charge → Type 0) (d : Charge) (ds : List Charge) → All P (d ∷ ds) → P (last_or d ds)
last_or_all P d [] a = All-head P d [] a
last_or_all P d (e ∷ es) a = last_or_all P e es (All-tail P d (e ∷ es) a)

last_all : (P : Charge → Type 0) (cs : List Charge) (c : Charge) → All P cs → last_charge cs ≡ Some c → P c
last_all P [] c a e = absurd (cc)
last_all P (d ∷ ds) c a e = let k : last_or d ds ≡ c = cc in subst P k (last_or_all P d ds a)

timely-charged : (o : ℕ) (h : List Charge) (now nonce bytes : ℕ) (r : Verdict) → AreTimely o h → ((k : Grant) → r ≡ Authorised k → IsWithinSeconds o now k) → AreTimely o (h ++ charged r now nonce bytes)
timely-charged o h now nonce bytes (Authorised g) a w = All-push (λ (c : Charge). IsWithinSeconds o c.time c.grant) h (charge now g nonce bytes) a (w g refl)
timely-charged o h now nonce bytes r a w = subst (AreTimely o) (sym (append-nil h)) a

pub list-timely : (s o : ℕ) (h : List Charge) (now : ℕ) (g : Grant) (nonce bytes : ℕ) (r : Verdict) → r ≡ list_verdict s h now g bytes → AreTimely o h → IsWithinSeconds o now g → AreTimely o (h ++ charged r now nonce bytes)
list-timely s o h now g nonce bytes r t a w = timely-charged o h now nonce bytes r a (λ k e. subst (IsWithinSeconds o now) (list_rows s h now g k bytes (sym t ∙ e)).2 w)

-- the holder's charge came in the grant's seconds, and times never fall
later_within : (o time now : ℕ) (g : Grant) → time ≤ now → IsWithinSeconds o time g → router_second o now < g.second + g.rights.t → IsWithinSeconds o now g
later_within o time now g l w u = record { from = (let q = w.from in omega arith); until = u }

-- a grant that a nonce is authorised by is in its seconds, where the charges before were
pub held-timely : (o : ℕ) (h : List Charge) (now : ℕ) (f : Flow) (nonce bytes : ℕ) (k : Grant) → NoChargeLater now h → nonce_verdict o h now f nonce bytes ≡ Authorised k → AreTimely o h → IsWithinSeconds o now k
held-timely o h now f nonce bytes k p e a =
    let w = held o h now f nonce bytes k e in
    let own : Charge → Type 0 = λ c. IsWithinSeconds o c.time c.grant in
    let past : Charge → Type 0 = λ c. c.time ≤ now in
    subst (IsWithinSeconds o now) w.grant
    (later_within o w.charge.time now w.charge.grant
    (last_all past (of_flow f h) w.charge (All-filter (λ c. same_flow c.grant.flow f) past h p) w.is)
    (last_all own (of_flow f h) w.charge (All-filter (λ c. same_flow c.grant.flow f) own h a) w.is) w.until)

pub nonce-timely : (o : ℕ) (h : List Charge) (now : ℕ) (f : Flow) (nonce bytes : ℕ) (r : Verdict) → NoChargeLater now h → r ≡ nonce_verdict o h now f nonce bytes → AreTimely o h → AreTimely o (h ++ charged r now nonce bytes)
nonce-timely o h now f nonce bytes r p t a = timely-charged o h now nonce bytes r a (λ k e. held-timely o h now f nonce bytes k p (sym t ∙ e) a)
