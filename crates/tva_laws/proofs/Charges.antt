-- Charges one by one, and uses beside their charges.
use Rattle.tva_laws.proofs.Common.{◌≡◌, ◌≤◌, ◌<◌, ◌⊎◌, ℕ, ◌+◌, true, false, cond, List, [], ◌∷◌, ◌++◌, Option, Some, refl, ap, sym, subst, ◌∙◌, arith, sum_by, AllByRecursion, IfSome, unwrap_or, sum_by-cons, Grant, Rights, credit_of, Charge, same_grant, last_or, last_charge, bytes_under, bytes_of, end_of, by_bool, same_is, same_grant-self, Contact, Use, uses_in, uses, is_notice, after_notice, since_notice, life_of, nat_tests}
use Rattle.tva_base.proofs.Lives.{latest_end-back}
pub use Rattle.tva_base.proofs.Each.{each-right as each-behind}

pub each-weaker : {X : Type 0} (P Q : X → Type 0) (xs : List X) → ((x : X) → P x → Q x) → AllByRecursion P xs → AllByRecursion Q xs
each-weaker P Q [] f k = tt
each-weaker P Q (x ∷ xs) f k = (f x k.0, each-weaker P Q xs f k.1)

-- the last charge
each-last : (P : Charge → Type 0) (c : Charge) (cs : List Charge) → P c → AllByRecursion P cs → P (last_or c cs)
each-last P c [] k l = k
each-last P c (d ∷ ds) k l = each-last P d ds l.0 l.1

pub last-of : (P : Charge → Type 0) (cs : List Charge) (d : Charge) → AllByRecursion P cs → last_charge cs ≡ Some d → P d
last-of P cs d k e = grind (arith, nat_tests, each-last)

last_or-behind : (x : Charge) (xs : List Charge) (y : Charge) (ys : List Charge) → last_or x (xs ++ y ∷ ys) ≡ last_or y ys
last_or-behind x [] y ys = refl
last_or-behind x (z ∷ zs) y ys = last_or-behind z zs y ys

pub last-behind : (xs : List Charge) (y : Charge) (ys : List Charge) → last_charge (xs ++ y ∷ ys) ≡ Some (last_or y ys)
last-behind [] y ys = refl
last-behind (x ∷ xs) y ys = ap Some (last_or-behind x xs y ys)

-- the bytes of a grant among charges of earlier seconds, and among its own
pub bytes-none : (g : Grant) (cs : List Charge) → AllByRecursion (λ c. c.grant.second < g.second) cs → bytes_of g cs ≡ 0
bytes-none g [] k = refl
bytes-none g (c ∷ cs) k = grind (arith, nat_tests, by_bool, same_is, sum_by-cons, bytes-none g cs k.1)

pub bytes-own : (g : Grant) (cs : List Charge) → AllByRecursion (λ c. c.grant ≡ g) cs → bytes_of g cs ≡ sum_by (λ c. c.length) cs
bytes-own g [] k = refl
bytes-own g (c ∷ cs) k =
    let same : same_grant c.grant g ≡ true = subst (λ (z : Grant). same_grant z g ≡ true) (sym k.0) (same_grant-self g) in
    let here : bytes_under g c ≡ c.length = ap (λ b. cond b c.length 0) same in
    omega (arith, sum_by-cons (bytes_under g) c cs, sum_by-cons (λ (d : Charge). d.length) c cs, here, bytes-own g cs k.1)

-- a use and its charge
pub record IsChargeOf (delay : ℕ) (u : Use) (c : Charge) : Type 0 where
  pub length : c.length ≡ u.length
  pub time : u.time + delay ≤ c.time

abbrev pub Pairs : ℕ → List Use → List Charge → Type 0
Pairs delay [] [] = Unit {0}
Pairs delay [] (c ∷ cs) = ⊥
Pairs delay (u ∷ us) [] = ⊥
Pairs delay (u ∷ us) (c ∷ cs) = IsChargeOf delay u c × Pairs delay us cs

abbrev pub credit_in : Rights → Use → ℕ
credit_in rights u = credit_of u.length rights

abbrev pub credit_at : Charge → ℕ
credit_at c = credit_of c.length c.grant.rights

credit-same : (delay : ℕ) (rights : Rights) (u : Use) (c : Charge) → IsChargeOf delay u c → c.grant.rights ≡ rights → credit_at c ≡ credit_in rights u
credit-same delay rights u c k e = ap (λ n. credit_of n c.grant.rights) k.length ∙ ap (λ (r : Rights). credit_of u.length r) e

pairs-credits : (delay : ℕ) (rights : Rights) (us : List Use) (cs : List Charge) → Pairs delay us cs → AllByRecursion (λ c. c.grant.rights ≡ rights) cs
    → sum_by credit_at cs ≡ sum_by (credit_in rights) us
pairs-credits delay rights [] z0 k r = grind (arith, nat_tests)
pairs-credits delay rights (u ∷ us) [] k r = absurd k
pairs-credits delay rights (u ∷ us) (c ∷ cs) k r = search (credit-same delay rights u c k.0 r.0, sum_by-cons credit_at c cs, sum_by-cons (credit_in rights) u us, pairs-credits delay rights us cs k.1 r.1)

-- the charges end later than the uses by the delay, where there are any
pub pairs-end : (delay : ℕ) (rights : Rights) (us : List Use) (cs : List Charge) → Pairs delay us cs → AllByRecursion (λ c. c.grant.rights ≡ rights) cs
    → (life_of rights us ≡ 0) ⊎ (life_of rights us + delay ≤ end_of cs)
pairs-end delay rights [] z0 k r = grind (arith, nat_tests)
pairs-end delay rights (u ∷ us) [] k r = absurd k
pairs-end delay rights (u ∷ us) (c ∷ cs) k r = grind (arith, nat_tests, pairs-credits delay rights (u ∷ us) (c ∷ cs) k r, pairs-end delay rights us cs k.1 r.1)

-- the uses since a notice live no longer than all
since-weaker : (rights : Rights) (d : Contact) (ds : List Contact) (o : Option (List Contact)) → IfSome o (λ rest. life_of rights (uses rest) ≤ life_of rights (uses ds))
    → IfSome o (λ rest. life_of rights (uses rest) ≤ life_of rights (uses (d ∷ ds)))
since-weaker rights d ds o k = grind (arith, nat_tests, latest_end-back)

notice-life : (rights : Rights) (cs : List Contact) → IfSome (after_notice cs) (λ rest. life_of rights (uses rest) ≤ life_of rights (uses cs))
notice-life rights [] = tt
notice-life rights (d ∷ ds) = elim (is_notice d) as (λ b. IfSome (cond b (Some ds) (after_notice ds)) (λ rest. life_of rights (uses rest) ≤ life_of rights (uses (d ∷ ds)))) [
  | true ↦ latest_end-back (λ (u : Use). u.time) (credit_in rights) (uses_in d) (uses ds)
  | false ↦ since-weaker rights d ds (after_notice ds) (notice-life rights ds)
]

since-life : (rights : Rights) (cs : List Contact) (o : Option (List Contact)) → IfSome o (λ rest. life_of rights (uses rest) ≤ life_of rights (uses cs))
    → life_of rights (uses (unwrap_or o cs)) ≤ life_of rights (uses cs)
since-life rights cs o k = grind (arith, nat_tests)

pub life-since : (rights : Rights) (cs : List Contact) → life_of rights (uses (since_notice cs)) ≤ life_of rights (uses cs)
life-since rights cs = since-life rights cs (after_notice cs) (notice-life rights cs)

-- charges end no later than with those before them
pub end-behind : (xs ys : List Charge) → end_of ys ≤ end_of (xs ++ ys)
end-behind xs ys = latest_end-back (λ (c : Charge). c.time) credit_at xs ys
