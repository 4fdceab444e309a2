-- What the steps across tables show of what they accept.
use Rattle.tva_config.proofs.Common.{◌≡◌, ◌<◌, ◌≤◌, ◌==◌, ℕ, ◌+◌, zero, suc, Bool, true, false, ◌||◌, nat_lt, List, [], ◌∷◌, ◌++◌, length, get_or, map, Ok, All, Contains, refl, ap, sym, ◌∙◌, subst, arith, list_any, bytes_eq, eq-eqb, ltb-false, map-id, bytes_eq-Decides, Address, AreDistinct, RouterEntry, HostEntry, at, fault_at, unless, node_names, node_place, name_step, address_step, retry_step, names_of, addresses_of, retries_of, first_gave, unless_gave, in_turn_keeps, in_turn_maps, in_turn_shows, distinct_push}
use Rattle.tva_config_entries.specs.declared.faults.ConfigTable.TheVariants as table
use Rattle.tva_config_entries.specs.declared.faults.ConfigRule.TheVariants as rule

pub or_false : (a b : Bool) → (a || b) ≡ false → (a ≡ false) × (b ≡ false)
or_false true b is = absurd (cc)
or_false false b is = (refl, is)

-- what no element passes, none that passes is among them
not_in_at : {A : Type 0} (test : A → Bool) (x : A) (xs : List A) → list_any test xs ≡ false → test x ≡ true → (k : ℕ) → k < length xs → get_or xs k x ≡ x → ⊥
not_in_at test x [] none passes k within is = omega arith
not_in_at test x (y ∷ ys) none passes zero within is =
    let here : test y ≡ false = (or_false (test y) (list_any test ys) none).0 in
    let there : test y ≡ true = ap test is ∙ passes in
    cc
not_in_at test x (y ∷ ys) none passes (suc k) within is = not_in_at test x ys ((or_false (test y) (list_any test ys) none).1) passes k (omega arith) is

pub not_in : {A : Type 0} (test : A → Bool) (x : A) (xs : List A) → list_any test xs ≡ false → test x ≡ true → Contains xs x → ⊥
not_in test x xs none passes (k, within, is) = not_in_at test x xs none passes k within is

pub any_of_map : {A B : Type 0} (f : A → B) (test : B → Bool) (xs : List A) → list_any test (map f xs) ≡ list_any (λ x. test (f x)) xs
any_of_map f test [] = refl
any_of_map f test (x ∷ xs) = ap (λ b. test (f x) || b) (any_of_map f test xs)

-- the names are those of the nodes
pub names_are : (routers : List RouterEntry) (hosts : List HostEntry) (names : List (List ℕ)) → names_of routers hosts ≡ Ok names → names ≡ node_names routers hosts
unfolding names_of
names_are routers hosts names gave =
    sym (in_turn_maps (λ x. x) (name_step (length routers)) (λ done x y made.
    let (u, apart, same) = first_gave (unless (list_any (bytes_eq x) done) (fault_at (node_place (length routers) (length done)) rule.Names _)) (λ _. Ok x) y made in
    let is : x ≡ y = cc in
    sym is)
    [] (node_names routers hosts) names gave)
    ∙ map-id (node_names routers hosts)

-- they are distinct
pub names_distinct : (routers : List RouterEntry) (hosts : List HostEntry) (names : List (List ℕ)) → names_of routers hosts ≡ Ok names → AreDistinct names
unfolding names_of
names_distinct routers hosts names gave =
    in_turn_keeps AreDistinct (name_step (length routers)) (λ done x y distinct made.
    let (u, apart, same) = first_gave (unless (list_any (bytes_eq x) done) (fault_at (node_place (length routers) (length done)) rule.Names _)) (λ _. Ok x) y made in
    let new : list_any (bytes_eq x) done ≡ false = unless_gave _ _ u apart in
    let is : x ≡ y = cc in
    subst (λ z. AreDistinct (done ++ z ∷ [])) is (distinct_push done x distinct (not_in (bytes_eq x) x done new ((bytes_eq-Decides x x).1 refl))))
    [] (node_names routers hosts) names tt gave

-- the addresses are those of the hosts
pub addresses_are : (hosts : List HostEntry) (addresses : List Address) → addresses_of hosts ≡ Ok addresses → addresses ≡ map (λ h. h.address) hosts
unfolding addresses_of
addresses_are hosts addresses gave =
    sym (in_turn_maps (λ h. h.address) address_step (λ done x y made.
    let (u, apart, same) = first_gave (unless (list_any (λ a. a.0 == x.address.0) done) (fault_at (at table.Host (length done)) rule.Addresses _)) (λ _. Ok x.address) y made in
    let is : x.address ≡ y = cc in
    sym is)
    [] hosts addresses gave)

-- they are distinct too
pub addresses_distinct : (hosts : List HostEntry) (addresses : List Address) → addresses_of hosts ≡ Ok addresses → AreDistinct addresses
unfolding addresses_of
addresses_distinct hosts addresses gave =
    in_turn_keeps AreDistinct address_step (λ done x y distinct made.
    let (u, apart, same) = first_gave (unless (list_any (λ a. a.0 == x.address.0) done) (fault_at (at table.Host (length done)) rule.Addresses _)) (λ _. Ok x.address) y made in
    let new : list_any (λ a. a.0 == x.address.0) done ≡ false = unless_gave _ _ u apart in
    let is : x.address ≡ y = cc in
    subst (λ z. AreDistinct (done ++ z ∷ [])) is (distinct_push done x.address distinct (not_in (λ a. a.0 == x.address.0) x.address done new (eq-eqb x.address.0 x.address.0 refl))))
    [] hosts addresses tt gave

-- each host asks again late enough
pub retries_late : (hosts : List HostEntry) (retries : List ℕ) → retries_of hosts ≡ Ok retries → All (λ h. 1000000000 + h.margin ≤ h.retry) hosts
unfolding retries_of
retries_late hosts retries gave =
    in_turn_shows (λ h. 1000000000 + h.margin ≤ h.retry) retry_step (λ done x y made.
    let (u, apart, same) = first_gave (unless (nat_lt x.retry (1000000000 + x.margin)) (fault_at (at table.Host (length done)) rule.Retry _)) (λ _. Ok x.retry) y made in
    let late : nat_lt x.retry (1000000000 + x.margin) ≡ false = unless_gave _ _ u apart in
    ltb-false x.retry (1000000000 + x.margin) late)
    [] hosts retries gave
