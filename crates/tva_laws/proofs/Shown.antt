-- What a shape says of the contacts before it.
use Rattle.tva_laws.proofs.Common.{◌≡◌, ℕ, Bool, true, ◌&&◌, cond, List, [], Option, Some, None, sym, subst, IsSomeAnd, option_map, option_and_then, Shape, Contact, Taking, last_taking, unless_given_up, grant_of, asked_at, grant_held, list_length, nonce_length, fits, is_alive, nonce_of, held, under_grant, by_grant, may_ask, shape_of, arith, nat_tests}
use Rattle.tva_sender.specs.declared.shape.Shape.TheVariants as shape
use Rattle.tva_sender.specs.declared.grant.Grant.{Grant}

-- a shape that is allowed: an ask where one may be made, a list or a nonce of the held grant where it fits
abbrev pub Allows : ℕ → ℕ → Bool → Option Grant → ℕ → ℕ → ℕ → Shape → Type 0
Allows margin version may o now body offered shape.Request = may ≡ true
Allows margin version may o now body offered (shape.List hd) = IsSomeAnd o (λ g. (hd ≡ held g offered) × (fits margin now g (list_length version hd.caps body) ≡ true))
Allows margin version may o now body offered (shape.NonceOnly n) = IsSomeAnd o (λ g. (n ≡ nonce_of g offered) × (is_alive margin now g ≡ true) × (fits margin now g (nonce_length body) ≡ true))
Allows margin version may o now body offered (shape.Renewal hd) = (may ≡ true) × IsSomeAnd o (λ g. (hd ≡ held g offered) × (fits margin now g (list_length version hd.caps body) ≡ true))
Allows margin version may o now body offered shape.Legacy = Unit {0}

choice : (P : Shape → Type 0) (b : Bool) (x y : Shape) → (b ≡ true → P x) → P y → P (cond b x y)
choice P b x y f k = grind (arith, nat_tests)

left : (a b : Bool) → (a && b) ≡ true → a ≡ true
left a b e = grind (arith, nat_tests)

right : (a b : Bool) → (a && b) ≡ true → b ≡ true
right a b e = grind (arith, nat_tests)

under : (margin version : ℕ) (may : Bool) (g : Grant) (now body offered : ℕ) → Allows margin version may (Some g) now body offered (under_grant margin version may g now body offered)
unfolding under_grant
under margin version may g now body offered = grind (arith, nat_tests, choice, left, right)

pub allowed : (margin version : ℕ) (may : Bool) (o : Option Grant) (now body offered : ℕ) → Allows margin version may o now body offered (by_grant margin version may o now body offered)
allowed margin version may o now body offered = grind (arith, nat_tests, choice, under)

-- the shape of the next packet
pub allows : (margin retry version : ℕ) (h : List Contact) (now body offered : ℕ) (s : Shape) → s ≡ shape_of margin retry version h now body offered
    → Allows margin version (may_ask retry (asked_at h) now) (grant_held h) now body offered s
allows margin retry version h now body offered s e = subst (Allows margin version (may_ask retry (asked_at h) now) (grant_held h) now body offered) (sym e) (allowed margin version (may_ask retry (asked_at h) now) (grant_held h) now body offered)

-- what holds of the held grant holds of the last taking
kept : (P : Grant → Type 0) (o : Option Taking) (t : Taking) → o ≡ Some t → IsSomeAnd (option_map grant_of (option_and_then unless_given_up o)) P → P (grant_of t)
kept P o t e k = grind (arith, nat_tests)

pub by-taking : (P : Grant → Type 0) (h : List Contact) (t : Taking) → last_taking [] h ≡ Some t → IsSomeAnd (grant_held h) P → P (grant_of t)
by-taking P h t e k = kept P (last_taking [] h) t e k

-- without a taking none is held
unheld : (P : Grant → Type 0) (o : Option Taking) → o ≡ None → IsSomeAnd (option_map grant_of (option_and_then unless_given_up o)) P → ⊥
unheld P o e k = grind (arith, nat_tests)

pub no-taking : (P : Grant → Type 0) (h : List Contact) → last_taking [] h ≡ None → IsSomeAnd (grant_held h) P → ⊥
no-taking P h e k = unheld P (last_taking [] h) e k
