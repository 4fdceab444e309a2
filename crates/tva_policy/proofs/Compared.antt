-- Look-ups by a comparison find what look-ups by a test find.
use Rattle.tva_policy.proofs.Common.{◌≡◌, ℕ, true, cond, eqb, List, Some, refl, ap, sym, ◌∙◌, ◌+◌, arith, list_any, is_eq, nat_cmp, nat_tests, Address, has_address, has_tag, grants_kept}
use Rattle.std.specs.Map.{lookup}
use Rattle.std.specs.Option.{unwrap_or}
use Rattle.tva_base.proofs.Each.{list_any_same, lookup_same, is_eq-nat_cmp}

pub has_address_by : (a : Address) (addresses : List Address) → list_any (λ d. is_eq (nat_cmp a.0 d.0)) addresses ≡ has_address addresses a
has_address_by a addresses = list_any_same (λ d. is_eq (nat_cmp a.0 d.0)) (λ d. eqb a.0 d.0) (λ d. is_eq-nat_cmp a.0 d.0) addresses

pub has_tag_by : (tag : ℕ) (tags : List ℕ) → list_any (λ d. is_eq (nat_cmp tag d)) tags ≡ has_tag tags tag
has_tag_by tag tags = list_any_same (λ d. is_eq (nat_cmp tag d)) (λ d. eqb tag d) (λ d. is_eq-nat_cmp tag d) tags

pub grants_kept_by : (a : Address) (granted : List (Address × ℕ)) → unwrap_or (lookup (λ (d : Address). is_eq (nat_cmp a.0 d.0)) granted) 0 ≡ grants_kept granted a
grants_kept_by a granted = ap (λ o. unwrap_or o 0) (lookup_same (λ (d : Address). is_eq (nat_cmp a.0 d.0)) (λ d. eqb a.0 d.0) (λ d. is_eq-nat_cmp a.0 d.0) granted)

-- one more address
pub has_address-insert : (dst a : Address) (old new : List Address) → list_any (λ d. is_eq (nat_cmp a.0 d.0)) new ≡ cond (is_eq (nat_cmp dst.0 a.0)) true (list_any (λ d. is_eq (nat_cmp a.0 d.0)) old) → has_address new a ≡ cond (eqb dst.0 a.0) true (has_address old a)
has_address-insert dst a old new h = sym (has_address_by a new) ∙ h ∙ rw (is_eq-nat_cmp dst.0 a.0, has_address_by a old) refl

-- one more grant to the source
pub grants_kept-insert : (src a : Address) (old new : List (Address × ℕ)) (n : ℕ) → n ≡ grants_kept old src → lookup (λ (d : Address). is_eq (nat_cmp a.0 d.0)) new ≡ cond (is_eq (nat_cmp src.0 a.0)) (Some (n + 1)) (lookup (λ (d : Address). is_eq (nat_cmp a.0 d.0)) old) → grants_kept new a ≡ cond (eqb a.0 src.0) (grants_kept old a + 1) (grants_kept old a)
grants_kept-insert src a old new n found h =
    let test = is_eq-nat_cmp src.0 a.0 in
    let before = grants_kept_by a old in
    let after = grants_kept_by a new in
    let same : src.0 ≡ a.0 → grants_kept old src ≡ grants_kept old a = λ e. ap (λ x. unwrap_or (lookup (λ (d : Address). eqb x d.0) old) 0) e in
    let step = ap (λ o. unwrap_or o 0) h in
    grind (arith, nat_tests)
