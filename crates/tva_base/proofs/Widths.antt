-- The number of rights, and the rights of a number.
use Rattle.tva_base.proofs.Common.{◌≡◌, ℕ, ◌+◌, ◌*◌, ◌/◌, ◌%◌, ◌^◌, ◌<◌, ◌≤◌, Bool, true, false, cond, eqb, leb, refl, ap, sym, ◌∙◌, arith, div-add-mod', mod-eq_of_lt, mul-add-mod_self_right, and_from, and_parts, le-leb, leb-true, AreRights, AreSomeRights, carries, rights_number, rights_size, seconds_max, units_max, version_for}
use Rattle.std.proofs.lemmas.Nat.{div-mul-add}
use Rattle.tva_base.specs.declared.packet.Rights.{Rights}

-- ---- by whether the version is 1

number_below : (one : Bool) (n t : ℕ) → n ≤ cond one 1023 1048575 → t ≤ cond one 63 127 → n * (cond one 63 127 + 1) + t < 256 ^ cond one 2 4
number_below true n t few short = omega arith
number_below false n t few short = omega arith

size_below : (one : Bool) → 256 ^ cond one 2 4 ≤ 4294967296
size_below true = omega arith
size_below false = omega arith

bytes_few : (one : Bool) → cond one 2 4 ≤ 4
bytes_few true = omega arith
bytes_few false = omega arith

units_below : (one : Bool) → cond one 1023 1048575 ≤ 1048575
units_below true = omega arith
units_below false = omega arith

seconds_below : (one : Bool) → cond one 63 127 ≤ 127
seconds_below true = omega arith
seconds_below false = omega arith

-- ---- rights

-- the number of rights is within their bytes
pub number_fits : (version : ℕ) (r : Rights) → AreRights version r → rights_number version r < 256 ^ rights_size version
number_fits version r are = number_below (eqb version 1) r.n r.t are.units are.seconds

pub number_short : (version : ℕ) (r : Rights) → AreRights version r → rights_number version r < 4294967296
number_short version r are =
    let fits : rights_number version r < 256 ^ rights_size version = number_fits version r are in
    let most : 256 ^ rights_size version ≤ 4294967296 = size_below (eqb version 1) in
    omega arith

-- rights have 4 bytes at most
pub size_few : (version : ℕ) → rights_size version ≤ 4
size_few version = bytes_few (eqb version 1)

-- what a shim of some version can carry, one of the greatest can
pub some_rights : (version : ℕ) (r : Rights) → AreRights version r → AreSomeRights r
some_rights version r are =
    let units : units_max version ≤ 1048575 = units_below (eqb version 1) in
    let seconds : seconds_max version ≤ 127 = seconds_below (eqb version 1) in
    let few : r.n ≤ units_max version = are.units in
    let short : r.t ≤ seconds_max version = are.seconds in
    record { units = omega arith; seconds = omega arith }

pub carries-true : (version : ℕ) (r : Rights) → AreRights version r → carries version r ≡ true
carries-true version r are =
    and_from (leb r.n (units_max version)) (leb r.t (seconds_max version)) (le-leb r.n (units_max version) are.units) (le-leb r.t (seconds_max version) are.seconds)

pub carries-are : (version : ℕ) (r : Rights) → carries version r ≡ true → AreRights version r
carries-are version r holds =
    let both = and_parts (leb r.n (units_max version)) (leb r.t (seconds_max version)) holds in
    record { units = leb-true r.n (units_max version) both.0; seconds = leb-true r.t (seconds_max version) both.1 }

-- the least version for rights can carry them
least_by : (first : Bool) (r : Rights) → carries 1 r ≡ first → AreSomeRights r → AreRights (cond first 1 2) r
least_by true r is some = carries-are 1 r is
least_by false r is some = some

pub least_rights : (r : Rights) → AreSomeRights r → AreRights (version_for r) r
least_rights r some = least_by (carries 1 r) r refl some

-- ---- the parts of a number

abbrev pub rights_from : ℕ → ℕ → Rights
rights_from n t = record { n = n; t = t }

-- a number is that of its parts
pub number_again : (version number weight : ℕ) → weight ≡ seconds_max version + 1 → number ≡ rights_number version (rights_from (number / weight) (number % weight))
number_again version number weight is = sym (div-add-mod' number weight) ∙ ap (λ (w : ℕ). number / weight * w + number % weight) is

-- and the rights of a number are its parts
pub same_rights : (version number weight : ℕ) (r : Rights) → weight ≡ seconds_max version + 1 → AreRights version r → number ≡ rights_number version r
    → rights_from (number / weight) (number % weight) ≡ r
same_rights version number weight r weighs are is =
    let short : r.t ≤ seconds_max version = are.seconds in
    let below : r.t < weight = omega arith in
    let sum : number ≡ r.n * weight + r.t = is ∙ ap (λ (w : ℕ). r.n * w + r.t) (sym weighs) in
    let units : number / weight ≡ r.n = ap (λ (k : ℕ). k / weight) sum ∙ div-mul-add r.n weight r.t below in
    let seconds : number % weight ≡ r.t = ap (λ (k : ℕ). k % weight) sum ∙ mul-add-mod_self_right r.n weight r.t ∙ mod-eq_of_lt below in
    ap (λ (k : ℕ). rights_from k (number % weight)) units ∙ ap (rights_from r.n) seconds

pub carries_parts : (version number weight : ℕ) (r : Rights) → weight ≡ seconds_max version + 1 → AreRights version r → number ≡ rights_number version r
    → carries version (rights_from (number / weight) (number % weight)) ≡ true
carries_parts version number weight r weighs are is = ap (carries version) (same_rights version number weight r weighs are is) ∙ carries-true version r are

-- two rights of one number are the same
pub one_number : (version : ℕ) (a b : Rights) → AreRights version a → AreRights version b → rights_number version a ≡ rights_number version b → a ≡ b
one_number version a b x y same =
    let number : ℕ = rights_number version a in
    sym (same_rights version number (seconds_max version + 1) a refl x refl) ∙ same_rights version number (seconds_max version + 1) b refl y same
