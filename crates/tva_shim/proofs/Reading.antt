-- Readings of parts make the reading of the whole.
use Rattle.tva_shim.proofs.Common.{◌≡◌, ℕ, zero, suc, ◌<◌, List, [], ◌∷◌, ◌++◌, length, take, drop, Option, Some, None, refl, sym, ap, subst, ◌∙◌, append_assoc, append-nil, arith, length-append, take_all, drop_all, flat_map, All-nil, All-head, All-tail, All-push, Reads, AreSoMany}
use Rattle.std.specs.Prelude.{All}
use Rattle.std.proofs.lemmas.Grind.{flat_map-append}

abbrev pub some : {A : Type 0} → A → Option A
some x = Some x

abbrev none_of : (A : Type 0) → Option A
none_of A = None

pub one_some : {A : Type 0} {x y : A} → some x ≡ some y → x ≡ y
one_some e = cc

pub none_some : {A : Type 0} {x : A} → none_of A ≡ some x → ⊥
none_some e = cc

pub some_pair : {A B : Type 0} (a c : A) (b d : B) → some {A = A × B} (a, b) ≡ some (c, d) → (a ≡ c) × (b ≡ d)
some_pair {A = A} {B = B} a c b d e = grind arith

-- ---- one part after the other

pub record IsBoth {A B : Type 0} (IsA : A → Type 0) (IsB : A → B → Type 0) (p : A × B) : Type 0 where
  pub first : IsA p.0
  pub second : IsB p.0 p.1

-- the bytes of the second part may depend on the first
unfoldable pub both : {A B : Type 0} → (A → List ℕ) → (A → B → List ℕ) → A × B → List ℕ
both a_bytes b_bytes p = a_bytes p.0 ++ b_bytes p.0 p.1

both-append : {A B : Type 0} (a_bytes : A → List ℕ) (b_bytes : A → B → List ℕ) (p : A × B) (rest : List ℕ) → both a_bytes b_bytes p ++ rest ≡ a_bytes p.0 ++ (b_bytes p.0 p.1 ++ rest)
unfolding both
both-append a_bytes b_bytes p rest = append_assoc (a_bytes p.0) (b_bytes p.0 p.1) rest

-- where the first part is known, the second is the one that it lets stand there
second : {A B : Type 0} (b_bytes : A → B → List ℕ) (a c : A) (b : B) (mid rest : List ℕ) → a ≡ c → mid ≡ b_bytes c b ++ rest → mid ≡ b_bytes a b ++ rest
second b_bytes a c b mid rest same begins = begins ∙ ap (λ x. b_bytes x b ++ rest) (sym same)

module _ {A B : Type 0} {IsA : A → Type 0} {IsB : A → B → Type 0} {a_bytes : A → List ℕ} (b_bytes : A → B → List ℕ) where
  pub front_missing : {bytes : List ℕ} → Reads IsA a_bytes bytes None → Reads (IsBoth IsA IsB) (both a_bytes b_bytes) bytes None
  front_missing r = grind (arith, both-append)

  -- the first part is the one that was read, and the second begins what is left
  middle : {bytes mid : List ℕ} {a : A} → Reads IsA a_bytes bytes (Some (a, mid)) → (p : A × B) (rest : List ℕ) → IsBoth IsA IsB p → bytes ≡ both a_bytes b_bytes p ++ rest
      → (a ≡ p.0) × (mid ≡ b_bytes p.0 p.1 ++ rest)
  middle r p rest are is = some_pair _ _ _ _ (r.only p.0 (b_bytes p.0 p.1 ++ rest) are.first (is ∙ both-append a_bytes b_bytes p rest))

  pub back_missing : {bytes mid : List ℕ} {a : A} → Reads IsA a_bytes bytes (Some (a, mid)) → Reads (IsB a) (b_bytes a) mid None → Reads (IsBoth IsA IsB) (both a_bytes b_bytes) bytes None
  back_missing {mid = mid} {a = a} r s = record {
    found = tt;
    only = λ p rest are is.
        let m = middle r p rest are is in
        let e = s.only p.1 rest (subst (λ x. IsB x p.1) (sym m.0) are.second) (second b_bytes a p.0 p.1 mid rest m.0 m.1) in
        absurd cc;
  }

  pub both_read : {bytes mid rest : List ℕ} {a : A} {b : B} → Reads IsA a_bytes bytes (Some (a, mid)) → Reads (IsB a) (b_bytes a) mid (Some (b, rest))
      → Reads (IsBoth IsA IsB) (both a_bytes b_bytes) bytes (Some ((a, b), rest))
  both_read {mid = mid} {rest = rest} {a = a} {b = b} r s = record {
    found = (
      record { first = r.found.0; second = s.found.0 },
      r.found.1 ∙ ap (λ xs. a_bytes a ++ xs) s.found.1 ∙ sym (both-append a_bytes b_bytes (a, b) rest),
    );
    only = λ p tail are is.
        let m = middle r p tail are is in
        let e = some_pair _ _ _ _ (s.only p.1 tail (subst (λ x. IsB x p.1) (sym m.0) are.second) (second b_bytes a p.0 p.1 mid tail m.0 m.1)) in
        both_same a p.0 m.0 b p.1 e.0 rest tail e.1;
  }
    where
      both_same : (a c : A) → a ≡ c → (b d : B) → b ≡ d → (xs ys : List ℕ) → xs ≡ ys → some {A = (A × B) × List ℕ} ((a, b), xs) ≡ some ((c, d), ys)
      both_same a c p b d q xs ys r = cc

-- ---- the same bytes as another value

module _ {X Y : Type 0} {IsX : X → Type 0} {IsY : Y → Type 0} {x_bytes : X → List ℕ} {y_bytes : Y → List ℕ} (to : X → Y)
    (there : (x : X) → IsX x → IsY (to x) × (x_bytes x ≡ y_bytes (to x)))
    (back : (y : Y) → IsY y → (x : X) × IsX x × (y_bytes y ≡ x_bytes x) × (to x ≡ y)) where
  pub other_missing : {bytes : List ℕ} → Reads IsX x_bytes bytes None → Reads IsY y_bytes bytes None
  other_missing r = grind arith

  pub other_read : {bytes rest : List ℕ} {x : X} → Reads IsX x_bytes bytes (Some (x, rest)) → Reads IsY y_bytes bytes (Some (to x, rest))
  other_read {rest = rest} {x = x} r = grind (arith, some_pair)

-- ---- so many elements, one by one

-- The elements that were read so far stand at the front, and begin each list that does.
pub record Begun {A : Type 0} (Is : A → Type 0) (bytes_of : A → List ℕ) (count : ℕ) (bytes : List ℕ) (xs : List A) (rest : List ℕ) : Type 0 where
  pub front : bytes ≡ flat_map bytes_of xs ++ rest
  pub each : All Is xs
  pub only : (ys : List A) (tail : List ℕ) → AreSoMany Is count ys → bytes ≡ flat_map bytes_of ys ++ tail
      → (take (length xs) ys ≡ xs) × (rest ≡ flat_map bytes_of (drop (length xs) ys) ++ tail)

-- the element at a place
next_of : {A : Type 0} {Is : A → Type 0} (n : ℕ) (ys : List A) → All Is ys → n < length ys → (y : A) × Is y × (drop n ys ≡ y ∷ drop (suc n) ys) × (take (suc n) ys ≡ take n ys ++ y ∷ [])
next_of n [] are h = absurd (omega arith)
next_of {Is = Is} zero (y ∷ ys) are h = (y, All-head Is y ys are, refl, refl)
next_of {Is = Is} (suc n) (y ∷ ys) are h =
    let r = next_of {Is = Is} n ys (All-tail Is y ys are) (omega arith) in
    (r.0, r.1, r.2, ap (λ zs. y ∷ zs) r.3)

module _ {A : Type 0} {Is : A → Type 0} {bytes_of : A → List ℕ} {count : ℕ} where
  -- what is left begins with the next element of such a list
  goes_on : {bytes rest : List ℕ} {answer : Option (A × List ℕ)} (xs : List A) → Begun Is bytes_of count bytes xs rest → length xs < count → Reads Is bytes_of rest answer
      → (ys : List A) (tail : List ℕ) → AreSoMany Is count ys → bytes ≡ flat_map bytes_of ys ++ tail
      → (y : A) × (answer ≡ Some (y, flat_map bytes_of (drop (suc (length xs)) ys) ++ tail)) × (take (suc (length xs)) ys ≡ xs ++ y ∷ [])
  goes_on {rest = rest} xs b h r ys tail are is =
      let o = b.only ys tail are is in
      let n = next_of {Is = Is} (length xs) ys are.0 (omega arith) in
      let after = flat_map bytes_of (drop (suc (length xs)) ys) in
      let begins : rest ≡ bytes_of n.0 ++ (after ++ tail) =
      o.1 ∙ ap (λ zs. flat_map bytes_of zs ++ tail) n.2 ∙ append_assoc (bytes_of n.0) after tail in
      (n.0, r.only n.0 (after ++ tail) n.1 begins, n.3 ∙ ap (λ zs. zs ++ n.0 ∷ []) o.0)

  pub begun_none : (bytes : List ℕ) → Begun Is bytes_of count bytes [] bytes
  begun_none bytes = record { front = refl; each = All-nil Is; only = λ ys tail are is. (refl, is) }

  pub begun_more : {bytes rest after : List ℕ} (xs : List A) (x : A) → Begun Is bytes_of count bytes xs rest → length xs < count → Reads Is bytes_of rest (Some (x, after))
      → Begun Is bytes_of count bytes (xs ++ x ∷ []) after
  begun_more {after = after} xs x b h r = record {
    front = b.front ∙ ap (λ zs. flat_map bytes_of xs ++ zs) r.found.1 ∙ sym (append_assoc (flat_map bytes_of xs) (bytes_of x) after)
        ∙ ap (λ zs. zs ++ after) (ap (λ zs. flat_map bytes_of xs ++ zs) (sym (append-nil (bytes_of x))) ∙ sym (flat_map-append bytes_of xs (x ∷ [])));
    each = All-push Is xs x b.each r.found.0;
    only = λ ys tail are is.
        let g = goes_on xs b h r ys tail are is in
        let e = some_pair _ _ _ _ g.1 in
        let one : length (xs ++ x ∷ []) ≡ suc (length xs) = omega (arith, length-append xs (x ∷ [])) in
        rw one (g.2 ∙ ap (λ y. xs ++ y ∷ []) (sym e.0), e.1);
  }

  pub begun_missing : {bytes rest : List ℕ} (xs : List A) → Begun Is bytes_of count bytes xs rest → length xs < count → Reads Is bytes_of rest None
      → Reads (AreSoMany Is count) (flat_map bytes_of) bytes None
  begun_missing xs b h r = record {
    found = tt;
    only = λ ys tail are is. let g = goes_on xs b h r ys tail are is in absurd (none_some g.1);
  }

  pub begun_all : {bytes rest : List ℕ} (xs : List A) → Begun Is bytes_of count bytes xs rest → length xs ≡ count → Reads (AreSoMany Is count) (flat_map bytes_of) bytes (Some (xs, rest))
  begun_all {rest = rest} xs b h = grind (arith, take_all, drop_all, flat_map)
