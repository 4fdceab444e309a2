-- What a load finds in any files that agree with what it gave.
use Rattle.tva.proofs.Common.{◌≡◌, ◌≤◌, ◌⊎◌, inl, inr, ℕ, ◌+◌, ◌<◌, Bool, true, false, cond, List, [], ◌∷◌, ◌++◌, length, Ok, Err, None, Some, IfSome, sym, ap, ◌∙◌, arith, IsSomeAnd, nat_lt, nat_tests, Option, HeldByName, bytes_at, Load, Given, bytes, failure, too_many, no_memory, Sought, file_at, within_limit, AgreeSince, OfFiles, ReadFault, TooLarge}
use Rattle.tva_outside.specs.Shelf.{HoldsMore, IsHeld, IsMissing}
use Rattle.tva.proofs.Given.{agree_one, holds_one}

-- bytes that pass a limit, or don't
abbrev judged : ℕ → List ℕ → Bool → Sought (List ℕ)
judged max b past = cond past (Err (TooLarge (max + 1))) (Ok b)

within : (max : ℕ) (b : List ℕ) → length b ≤ max → within_limit max (Some b) ≡ Ok b
within max b few = let no : nat_lt max (length b) ≡ false = grind (arith, nat_tests) in ap (judged max b) no

past : (max k : ℕ) (o : Option (List ℕ)) → k ≡ max + 1 → IsSomeAnd o (λ b. k ≤ length b) → within_limit max o ≡ Err (TooLarge k)
past max k None same many = absurd many
past max k (Some b) same many =
    let yes : nat_lt max (length b) ≡ true = grind (arith, nat_tests) in
    ap (judged max b) yes ∙ ap (λ (n : ℕ). Err (TooLarge n)) (sym same)

more_than : (max k : ℕ) (o : Option (List ℕ)) → k ≡ max + 1 → IsSomeAnd o (λ b. max < length b) → IsSomeAnd o (λ b. k ≤ length b)
more_than max k None same many = absurd many
more_than max k (Some b) same many = omega (arith, same, many)

-- between what was given before and behind one load of a name
module _ (old new : List Load) (name : List ℕ) (max : ℕ) where
  -- the load was this one
  abbrev pub IsLoad : Given → Type 0
  IsLoad given = new ≡ old ++ record { name = name; given = given } ∷ []

  pub found_bytes : (b : List ℕ) → IsLoad (bytes b) → length b ≤ max → OfFiles old new (λ files. file_at max name files ≡ Ok b)
  found_bytes b is few files agree = ap (within_limit max) (holds_one files old new (record { name = name; given = bytes b }) is agree) ∙ within max b few

  pub found_none : IsLoad failure → OfFiles old new (λ files. file_at max name files ≡ Err ReadFault)
  found_none is files agree = ap (within_limit max) (holds_one files old new (record { name = name; given = failure }) is agree)

  pub found_past : (k : ℕ) → IsLoad (too_many k) → k ≡ max + 1 → OfFiles old new (λ files. file_at max name files ≡ Err (TooLarge k))
  found_past k is same files agree =
      past max k (bytes_at files name) same (holds_one files old new (record { name = name; given = too_many k }) is agree)

  -- and what is held agrees with it
  pub held_bytes : (held : Option HeldByName) (b : List ℕ) → IsLoad (bytes b) → IsHeld held name b → IfSome held (AgreeSince old new)
  held_bytes None b is there = tt
  held_bytes (Some files) b is there = agree_one files old new (record { name = name; given = bytes b }) is there

  pub held_past : (held : Option HeldByName) (k : ℕ) → IsLoad (too_many k) → HoldsMore held name max → k ≡ max + 1 → IfSome held (AgreeSince old new)
  held_past None k is many same = tt
  held_past (Some files) k is many same =
      agree_one files old new (record { name = name; given = too_many k }) is (more_than max k (bytes_at files name) same many)

  pub held_none : (held : Option HeldByName) (rose : Type 0) → IsLoad failure → rose ⊎ IsMissing held name → rose ⊎ IsSomeAnd held (AgreeSince old new)
  held_none held rose is (inl up) = inl up
  held_none None rose is (inr missing) = absurd missing
  held_none (Some files) rose is (inr missing) = inr (agree_one files old new (record { name = name; given = failure }) is missing)

  pub held_no_memory : (held : Option HeldByName) → IsLoad no_memory → IfSome held (AgreeSince old new)
  held_no_memory None is = tt
  held_no_memory (Some files) is = agree_one files old new (record { name = name; given = no_memory }) is tt
