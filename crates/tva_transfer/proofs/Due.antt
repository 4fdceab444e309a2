-- Which transfers are due, after a transfer begins and after more of one is acknowledged.
use Rattle.tva_transfer.proofs.Common.{◌≡◌, ℕ, ◌<◌, ◌≤◌, ◌&&◌, Bool, true, false, cond, eqb, List, [], ◌∷◌, ◌++◌, length, get_or, set, Some, None, refl, sym, ap, ◌∙◌, arith, position, position_or_len, slice_get, option_map_or, cases_Bool, and_parts, and_right, eqb-true, lt-ltb, le-ltb, cases_lt, position_or_len_is, slice_get_past, slice_get_within, slice_get-get_or, Address, Transfer, Files, begun, is_due, segment_due, segment_of, IsSized, IsSound, has_key, is_due_at}
use Rattle.tva_base.proofs.Each.{eqb-sym}
use Rattle.tva_transfer.proofs.Places.{slice_get-push, slice_get-set}

started : (b is : Bool) → is ≡ true → cond (b && true) true false ≡ (b && is)
started b is so = rw so (elim b as (λ v. cond (v && true) true false ≡ (v && true)) [ true ↦ refl | false ↦ refl ])

ended : (b was is has : Bool) → is ≡ false → has ≡ (b && was) → cond (b && true) false has ≡ (b && is)
ended b was is has none h = rw (none, h) (elim b as (λ v. cond (v && true) false (v && was) ≡ (v && false)) [ true ↦ refl | false ↦ refl ])

-- a transfer begins
pub sound_filed : (ts : List Transfer) (old new : List (Address × ℕ)) (dst : Address) (size segment : ℕ) → 1 ≤ size → size ≤ 100000000 → segment ≤ 1500 → IsSound ts old → ((d : Address) (p : ℕ) → has_key new d p ≡ cond (eqb dst.0 d.0 && eqb (length ts) p) true (has_key old d p)) → IsSound (ts ++ begun dst size segment ∷ []) new
sound_filed ts old new dst size segment some most fits s e = grind (arith, slice_get-push, cases_Bool, eqb-sym, eqb-true, slice_get_past, lt-ltb, and_right)

-- a transfer that was to begin doesn't
pub sound_undone : (ts : List Transfer) (old with new : List (Address × ℕ)) (dst : Address) → IsSound ts old → ((d : Address) (p : ℕ) → has_key with d p ≡ cond (eqb dst.0 d.0 && eqb (length ts) p) true (has_key old d p)) → ((d : Address) (p : ℕ) → has_key new d p ≡ cond (eqb dst.0 d.0 && eqb (length ts) p) false (has_key with d p)) → IsSound ts new
sound_undone ts old with new dst s e u = grind (arith, eqb-true, and_parts, slice_get_past, cases_Bool)

-- more of a transfer is acknowledged: all of it, or not
module _ (ts : List Transfer) (old new : List (Address × ℕ)) (place next : ℕ) (t : Transfer) (here : slice_get ts place ≡ Some t) (s : IsSound ts old) where
  sized : (p : ℕ) (u : Transfer) → slice_get (set ts place (record t { acked = next })) p ≡ Some u → IsSized u
  sized p u at = grind (arith, slice_get-set, eqb-true, slice_get, cases_Bool)

  pub sound_acked : t.acked < next → next < t.size → IsSound (set ts place (record t { acked = next })) old
  sound_acked more less = grind (arith, slice_get-set, eqb-true, slice_get, lt-ltb, cases_Bool)

  pub sound_done : t.size ≤ next → ((d : Address) (p : ℕ) → has_key new d p ≡ cond (eqb t.dst.0 d.0 && eqb place p) false (has_key old d p)) → IsSound (set ts place (record t { acked = next })) new
  sound_done all e = grind (arith, eqb-sym, slice_get-set, eqb-true, slice_get, le-ltb, and_right, cases_Bool)

-- ## the first one that is due

due_or : (ts : List Transfer) (dst : Address) (k : ℕ) (t : Transfer) → k < length ts → is_due dst (get_or ts k t) ≡ is_due_at ts dst k
due_or ts dst k t within = sym (ap (λ o. option_map_or (is_due dst) o false) (slice_get-get_or ts k t within))

pub segment_due-first : (files : Files) (dst : Address) (place : ℕ) (t : Transfer) → slice_get files.transfers place ≡ Some t → is_due_at files.transfers dst place ≡ true → ((k : ℕ) → k < place → is_due_at files.transfers dst k ≡ false) → segment_due files dst ≡ Some (segment_of place t)
unfolding segment_due
segment_due-first files dst place t at due none =
    let ts = files.transfers in
    let within : place < length ts = slice_get_within ts place t at in
    let first : position_or_len (is_due dst) ts ≡ place = position_or_len_is (is_due dst) ts place t (omega (arith, within))
    (λ k before. due_or ts dst k t (omega (arith, within)) ∙ none k before)
    (λ within. due_or ts dst place t within ∙ due) in
    rw (first, lt-ltb place (length ts) within, at) refl

none_at : (ts : List Transfer) (dst : Address) → ((k : ℕ) → is_due_at ts dst k ≡ false) → position (is_due dst) ts ≡ None
none_at [] dst none = refl
none_at (x ∷ xs) dst none =
    let all : position_or_len (is_due dst) (x ∷ xs) ≡ length (x ∷ xs) = position_or_len_is (is_due dst) (x ∷ xs) (length (x ∷ xs)) x (omega arith)
    (λ k before. due_or (x ∷ xs) dst k x before ∙ none k)
    (λ within. absurd (omega (arith, within))) in
    rw (all, le-ltb (length (x ∷ xs)) (length (x ∷ xs)) (omega arith)) refl

pub segment_due-none : (files : Files) (dst : Address) → ((k : ℕ) → is_due_at files.transfers dst k ≡ false) → segment_due files dst ≡ None
unfolding segment_due
segment_due-none files dst none = rw (none_at files.transfers dst none) refl

pub due_within : (ts : List Transfer) (dst : Address) (place : ℕ) → is_due_at ts dst place ≡ true → place < length ts
due_within ts dst place due = grind (arith, slice_get_past, cases_lt)
