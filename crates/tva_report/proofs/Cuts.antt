-- Lemmas on the pieces of a text.
use Rattle.tva_report.proofs.Common.{◌≡◌, ℕ, ◌+◌, ◌<◌, ◌≤◌, true, false, List, [], ◌∷◌, ◌++◌, length, get_or, take, drop, refl, ◌∙◌, ap, arith, inl, inr, zero, suc, Some, None, add-one, append_assoc, append-nil, not, ◌-◌, length-append, length-drop, list_any, position, position_or_len, cases_Bool, eqb-true, ltb-false, take_while-cons, fails_before_first, list_any_none, nat_lt, ended, is_feed, pieces, without_feed}
use Rattle.std.proofs.Math.Seq.{take-length, drop-length}
use Rattle.std.proofs.lemmas.List.Quantifiers.{position-Some}

-- text without a line feed
abbrev pub HasNoFeed : List ℕ → Type 0
HasNoFeed text = list_any is_feed text ≡ false

pub first_no : (b : ℕ) (bs : List ℕ) → HasNoFeed (b ∷ bs) → is_feed b ≡ false
first_no b bs h = elim (cases_Bool (is_feed b)) [ inl a ↦ let e = rw a at h in absurd cc | inr a ↦ a ]

pub rest_no : (b : ℕ) (bs : List ℕ) → HasNoFeed (b ∷ bs) → HasNoFeed bs
rest_no b bs h = let a = first_no b bs h in rw a at h

pub pieces_ended : (line rest : List ℕ) → HasNoFeed line → pieces (line ++ 10 ∷ rest) ≡ ended line ∷ pieces rest
pieces_ended [] rest h = refl
pieces_ended (b ∷ bs) rest h = let a = first_no b bs h in rw (a, pieces_ended bs rest (rest_no b bs h)) refl

pub pieces_unended : (b : ℕ) (bs : List ℕ) → HasNoFeed (b ∷ bs) → pieces (b ∷ bs) ≡ (b ∷ bs) ∷ []
pieces_unended b [] h = let a = first_no b [] h in rw a refl
pieces_unended b (c ∷ cs) h = let a = first_no b (c ∷ cs) h in rw (a, pieces_unended c cs (rest_no b (c ∷ cs) h)) refl

pub any_feed-ended : (line : List ℕ) → list_any is_feed (ended line) ≡ true
any_feed-ended [] = refl
any_feed-ended (b ∷ bs) = elim (cases_Bool (is_feed b)) [ inl a ↦ rw a refl | inr a ↦ rw (a, any_feed-ended bs) refl ]

-- one more byte that is no line feed stands before the first
pub before-cons : (b : ℕ) (bs : List ℕ) → is_feed b ≡ false → without_feed (b ∷ bs) ≡ b ∷ without_feed bs
before-cons b bs h = take_while-cons (λ x. not (is_feed x)) b bs ∙ rw h refl

pub without_feed-ended : (line : List ℕ) → HasNoFeed line → without_feed (ended line) ≡ line
without_feed-ended [] h = refl
without_feed-ended (b ∷ bs) h =
    before-cons b (ended bs) (first_no b bs h) ∙ ap (λ xs. b ∷ xs) (without_feed-ended bs (rest_no b bs h))

pub without_feed-unended : (line : List ℕ) → HasNoFeed line → without_feed line ≡ line
without_feed-unended [] h = refl
without_feed-unended (b ∷ bs) h = before-cons b bs (first_no b bs h) ∙ ap (λ xs. b ∷ xs) (without_feed-unended bs (rest_no b bs h))

-- what stands up to the first line feed, and behind it
pub record IsCut (text : List ℕ) (at : ℕ) : Type 0 where
  pub before : HasNoFeed (take at text)
  pub joined : text ≡ take at text ++ 10 ∷ drop (at + 1) text

cut_from : (text : List ℕ) (at : ℕ) → at < length text → is_feed (get_or text at 0) ≡ true → ((k : ℕ) → k < at → is_feed (get_or text k 0) ≡ false) → IsCut text at
cut_from [] at l y n = absurd (omega arith)
cut_from (b ∷ bs) zero l y n = record { before = refl; joined = ap (λ x. x ∷ bs) (eqb-true b 10 y) }
cut_from (b ∷ bs) (suc at) l y n =
    let first : is_feed b ≡ false = n 0 (omega arith) in
    let inner = cut_from bs at (omega arith) y (λ k h. n (suc k) (omega arith)) in
    record { before = rw first inner.before; joined = rw add-one (ap (λ xs. b ∷ xs) (rw add-one at inner.joined)) }

pub cut_at_first : (text : List ℕ) (at : ℕ) → position is_feed text ≡ Some at → IsCut text at
cut_at_first text at e = let p = position-Some is_feed text at 0 e in cut_from text at p.0 p.1 p.2

pub none_without_feed : (text : List ℕ) → position is_feed text ≡ None → HasNoFeed text
none_without_feed text e =
    elim (cases_Bool (nat_lt (position_or_len is_feed text) (length text))) [
      | inl a ↦ let none = rw a at e in absurd cc
      | inr a ↦
          let past = ltb-false (position_or_len is_feed text) (length text) a in
          list_any_none is_feed text (λ k d l. fails_before_first is_feed text k d (omega arith))
    ]

-- ## what a slice takes off the front

-- the slice from there on
pub slice_from : (text : List ℕ) (at : ℕ) → take (length text - at) (drop at text) ≡ drop at text
slice_from text at = rw (← length-drop at text) (take-length (drop at text))

pub pieces_cut : (text : List ℕ) (at : ℕ) → IsCut text at → pieces text ≡ ended (take at text) ∷ pieces (take (length text - (at + 1)) (drop (at + 1) text))
pieces_cut text at cut =
    rw (slice_from text (at + 1)) (ap pieces cut.joined ∙ pieces_ended (take at text) (drop (at + 1) text) cut.before)

pub bytes_cut : (text : List ℕ) (at : ℕ) → IsCut text at → text ≡ ended (take at text) ++ take (length text - (at + 1)) (drop (at + 1) text)
bytes_cut text at cut = rw (slice_from text (at + 1), append_assoc) cut.joined

pub some_ended : (line : List ℕ) → 1 ≤ length (ended line)
some_ended line = omega (arith, length-append line (10 ∷ []))

pub pieces_last : (text : List ℕ) → 1 ≤ length text → HasNoFeed text → pieces text ≡ text ∷ pieces (take (length text - length text) (drop (length text) text))
pieces_last [] l h = absurd (omega arith)
pieces_last (b ∷ bs) l h = rw (slice_from (b ∷ bs) (length (b ∷ bs)), drop-length (b ∷ bs)) (pieces_unended b bs h)

pub bytes_last : (text : List ℕ) → text ≡ text ++ take (length text - length text) (drop (length text) text)
bytes_last text = rw (slice_from text (length text), drop-length text, append-nil) refl
