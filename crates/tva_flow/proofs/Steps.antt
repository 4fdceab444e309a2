-- One flow, and its entry, once time goes on or a charge comes.
use Rattle.tva_flow.proofs.Common.{◌≡◌, ℕ, ◌+◌, ◌<◌, ◌≤◌, Bool, true, false, cond, ltb, List, [], ◌∷◌, ◌++◌, length, Option, Some, None, refl, sym, ap, ◌∙◌, subst, inl, inr, ◌⊎◌, suc, arith, nat_tests, leb_tells, sum_by-cons, sum_by_push, Grant, Entry, credit_of, Charge, charge, end_of, is_living, run, bytes_under, bytes_of, last_charge, entry, Holds, IsKept}
use Rattle.std.specs.Bool.{MatchBool}
use Rattle.tva_flow.proofs.Same.{same_grant-self}
use Rattle.tva_flow.proofs.Pushes.{end_of-push, run-push, last_charge-push}

-- by whether a < b
pub by_lt : (a b : ℕ) (P : Bool → Type 0) → (a < b → P true) → (b ≤ a → P false) → P (ltb a b)
by_lt a b P t f = elim (leb_tells (suc a) b) [ inl h ↦ subst P (sym h.0) (t (omega (arith, h.1))) | inr h ↦ subst P (sym h.0) (f (omega (arith, h.1))) ]

pub not_living : (cs : List Charge) (now : ℕ) → end_of cs ≤ now → is_living cs now ≡ false
not_living cs now h = grind (arith, nat_tests)

pub living : (cs : List Charge) (now : ℕ) → now < end_of cs → is_living cs now ≡ true
living cs now h = grind (arith, nat_tests)

pub end_from_dead : (cs : List Charge) (now : ℕ) → is_living cs now ≡ false → end_of cs ≤ now
end_from_dead cs now h = grind (arith, nat_tests)

-- an entry of a flow that holds is kept
pub kept-from_holds : (cs : List Charge) (now : ℕ) (e : Entry) → Holds cs e → IsKept (Some e) cs now
kept-from_holds cs now e h = by_lt now (end_of cs) (λ b. MatchBool b (Holds cs e) (e.end ≤ now)) (λ l. h) (λ l. omega (arith, h.end))

-- what is kept, by cases
pub kept_cases : (cs : List Charge) (last : ℕ) (e : Entry) → IsKept (Some e) cs last → Holds cs e ⊎ ((end_of cs ≤ last) × (e.end ≤ last))
kept_cases cs last e = by_lt last (end_of cs) (λ b. MatchBool b (Holds cs e) (e.end ≤ last) → Holds cs e ⊎ ((end_of cs ≤ last) × (e.end ≤ last))) (λ l h. inl h) (λ l h. inr (l, h))

pub holds_now : (cs : List Charge) (last now : ℕ) (e : Entry) → last ≤ now → IsKept (Some e) cs last → now < e.end → Holds cs e
holds_now cs last now e l k n = elim (kept_cases cs last e k) [ inl h ↦ h | inr h ↦ absurd (omega arith) ]

pub dead_now : (cs : List Charge) (last now : ℕ) (e : Entry) → last ≤ now → IsKept (Some e) cs last → e.end ≤ now → end_of cs ≤ now
dead_now cs last now e l k n = elim (kept_cases cs last e k) [ inl h ↦ omega (arith, h.end) | inr h ↦ omega arith ]

pub kept_later : (o : Option Entry) (cs : List Charge) (last now : ℕ) → last ≤ now → IsKept o cs last → IsKept o cs now
kept_later None cs last now l k = not_living cs now (let h = end_from_dead cs last k in omega arith)
kept_later (Some e) cs last now l k = elim (kept_cases cs last e k) [
  | inl h ↦ kept-from_holds cs now e h
  | inr h ↦ subst (λ b. MatchBool b (Holds cs e) (e.end ≤ now)) (sym (not_living cs now (omega arith))) (omega arith)
]

pub same_last : (cs : List Charge) (x c : Charge) → last_charge (cs ++ x ∷ []) ≡ Some c → x ≡ c
same_last cs x c h = cc (last_charge-push cs x)

pub bytes_under-own : (g : Grant) (now nonce length : ℕ) → bytes_under g (charge now g nonce length) ≡ length
bytes_under-own g now nonce length = rw (same_grant-self g) refl

pub run_new : (cs : List Charge) (x : Charge) → is_living cs x.time ≡ false → run [] (cs ++ x ∷ []) ≡ x ∷ []
run_new cs x h = run-push [] cs x ∙ ap (λ b. cond b (run [] cs ++ x ∷ []) (x ∷ [])) h

pub run_more : (cs : List Charge) (x : Charge) → is_living cs x.time ≡ true → run [] (cs ++ x ∷ []) ≡ run [] cs ++ x ∷ []
run_more cs x h = run-push [] cs x ∙ ap (λ b. cond b (run [] cs ++ x ∷ []) (x ∷ [])) h

-- the first charge of a run
pub holds-new : (cs : List Charge) (now : ℕ) (g : Grant) (cap nonce length : ℕ) → end_of cs ≤ now → Holds (cs ++ charge now g nonce length ∷ []) (entry g cap nonce length (now + credit_of length g.rights))
holds-new cs now g cap nonce length d = record {
  end = omega (arith, end_of-push cs (charge now g nonce length));
  holder = λ c h. let e = same_last cs (charge now g nonce length) c h in (ap (λ (x : Charge). x.grant) (sym e), ap (λ (x : Charge). x.nonce) (sym e));
  used = rw (run_new cs (charge now g nonce length) (not_living cs now d)) (omega (arith, bytes_under-own g now nonce length, sum_by-cons (bytes_under g) (charge now g nonce length) []));
}

-- one more charge of a run
pub holds-more : (cs : List Charge) (now : ℕ) (e : Entry) (g : Grant) (cap nonce length used : ℕ) → Holds cs e → now < e.end → used ≡ bytes_of g (run [] cs) + length
    → Holds (cs ++ charge now g nonce length ∷ []) (entry g cap nonce used (e.end + credit_of length g.rights))
holds-more cs now e g cap nonce length used h n u = record {
  end = omega (arith, end_of-push cs (charge now g nonce length), h.end);
  holder = λ c k. let e = same_last cs (charge now g nonce length) c k in (ap (λ (x : Charge). x.grant) (sym e), ap (λ (x : Charge). x.nonce) (sym e));
  used = rw (run_more cs (charge now g nonce length) (living cs now (omega (arith, h.end)))) (omega (arith, u, bytes_under-own g now nonce length, sum_by_push (bytes_under g) (run [] cs) (charge now g nonce length)));
}
