-- In a run a grant that is newer than the holder's has no charge yet.
use Rattle.tva_flow.proofs.Common.{◌≡◌, ℕ, ◌<◌, true, false, cond, List, [], ◌∷◌, ◌++◌, Some, refl, sym, subst, arith, append_assoc, append-nil, nat_tests, sum_by-cons, sum_by_push, Flow, Grant, Charge, end_of, is_living, run, bytes_under, bytes_of, last_or, last_charge, of_flow, supersedes, IsAuthorised, AreNext}
use Rattle.tva_flow.proofs.Same.{by_flow, and_false}
use Rattle.tva_flow.proofs.Pushes.{of_flow-push}
use Rattle.tva_flow.proofs.Steps.{by_lt, same_last, run_new, run_more}
use Rattle.tva_flow.proofs.Rows.{authorised_rows}

abbrev pub IsRising : List Charge → Type 0
IsRising cs = (g : Grant) (c : Charge) → last_charge cs ≡ Some c → c.grant.second < g.second → bytes_of g (run [] cs) ≡ 0

newer_bytes : (g : Grant) (x : Charge) → x.grant.second < g.second → bytes_under g x ≡ 0
newer_bytes g x l = grind (arith, nat_tests)

-- the last charge doesn't keep this one out, so it is no newer
older : (d x : Charge) (g : Grant) → supersedes (Some d) x.grant ≡ false → x.grant.second < g.second → d.grant.second < g.second
older d x g b l = grind (arith, nat_tests)

before_newer : (cs : List Charge) (x : Charge) (g : Grant) → IsRising cs → supersedes (last_charge cs) x.grant ≡ false → x.grant.second < g.second → bytes_of g (run [] cs) ≡ 0
before_newer [] x g r b l = refl
before_newer (d ∷ ds) x g r b l = r g (last_or d ds) refl (older (last_or d ds) x g b l)

pub rising-push : (cs : List Charge) (x : Charge) → IsRising cs → (is_living cs x.time ≡ true → supersedes (last_charge cs) x.grant ≡ false) → IsRising (cs ++ x ∷ [])
rising-push cs x r b g c e l =
    let k : x.grant.second < g.second = rw (same_last cs x c e) l in
    let n = newer_bytes g x k in
    by_lt x.time (end_of cs) (λ t. (is_living cs x.time ≡ t) → bytes_of g (run [] (cs ++ x ∷ [])) ≡ 0)
    (λ h q. rw (run_more cs x q) (omega (arith, n, before_newer cs x g r (b q) k, sum_by_push (bytes_under g) (run [] cs) x)))
    (λ h q. rw (run_new cs x q) (omega (arith, n, sum_by-cons (bytes_under g) x [])))
    refl

rising_step : (slots offset : ℕ) (before : List Charge) (c : Charge) → ((f : Flow) → IsRising (of_flow f before)) → IsAuthorised slots offset before c → (f : Flow) → IsRising (of_flow f (before ++ c ∷ []))
rising_step slots offset before c r v f =
    let rows = authorised_rows slots offset before c v in
    subst IsRising (sym (of_flow-push f before c))
    (by_flow c.grant.flow f (λ b. IsRising (cond b (of_flow f before ++ c ∷ []) (of_flow f before)))
    (λ e. rising-push (of_flow f before) c (r f) (λ q. subst (λ z. supersedes (last_charge (of_flow z before)) c.grant ≡ false) e (and_false _ _ rows.0 (subst (λ z. is_living (of_flow z before) c.time ≡ true) (sym e) q))))
    (λ e. r f))

rising_all : (slots offset : ℕ) (before h : List Charge) → ((f : Flow) → IsRising (of_flow f before)) → AreNext slots offset before h → (f : Flow) → IsRising (of_flow f (before ++ h))
rising_all slots offset before [] r a = rw (append-nil before) r
rising_all slots offset before (c ∷ cs) r a = rw (← append_assoc before (c ∷ []) cs) (rising_all slots offset (before ++ c ∷ []) cs (rising_step slots offset before c r a.0.authorised) a.1)

pub rising : (slots offset : ℕ) (h : List Charge) → AreNext slots offset [] h → (f : Flow) → IsRising (of_flow f h)
rising slots offset h a = rising_all slots offset [] h (λ f g c e l. absurd (cc)) a
