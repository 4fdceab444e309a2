-- A destination that is noted again decides nothing.
use Rattle.tva_policy.proofs.Common.{◌≡◌, ℕ, true, cond, List, ◌∷◌, ◌++◌, refl, ap, sym, ◌∙◌, arith, list_any-append, sum_by-append, nat_tests, Address, PolicyPlan, Deed, Sent, is_sending_to, is_grant_to, was_sent_to, grants_before, is_granted, grant_decision}

same_sent : (h : List Deed) (a dst : Address) → a.0 ≡ dst.0 → was_sent_to h a ≡ was_sent_to h dst
same_sent h a dst e = ap (λ (n : ℕ). was_sent_to h (record { 0 = n })) e

-- to whom the host sent, with one more sending to an address that it sent to
sent_again : (h more : List Deed) (dst a : Address) → was_sent_to h dst ≡ true → was_sent_to (h ++ Sent dst ∷ more) a ≡ was_sent_to (h ++ more) a
sent_again h more dst a sent =
    let with = list_any-append (is_sending_to a) h (Sent dst ∷ more) in
    let without = list_any-append (is_sending_to a) h more in
    let same = same_sent h a dst in
    grind (arith, nat_tests)

grants_again : (h more : List Deed) (dst a : Address) → grants_before (h ++ Sent dst ∷ more) a ≡ grants_before (h ++ more) a
grants_again h more dst a =
    let counted = λ (d : Deed). cond (is_grant_to a d) 1 0 in
    sum_by-append counted h (Sent dst ∷ more) ∙ sym (sum_by-append counted h more)

pub noted_again : (plan : PolicyPlan) (h more : List Deed) (dst src : Address) (tags : List ℕ) → was_sent_to h dst ≡ true → grant_decision plan (h ++ Sent dst ∷ more) src tags ≡ grant_decision plan (h ++ more) src tags
unfolding is_granted
noted_again plan h more dst src tags sent = rw (sent_again h more dst src sent, grants_again h more dst src) refl
