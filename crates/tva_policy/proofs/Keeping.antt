-- What a policy keeps, after one more deed.
use Rattle.tva_policy.proofs.Common.{◌≡◌, ℕ, ◌+◌, ◌<◌, ◌≤◌, Bool, true, false, ◌&&◌, ◌||◌, not, cond, eqb, ltb, List, [], ◌∷◌, ◌++◌, get_or, set, Option, Some, None, refl, ap, ◌∙◌, arith, All, list_any, All-set, list_any-append, sum_by_push, nat_tests, Address, PolicyPlan, Deed, Sent, Decided, is_sending_to, is_grant_to, was_sent_to, has_address, has_tag, lets_in, is_granted, grant_decision, Notes, StandsFor, IsNotedIn, grants_kept, denies}
use Rattle.std.proofs.lemmas.Bool.{eq-eqb}
use Rattle.tva_base.proofs.Each.{list_any_same}
use Rattle.tva_base.specs.declared.plan.PolicyKind.{PolicyKind}
use Rattle.tva_base.specs.declared.plan.PolicyKind.TheVariants.{DenyAll, Client, Server}

one_or_other : (let_in denied tagged : Bool) → (let_in && not denied && not tagged) ≡ (let_in && not (denied || tagged))
one_or_other true true tagged = refl
one_or_other true false tagged = refl
one_or_other false denied tagged = refl

-- what is kept decides as the history does
pub by_notes : (plan : PolicyPlan) (v : Notes) (h : List Deed) (src : Address) (tags : List ℕ) → StandsFor plan v h → is_granted plan h src tags ≡ (lets_in v.kind (has_address v.noted src) && not (denies v src tags) && ltb (grants_kept v.granted src) v.grants)
unfolding is_granted
by_notes plan v h src tags s =
    let kind = s.kind in
    let grants = s.grants in
    let noted = s.noted src in
    let deny = s.deny src in
    let tagged = list_any_same (has_tag v.deny_tags) (has_tag plan.deny_tags) s.deny_tags tags in
    let granted = s.granted src in
    let both = one_or_other (lets_in v.kind (has_address v.noted src)) (has_address v.deny src) (list_any (has_tag v.deny_tags) tags) in
    cc

lets_in_more : (kind : PolicyKind) (here x y : Bool) → lets_in kind x ≡ lets_in kind y → lets_in kind (cond here true x) ≡ lets_in kind (cond here true y)
lets_in_more DenyAll here x y e = refl
lets_in_more Client here x y e = ap (cond here true) e
lets_in_more Server here x y e = refl

pub stands_sent : (plan : PolicyPlan) (v : Notes) (h : List Deed) (dst : Address) (noted : List Address) → StandsFor plan v h → ((a : Address) → lets_in v.kind (has_address noted a) ≡ lets_in v.kind (cond (eqb dst.0 a.0) true (has_address v.noted a))) → StandsFor plan (record v { noted = noted }) (h ++ Sent dst ∷ [])
stands_sent plan v h dst noted s e = record {
  kind = s.kind;
  rights = s.rights;
  grants = s.grants;
  deny = s.deny;
  deny_tags = s.deny_tags;
  noted = λ a.
      let more = list_any-append (is_sending_to a) h (Sent dst ∷ []) in
      let sent : cond (eqb dst.0 a.0) true (was_sent_to h a) ≡ was_sent_to (h ++ Sent dst ∷ []) a = grind (arith, nat_tests) in
      e a ∙ lets_in_more v.kind (eqb dst.0 a.0) (has_address v.noted a) (was_sent_to h a) (s.noted a) ∙ ap (lets_in v.kind) sent;
  granted = λ a. let more = sum_by_push (λ d. cond (is_grant_to a d) 1 0) h (Sent dst) in let old = s.granted a in grind (arith, nat_tests);
}

-- a decision that grants, or not
pub stands_decided : (plan : PolicyPlan) (v : Notes) (h : List Deed) (src : Address) (is_grant : Bool) (granted : List (Address × ℕ)) → StandsFor plan v h → ((a : Address) → grants_kept granted a ≡ cond (is_grant && eqb a.0 src.0) (grants_kept v.granted a + 1) (grants_kept v.granted a)) → StandsFor plan (record v { granted = granted }) (h ++ Decided src is_grant ∷ [])
stands_decided plan v h src is_grant granted s e = record {
  kind = s.kind;
  rights = s.rights;
  grants = s.grants;
  deny = s.deny;
  deny_tags = s.deny_tags;
  noted = λ a.
      let more = list_any-append (is_sending_to a) h (Decided src is_grant ∷ []) in
      let sent : was_sent_to h a ≡ was_sent_to (h ++ Decided src is_grant ∷ []) a = grind (arith, nat_tests) in
      s.noted a ∙ ap (lets_in v.kind) sent;
  granted = λ a. let more = sum_by_push (λ d. cond (is_grant_to a d) 1 0) h (Decided src is_grant) in let new = e a in let old = s.granted a in grind (arith, nat_tests);
}

pub not_let_in : (plan : PolicyPlan) (v : Notes) (h : List Deed) (src : Address) (tags : List ℕ) → StandsFor plan v h → lets_in v.kind (has_address v.noted src) ≡ false → None ≡ grant_decision plan h src tags
not_let_in plan v h src tags s stopped = rw (by_notes plan v h src tags s, stopped) refl

pub too_often : (plan : PolicyPlan) (v : Notes) (h : List Deed) (src : Address) (tags : List ℕ) (n : ℕ) → StandsFor plan v h → n ≡ grants_kept v.granted src → v.grants ≤ n → None ≡ grant_decision plan h src tags
too_often plan v h src tags n s found over =
    let many : ltb (grants_kept v.granted src) v.grants ≡ false = rw (← found) (grind (arith, nat_tests)) in
    rw (by_notes plan v h src tags s, many) (elim (lets_in v.kind (has_address v.noted src) && not (denies v src tags)) as (λ b. None ≡ cond (b && false) (Some plan.rights) None) [ true ↦ refl | false ↦ refl ])

pub denied : (plan : PolicyPlan) (v : Notes) (h : List Deed) (src : Address) (tags : List ℕ) → StandsFor plan v h → denies v src tags ≡ true → None ≡ grant_decision plan h src tags
denied plan v h src tags s stopped =
    rw (by_notes plan v h src tags s, stopped) (elim (lets_in v.kind (has_address v.noted src)) as (λ b. None ≡ cond (b && false && ltb (grants_kept v.granted src) v.grants) (Some plan.rights) None) [ true ↦ refl | false ↦ refl ])

pub granted : (plan : PolicyPlan) (v : Notes) (h : List Deed) (src : Address) (tags : List ℕ) (n : ℕ) → StandsFor plan v h → n ≡ grants_kept v.granted src → n < v.grants → lets_in v.kind (has_address v.noted src) ≡ true → denies v src tags ≡ false → Some v.rights ≡ grant_decision plan h src tags
granted plan v h src tags n s found under passed kept =
    let few : ltb (grants_kept v.granted src) v.grants ≡ true = rw (← found) (grind (arith, nat_tests)) in
    rw (by_notes plan v h src tags s, passed, kept, few) (ap Some s.rights)

-- what is remembered stays noted where one more is
noted_more : (dst : Address) (old new : List Address) → ((a : Address) → has_address new a ≡ cond (eqb dst.0 a.0) true (has_address old a)) → (o : Option Address) → IsNotedIn old o → IsNotedIn new o
noted_more dst old new e None n = tt
noted_more dst old new e (Some a) n = rw (e a, n) (elim (eqb dst.0 a.0) as (λ b. cond b true true ≡ true) [ true ↦ refl | false ↦ refl ])

pub recent_more : (dst : Address) (old new : List Address) → ((a : Address) → has_address new a ≡ cond (eqb dst.0 a.0) true (has_address old a)) → (recent : List (Option Address)) (i : ℕ) → All (IsNotedIn old) recent → All (IsNotedIn new) (set recent i (Some dst))
recent_more dst old new e recent i all =
    All-set (IsNotedIn new) recent i (Some dst) (e dst ∙ rw (eq-eqb dst.0 dst.0 refl) refl) (λ k d l. noted_more dst old new e (get_or recent k d) (all k d l))

-- one that is noted may be noted again
pub again : (dst : Address) (noted : List Address) → has_address noted dst ≡ true → (a : Address) → has_address noted a ≡ cond (eqb dst.0 a.0) true (has_address noted a)
again dst noted n a =
    let same : dst.0 ≡ a.0 → has_address noted dst ≡ has_address noted a = λ e. ap (λ (x : ℕ). has_address noted (record { 0 = x })) e in
    grind (arith, nat_tests)
