-- Chains stay those of their buckets where a place is taken out or put in.
use Rattle.tva_index.proofs.Common.{◌≡◌, ℕ, ◌+◌, ◌<◌, ◌≤◌, List, length, get_or, set, Option, Some, None, sym, ◌∙◌, subst, inl, inr, arith, cases_lt, cases_eq, length-set, get_or_read, IsLastBelow, AreLinked, IsFirstAbove, IsWalk, link_of, with_last, with_before}
use Rattle.tva_index.proofs.Homes.{in_range, one_home, at_some, here, elsewhere, removed, last-out, last_before, added, last-other, last_below, last_above, last_is, last_moves}

-- what is above the place in its bucket is the first of those, and there is none between
between : (hs : List (Option ℕ)) (p b a : ℕ) → IsFirstAbove hs p b (Some a) → (q : ℕ) → p < q → q < a → get_or hs q None ≡ Some b → ⊥
between hs p b a g q x t h = let z = g.2 q x h in absurd (omega (arith, z, t))

-- a place is taken out
pub linked-out : (last before hs : List (Option ℕ)) (p b : ℕ) (above : Option ℕ) → AreLinked last before hs → p < length hs → get_or hs p None ≡ Some b → IsFirstAbove hs p b above
    → AreLinked (with_last last b above (get_or before p None)) (with_before before above (get_or before p None)) (set hs p None)
linked-out last before hs p b None k l h g =
    let o = get_or before p None in
    let n : length (set hs p None) ≡ length hs = length-set hs p None in
    let bl = k.known p b h in
    record {
      same = k.same ∙ sym n;
      starts = λ c w. elim (cases_eq c b) [
        | inl e ↦ subst (λ z. IsLastBelow (set hs p None) (length (set hs p None)) c z) (sym (here last b c o bl e))
            (subst (λ z. IsLastBelow (set hs p None) z c o) (sym n) (subst (λ z. IsLastBelow (set hs p None) (length hs) z o) (sym e) (last_before hs p (length hs) b o l l (k.steps p b h) (λ q x t y. g q x y))))
        | inr d ↦ (
            let s = k.starts c (omega (arith, w, length-set last b o)) in
            subst (λ z. IsLastBelow (set hs p None) (length (set hs p None)) c z) (sym (elsewhere last b c o d))
            (subst (λ z. IsLastBelow (set hs p None) z c (get_or last c None)) (sym n) (last-out hs p (length hs) c (get_or last c None) l s (λ y. d (one_home hs p b c h (at_some hs (length hs) c (get_or last c None) p s y).1)))))
      ];
      steps = λ q c w.
          let r = removed hs p q c l w in
          let s = k.steps q c r.1 in
          last-out hs p q c (get_or before q None) l s (λ y.
          let z = at_some hs q c (get_or before q None) p s y in
          g q z.0 (subst (λ x. get_or hs q None ≡ Some x) (one_home hs p b c h z.1) r.1));
      known = λ q c w. let z = k.known q c (removed hs p q c l w).1 in omega (arith, z, length-set last b o);
    }
linked-out last before hs p b (Some a) k l h g =
    let o = get_or before p None in
    let n : length (set hs p None) ≡ length hs = length-set hs p None in
    let al = in_range hs a b g.1 in
    record {
      same = length-set before a o ∙ (k.same ∙ sym n);
      starts = λ c w.
          let s = k.starts c w in
          subst (λ z. IsLastBelow (set hs p None) z c (get_or last c None)) (sym n) (last-out hs p (length hs) c (get_or last c None) l s (λ y.
          let z = at_some hs (length hs) c (get_or last c None) p s y in
          let x = z.2 a al (subst (λ x. get_or hs a None ≡ Some x) (sym (one_home hs p b c h z.1)) g.1) in
          absurd (omega (arith, x, g.0))));
      steps = λ q c w.
          let r = removed hs p q c l w in
          elim (cases_eq q a) [
            | inl e ↦ (
                let cb : c ≡ b = one_home hs a b c g.1 (subst (λ z. get_or hs z None ≡ Some c) e r.1) in
                subst (λ z. IsLastBelow (set hs p None) q c z) (sym (here before a q o (omega (arith, al, k.same)) e))
                (subst (λ z. IsLastBelow (set hs p None) q z o) (sym cb) (subst (λ z. IsLastBelow (set hs p None) z b o) (sym e) (last_before hs p a b o l g.0 (k.steps p b h) (between hs p b a g)))))
            | inr d ↦ (
                let s = k.steps q c r.1 in
                subst (λ z. IsLastBelow (set hs p None) q c z) (sym (elsewhere before a q o d))
                (last-out hs p q c (get_or before q None) l s (λ y.
                let z = at_some hs q c (get_or before q None) p s y in
                let cb = one_home hs p b c h z.1 in
                let v = g.2 q z.0 (subst (λ x. get_or hs q None ≡ Some x) cb r.1) in
                let x = z.2 a (omega (arith, v, d)) (subst (λ x. get_or hs a None ≡ Some x) (sym cb) g.1) in
                absurd (omega (arith, x, g.0)))))
          ];
      known = λ q c w. k.known q c (removed hs p q c l w).1;
    }

-- a place that is in no bucket is put into one
pub linked-in : (last before hs : List (Option ℕ)) (p b : ℕ) (above : Option ℕ) → AreLinked last before hs → p < length hs → get_or hs p None ≡ None → b < length last → IsFirstAbove hs p b above
    → AreLinked (with_last last b above (Some p)) (with_before (set before p (link_of last before b above)) above (Some p)) (set hs p (Some b))
linked-in last before hs p b None k l f bl g =
    let o = get_or last b None in
    let n : length (set hs p (Some b)) ≡ length hs = length-set hs p (Some b) in
    record {
      same = length-set before p o ∙ (k.same ∙ sym n);
      starts = λ c w. elim (cases_eq c b) [
        | inl e ↦ subst (λ z. IsLastBelow (set hs p (Some b)) (length (set hs p (Some b))) c z) (sym (here last b c (Some p) bl e))
            (subst (λ z. IsLastBelow (set hs p (Some b)) z c (Some p)) (sym n) (subst (λ z. IsLastBelow (set hs p (Some b)) (length hs) z (Some p)) (sym e) (last_is hs p (length hs) b l l (λ q x t y. g q x y))))
        | inr d ↦ subst (λ z. IsLastBelow (set hs p (Some b)) (length (set hs p (Some b))) c z) (sym (elsewhere last b c (Some p) d))
            (subst (λ z. IsLastBelow (set hs p (Some b)) z c (get_or last c None)) (sym n) (last-other hs p (length hs) b c (get_or last c None) l f d (k.starts c (omega (arith, w, length-set last b (Some p))))))
      ];
      steps = λ q c w. elim (added hs p q b c l w) [
        | inl y ↦ subst (λ z. IsLastBelow (set hs p (Some b)) q c z) (sym (here before p q o (omega (arith, l, k.same)) y.0))
            (subst (λ z. IsLastBelow (set hs p (Some b)) q z o) (sym y.1) (subst (λ z. IsLastBelow (set hs p (Some b)) z b o) (sym y.0) (last_below hs p p b o l f (omega arith) (last_moves hs p (length hs) b o f l (k.starts b bl) (λ q x t y. g q x y)))))
        | inr y ↦ subst (λ z. IsLastBelow (set hs p (Some b)) q c z) (sym (elsewhere before p q o y.0)) (elim (cases_eq c b) [
          | inl e ↦ (
              let s = k.steps q c y.1 in
              let u : q ≤ p = elim (cases_lt p q) [ inl x ↦ absurd (g q x (subst (λ z. get_or hs q None ≡ Some z) e y.1)) | inr x ↦ x ] in
              subst (λ z. IsLastBelow (set hs p (Some b)) q z (get_or before q None)) (sym e) (last_below hs p q b (get_or before q None) l f u (subst (λ z. IsLastBelow hs q z (get_or before q None)) e s)))
          | inr d ↦ last-other hs p q b c (get_or before q None) l f d (k.steps q c y.1)
        ])
      ];
      known = λ q c w. elim (added hs p q b c l w) [ inl y ↦ omega (arith, y.1, bl, length-set last b (Some p)) | inr y ↦ (let z = k.known q c y.1 in omega (arith, z, length-set last b (Some p))) ];
    }
linked-in last before hs p b (Some a) k l f bl g =
    let o = get_or before a None in
    let n : length (set hs p (Some b)) ≡ length hs = length-set hs p (Some b) in
    let al = in_range hs a b g.1 in
    let s0 = k.steps a b g.1 in
    record {
      same = length-set (set before p o) a (Some p) ∙ (length-set before p o ∙ (k.same ∙ sym n));
      starts = λ c w. subst (λ z. IsLastBelow (set hs p (Some b)) z c (get_or last c None)) (sym n) (elim (cases_eq c b) [
        | inl e ↦ subst (λ z. IsLastBelow (set hs p (Some b)) (length hs) z (get_or last c None)) (sym e) (last_above hs p (length hs) b a (get_or last c None) l f g.0 al g.1 (subst (λ z. IsLastBelow hs (length hs) z (get_or last c None)) e (k.starts c w)))
        | inr d ↦ last-other hs p (length hs) b c (get_or last c None) l f d (k.starts c w)
      ]);
      steps = λ q c w. elim (cases_eq q a) [
        | inl e ↦ (
            let r : get_or hs a None ≡ Some c = elim (added hs p q b c l w) [ inl y ↦ absurd (omega (arith, g.0, e, y.0)) | inr y ↦ subst (λ z. get_or hs z None ≡ Some c) e y.1 ] in
            let cb = one_home hs a b c g.1 r in
            subst (λ z. IsLastBelow (set hs p (Some b)) q c z) (sym (here (set before p o) a q (Some p) (omega (arith, al, k.same, length-set before p o)) e))
            (subst (λ z. IsLastBelow (set hs p (Some b)) q z (Some p)) (sym cb) (subst (λ z. IsLastBelow (set hs p (Some b)) z b (Some p)) (sym e) (last_is hs p a b l g.0 (between hs p b a g)))))
        | inr d ↦ subst (λ z. IsLastBelow (set hs p (Some b)) q c z) (sym (elsewhere (set before p o) a q (Some p) d)) (elim (added hs p q b c l w) [
          | inl y ↦ subst (λ z. IsLastBelow (set hs p (Some b)) q c z) (sym (here before p q o (omega (arith, l, k.same)) y.0))
              (subst (λ z. IsLastBelow (set hs p (Some b)) q z o) (sym y.1) (subst (λ z. IsLastBelow (set hs p (Some b)) z b o) (sym y.0) (last_below hs p p b o l f (omega arith) (last_moves hs p a b o f g.0 s0 (between hs p b a g)))))
          | inr y ↦ subst (λ z. IsLastBelow (set hs p (Some b)) q c z) (sym (elsewhere before p q o y.0)) (elim (cases_eq c b) [
            | inl e ↦ (
                let r : get_or hs q None ≡ Some b = subst (λ z. get_or hs q None ≡ Some z) e y.1 in
                let s = subst (λ z. IsLastBelow hs q z (get_or before q None)) e (k.steps q c y.1) in
                subst (λ z. IsLastBelow (set hs p (Some b)) q z (get_or before q None)) (sym e) (elim (cases_lt p q) [
                  | inl x ↦ (let v = g.2 q x r in last_above hs p q b a (get_or before q None) l f g.0 (omega (arith, v, d)) g.1 s)
                  | inr x ↦ last_below hs p q b (get_or before q None) l f x s
                ]))
            | inr t ↦ last-other hs p q b c (get_or before q None) l f t (k.steps q c y.1)
          ])
        ])
      ];
      known = λ q c w. elim (added hs p q b c l w) [ inl y ↦ omega (arith, y.1, bl) | inr y ↦ k.known q c y.1 ];
    }

-- where a walk stands
abbrev pub rank : Option ℕ → ℕ
rank None = 0
rank (Some p) = p + 1

pub rank-le : (hs : List (Option ℕ)) (n b : ℕ) (o : Option ℕ) → IsLastBelow hs n b o → rank o ≤ n
rank-le hs n b o k = grind arith

pub walk_place : (hs : List (Option ℕ)) (place b : ℕ) (above : Option ℕ) (other : ℕ) → IsWalk hs place b above (Some other) → get_or hs other None ≡ Some b
walk_place hs place b above other w = grind arith

-- what is read of the chains
pub start_read : (last before hs : List (Option ℕ)) (b : ℕ) (x : Option ℕ) → AreLinked last before hs → b < length last → x ≡ get_or last b x → IsLastBelow hs (length hs) b x
start_read last before hs b x k l e = subst (IsLastBelow hs (length hs) b) (sym (get_or_read last b x l e None)) (k.starts b l)

pub step_read : (last before hs : List (Option ℕ)) (p b : ℕ) (x : Option ℕ) → AreLinked last before hs → p < length hs → x ≡ get_or before p x → get_or hs p None ≡ Some b → IsLastBelow hs p b x
step_read last before hs p b x k l e h = subst (IsLastBelow hs p b) (sym (get_or_read before p x (omega (arith, l, k.same)) e None)) (k.steps p b h)

pub home_read : (hs : List (Option ℕ)) (p : ℕ) (x y : Option ℕ) → p < length hs → x ≡ get_or hs p x → x ≡ y → get_or hs p None ≡ y
home_read hs p x y l e f = sym (get_or_read hs p x l e None) ∙ f

-- the chains that the changes leave
pub linked-out_is : (last before hs last' before' hs' : List (Option ℕ)) (p b : ℕ) (above below : Option ℕ) → AreLinked last before hs → p < length hs → get_or hs p None ≡ Some b → IsFirstAbove hs p b above
    → below ≡ get_or before p None → last' ≡ with_last last b above below → before' ≡ with_before before above below → hs' ≡ set hs p None → AreLinked last' before' hs'
linked-out_is last before hs last' before' hs' p b above below k l h g d e f i = rw (i, e, f, d) (linked-out last before hs p b above k l h g)

pub linked-in_is : (last before hs last' before' hs' : List (Option ℕ)) (p b : ℕ) (above below : Option ℕ) → AreLinked last before hs → p < length hs → get_or hs p None ≡ None → b < length last → IsFirstAbove hs p b above
    → below ≡ link_of last before b above → last' ≡ with_last last b above (Some p) → before' ≡ with_before (set before p below) above (Some p) → hs' ≡ set hs p (Some b) → AreLinked last' before' hs'
linked-in_is last before hs last' before' hs' p b above below k l h bl g d e f i = rw (i, e, f, d) (linked-in last before hs p b above k l h bl g)
