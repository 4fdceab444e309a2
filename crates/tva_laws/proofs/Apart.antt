-- The hosts of a valid configuration have addresses of their own.
use Rattle.tva_laws.proofs.Common.{◌≡◌, ℕ, zero, suc, List, [], ◌∷◌, Contains, Option, Some, refl, sym, ap, subst, ◌∙◌, arith, slice_get, option_map, same_Some, HostPlan, AreDistinct, Config, NodePlan, IsConfig, addresses_at, Site, site_of, links_out, IsHostAt, nat_tests}
use Rattle.tva_plan.specs.declared.config.NodePlan.TheVariants as plans

contained : (ps : List NodePlan) (n : ℕ) (p : HostPlan) → slice_get ps n ≡ Some (plans.Host p) → Contains (addresses_at ps) p.address
contained [] n p here = absurd (cc)
contained (z0 ∷ ps) zero p here = grind (arith, nat_tests)
contained (plans.Router q ∷ ps) (suc n) p here = contained ps n p here
contained (plans.Host q ∷ ps) (suc n) p here = let c = contained ps n p here in (suc c.0, (let l = c.1 in omega (arith, l)), c.2)

other : (ps : List NodePlan) (q p : HostPlan) (n : ℕ) → AreDistinct (q.address ∷ addresses_at ps)
    → slice_get ps n ≡ Some (plans.Host p) → q.address ≡ p.address → ⊥
other ps q p n d here same = d.0 (subst (Contains (addresses_at ps)) (sym same) (contained ps n p here))

one_place : (ps : List NodePlan) (n m : ℕ) (p q : HostPlan) → AreDistinct (addresses_at ps) → slice_get ps n ≡ Some (plans.Host p)
    → slice_get ps m ≡ Some (plans.Host q) → p.address ≡ q.address → n ≡ m
one_place [] n m p q d here there same = absurd (cc)
one_place (r ∷ ps) zero zero p q d here there same = refl
one_place (plans.Router r ∷ ps) zero (suc m) p q d here there same = absurd (cc)
one_place (plans.Router r ∷ ps) (suc n) zero p q d here there same = absurd (cc)
one_place (plans.Router r ∷ ps) (suc n) (suc m) p q d here there same = ap suc (one_place ps n m p q d here there same)
one_place (plans.Host r ∷ ps) zero (suc m) p q d here there same =
    let is : r ≡ p = cc in absurd (other ps r q m d there (ap (λ (h : HostPlan). h.address) is ∙ same))
one_place (plans.Host r ∷ ps) (suc n) zero p q d here there same =
    let is : r ≡ q = cc in absurd (other ps r p n d here (ap (λ (h : HostPlan). h.address) is ∙ sym same))
one_place (plans.Host r ∷ ps) (suc n) (suc m) p q d here there same = ap suc (one_place ps n m p q d.1 here there same)

plan_by : (config : Config) (n : ℕ) (site : Site) (plan : HostPlan) (o : Option NodePlan)
    → option_map (λ p. site_of n p (links_out n config.links)) o ≡ Some site → site.plan ≡ plans.Host plan → o ≡ Some (plans.Host plan)
plan_by config n site plan o h e = grind (arith, nat_tests, same_Some)

-- hosts of one address are one
pub hosts_apart : (config : Config) (n m : ℕ) (p q : HostPlan) → IsConfig config → IsHostAt config n p → IsHostAt config m q
    → p.address ≡ q.address → n ≡ m
hosts_apart config n m p q valid here there same = grind (arith, nat_tests, one_place, plan_by)
