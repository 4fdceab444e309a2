-- Kit: how two-level queues are stored as plain data, for their model.
use Rattle.std.specs.Prelude.{ℕ, List, refl}
use Rattle.std.specs.Coded.{Coded, code_by, coded×, coded_list, coded_ℕ}
use Rattle.tva_base.specs.declared.limits.DrrLimits.{DrrLimits}
use Rattle.tva_drr.specs.Queues.{Fair}
use Rattle.tva_drr.specs.Code.{limits_code, fair_code}
use Rattle.tva_drr.specs.Groups.{Group, Hier, group, hier}

module _ {T : Type 0} where
  abbrev pub group_code : Coded T → Coded (Group T)
  group_code c =
      code_by (ℕ × (ℕ × Fair T)) (coded× coded_ℕ (coded× coded_ℕ (fair_code c)))
      (λ g. (g.key, (g.deficit, g.queues))) (λ p. group p.0 p.1.0 p.1.1) (λ _. refl)

  abbrev pub hier_code : Coded T → Coded (Hier T)
  hier_code c =
      code_by (DrrLimits × (ℕ × List (Group T))) (coded× limits_code (coded× coded_ℕ (coded_list (group_code c))))
      (λ h. (h.limits, (h.inner, h.groups))) (λ p. hier p.0 p.1.0 p.1.1) (λ _. refl)
