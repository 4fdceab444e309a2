-- Kit: how fair queues are stored as plain data, for their model.
use Rattle.std.specs.Prelude.{ℕ, List, refl}
use Rattle.std.specs.Coded.{Coded, code_by, coded×, coded_list, coded_ℕ}
use Rattle.tva_base.specs.declared.limits.DrrLimits.{DrrLimits}
use Rattle.tva_drr.specs.Queues.{Queue, Fair, queue, fair}

abbrev pub limits_code : Coded DrrLimits
limits_code = code_by (ℕ × (ℕ × (ℕ × (ℕ × (ℕ × ℕ)))))
    (coded× coded_ℕ (coded× coded_ℕ (coded× coded_ℕ (coded× coded_ℕ (coded× coded_ℕ coded_ℕ)))))
    (λ l. (l.queues, (l.ring, (l.queue_bytes, (l.class_bytes, (l.quantum, l.max))))))
    (λ p. record {
      queues = p.0;
      ring = p.1.0;
      queue_bytes = p.1.1.0;
      class_bytes = p.1.1.1.0;
      quantum = p.1.1.1.1.0;
      max = p.1.1.1.1.1;
    }) (λ _. refl)

module _ {T : Type 0} where
  abbrev pub queue_code : Coded T → Coded (Queue T)
  queue_code c = code_by (ℕ × (ℕ × List T)) (coded× coded_ℕ (coded× coded_ℕ (coded_list c)))
      (λ q. (q.key, (q.deficit, q.items))) (λ p. queue p.0 p.1.0 p.1.1) (λ _. refl)

  abbrev pub fair_code : Coded T → Coded (Fair T)
  fair_code c = code_by (DrrLimits × List (Queue T)) (coded× limits_code (coded_list (queue_code c)))
      (λ f. (f.limits, f.queues)) (λ p. fair p.0 p.1) (λ _. refl)
