-- Kit: what the laws of a source ask of fair queues.
use Rattle.std.specs.Prelude.{◌≡◌, ℕ, Bool, true, false, if◌then◌else◌, List, [], refl}
use Rattle.tva_drr.specs.declared.offered.Offered.TheVariants.{Queued, NoQueue, QueueFull}
use Rattle.tva_drr.specs.Queues.{Queue, Fair, fair}
use Rattle.tva_drr.specs.Offer.{put, lacks_queue, lacks_room, offer_answer, offer_leaves}

module _ {T : Type 0} where
  abbrev kept_by : (b c : Bool) (f : Fair T) (qs : List (Queue T))
      → fair {T = T} (if b then f else (if c then f else fair f.limits qs)).limits [] ≡ fair {T = T} f.limits []
  kept_by true c f qs = refl
  kept_by false true f qs = refl
  kept_by false false f qs = refl

  -- an offer keeps the limits
  abbrev pub offered_kept : (measure : T → ℕ) (f : Fair T) (key : ℕ) (item : T)
      → fair {T = T} (offer_leaves measure f key item).limits [] ≡ fair {T = T} f.limits []
  offered_kept measure f key item =
      kept_by (lacks_queue f key) (lacks_room measure f key item) f (put f.limits.quantum key item f.queues)

  abbrev refused_by : (b c : Bool) (f g : Fair T) (item : T)
      → ((if b then NoQueue item else (if c then QueueFull item else Queued)) ≡ Queued → ⊥)
      → (if b then f else (if c then f else g)) ≡ f
  refused_by true c f g item n = refl
  refused_by false true f g item n = refl
  refused_by false false f g item n = absurd (n refl)

  -- a refusal keeps all
  abbrev pub refused_same : (measure : T → ℕ) (f : Fair T) (key : ℕ) (item : T)
      → (offer_answer measure f key item ≡ Queued → ⊥) → offer_leaves measure f key item ≡ f
  refused_same measure f key item n =
      refused_by (lacks_queue f key) (lacks_room measure f key item) f
      (fair f.limits (put f.limits.quantum key item f.queues)) item n
