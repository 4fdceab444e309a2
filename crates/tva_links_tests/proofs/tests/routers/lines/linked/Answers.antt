use Rattle.tva_links_tests.proofs.Common.{◌≡◌, ℕ, ◌<◌, ◌≤◌, List, [], ◌∷◌, length, get_or, refl, sym, ap, subst, ◌∙◌, zero, suc, arith, All, Contains, map, ◌%◌, ◌^◌, ◌-◌}
use Rattle.tva_base.specs.Plan.{IsRouterPlan, AreLinkLimits, AreDistinct, AreRising, IsPrefix, links_of}
use Rattle.tva_base.specs.Changes.{of_prefix}
use Rattle.tva_base.specs.declared.packet.Time.{Time}
use Rattle.tva_base.specs.declared.limits.LinkLimits.{LinkLimits}
use Rattle.tva_base.specs.declared.addresses.Prefix.{Prefix}
use Rattle.tva_base.specs.declared.plan.Route.{Route}
use Rattle.tva_base.specs.declared.plan.RouterPlan.{RouterPlan}
use Rattle.tva_links_tests.proofs.tests.routers.lines.linked.Goals as goal

module _ {X : Type 0} where
  absent_at : (x y : X) (ys : List X) → (y ≡ x → ⊥) → (Contains ys x → ⊥) → (k : ℕ) → k < length (y ∷ ys) → get_or (y ∷ ys) k x ≡ x → ⊥
  absent_at x y ys apart rest zero within e = apart e
  absent_at x y ys apart rest (suc k) within e = rest (k, omega (arith, within), e)

  absent : (x y : X) (ys : List X) → (y ≡ x → ⊥) → (Contains ys x → ⊥) → Contains (y ∷ ys) x → ⊥
  absent x y ys apart rest there = absent_at x y ys apart rest there.0 there.1 there.2

  absent-nil : (x : X) → Contains [] x → ⊥
  absent-nil x there = omega (arith, there.1)

  all-cons : (P : X → Type 0) (x : X) (xs : List X) → P x → All P xs → All P (x ∷ xs)
  all-cons P x xs p all zero d within = p
  all-cons P x xs p all (suc k) d within = all k d (omega (arith, within))

  all-nil : (P : X → Type 0) → All P []
  all-nil P k d within = absurd (omega (arith, within))

abbrev to : ℕ → ℕ → ℕ → Route
to address bits link = record { prefix = record { address = record { 0 = address }; bits = bits }; link = link }

abbrev ways : List Route
ways = to 0 0 0 ∷ to 167772416 24 1 ∷ to 167772544 25 2 ∷ to 167772545 32 3 ∷ []

abbrev outs : LinkLimits → List (ℕ × LinkLimits)
outs l = (0, l) ∷ (1, l) ∷ (2, l) ∷ (3, l) ∷ []

four_all : {X : Type 0} (P : X → Type 0) (a b c d : X) → P a → P b → P c → P d → All P (a ∷ b ∷ c ∷ d ∷ [])
four_all P a b c d p q r s = all-cons P a (b ∷ c ∷ d ∷ []) p (all-cons P b (c ∷ d ∷ []) q (all-cons P c (d ∷ []) r (all-cons P d [] s (all-nil P))))

four_apart : {X : Type 0} (a b c d : X) → (b ≡ a → ⊥) → (c ≡ a → ⊥) → (d ≡ a → ⊥) → (c ≡ b → ⊥) → (d ≡ b → ⊥) → (d ≡ c → ⊥) → AreDistinct (a ∷ b ∷ c ∷ d ∷ [])
four_apart a b c d ba ca da cb db dc = (
  absent a b (c ∷ d ∷ []) ba (absent a c (d ∷ []) ca (absent a d [] da (absent-nil a))),
  (
    absent b c (d ∷ []) cb (absent b d [] db (absent-nil b)),
    (absent c d [] dc (absent-nil c), (absent-nil d, tt)),
  ),
)

outs_apart : (l : LinkLimits) → AreDistinct (links_of (outs l))
outs_apart l =
    four_apart 0 1 2 3 (λ e. omega (arith, e)) (λ e. omega (arith, e)) (λ e. omega (arith, e)) (λ e. omega (arith, e)) (λ e. omega (arith, e)) (λ e. omega (arith, e))

abbrev at : ℕ → ℕ → Prefix
at address bits = record { address = record { 0 = address }; bits = bits }

other : (a b c d : ℕ) → (b ≡ d → ⊥) → at a b ≡ at c d → ⊥
other a b c d apart e = apart (ap (λ (z : Prefix). z.bits) e)

ways_apart : AreDistinct (map (λ (r : Route). r.prefix) ways)
ways_apart =
    four_apart (at 0 0) (at 167772416 24) (at 167772544 25) (at 167772545 32)
    (other 167772416 24 0 0 (λ e. omega (arith, e))) (other 167772544 25 0 0 (λ e. omega (arith, e))) (other 167772545 32 0 0 (λ e. omega (arith, e)))
    (other 167772544 25 167772416 24 (λ e. omega (arith, e))) (other 167772545 32 167772416 24 (λ e. omega (arith, e))) (other 167772545 32 167772544 25 (λ e. omega (arith, e)))

outs_limits : (l : LinkLimits) → AreLinkLimits l → All (λ (o : ℕ × LinkLimits). AreLinkLimits o.1) (outs l)
outs_limits l k = four_all (λ (o : ℕ × LinkLimits). AreLinkLimits o.1) (0, l) (1, l) (2, l) (3, l) k k k k

way_links : (l : LinkLimits) → All (λ (r : Route). Contains (links_of (outs l)) r.link) ways
way_links l =
    four_all (λ (r : Route). Contains (links_of (outs l)) r.link) (to 0 0 0) (to 167772416 24 1) (to 167772544 25 2) (to 167772545 32 3)
    (0, omega arith, refl) (1, omega arith, refl) (2, omega arith, refl) (3, omega arith, refl)

valid : (address bits link : ℕ) → bits ≤ 32 → address % 2 ^ (32 - bits) ≡ 0 → IsPrefix (to address bits link).prefix
valid address bits link few zeros = record { bits = few; zeros = zeros }

way_prefixes : All (λ (r : Route). IsPrefix r.prefix) ways
way_prefixes =
    four_all (λ (r : Route). IsPrefix r.prefix) (to 0 0 0) (to 167772416 24 1) (to 167772544 25 2) (to 167772545 32 3)
    (valid 0 0 0 (omega arith) refl) (valid 167772416 24 1 (omega arith) refl) (valid 167772544 25 2 (omega arith) refl) (valid 167772545 32 3 (omega arith) refl)

plan_is : (r : RouterPlan) (l : LinkLimits) → r.clock_offset ≤ 1000000000000000 → r.slots ≤ 1000000 → r.edge_tag < 2 ^ 16 → AreLinkLimits l → r.incoming ≡ (9, 12) ∷ [] → r.outgoing ≡ outs l → r.routes ≡ ways → r.restarts ≡ [] → r.reroutes ≡ [] → IsRouterPlan r
plan_is r l offset slots edge k incoming outgoing routes restarts reroutes = record {
  clock_offset = offset;
  slots = slots;
  edge_tag = edge;
  tags = subst (λ (z : List (ℕ × ℕ)). All (λ i. i.1 < 2 ^ 16) z) (sym incoming) (all-cons (λ (i : ℕ × ℕ). i.1 < 2 ^ 16) (9, 12) [] (omega arith) (all-nil (λ (i : ℕ × ℕ). i.1 < 2 ^ 16)));
  incoming = subst (λ (z : List (ℕ × ℕ)). AreDistinct (links_of z)) (sym incoming) (absent-nil 9, tt);
  outgoing = subst (λ (z : List (ℕ × LinkLimits)). AreDistinct (links_of z)) (sym outgoing) (outs_apart l);
  limits = subst (λ (z : List (ℕ × LinkLimits)). All (λ o. AreLinkLimits o.1) z) (sym outgoing) (outs_limits l k);
  links = subst (λ (z : List (ℕ × LinkLimits)). All (λ (w : Route). Contains (links_of z) w.link) r.routes) (sym outgoing)
      (subst (λ (z : List Route). All (λ (w : Route). Contains (links_of (outs l)) w.link) z) (sym routes) (way_links l));
  prefixes = subst (λ (z : List Route). All (λ (w : Route). IsPrefix w.prefix) z) (sym routes) way_prefixes;
  apart = subst (λ (z : List Route). AreDistinct (map (λ (w : Route). w.prefix) z)) (sym routes) ways_apart;
  boots = subst (λ (z : List (Time × List ℕ)). AreRising (map (λ c. c.0.0) z)) (sym restarts) tt;
  moved = subst (λ (z : List (Time × Prefix × ℕ)). All (λ c. Contains (map (λ (w : Route). w.prefix) r.routes) c.1) z) (sym reroutes) (all-nil (λ (c : Time × Prefix × ℕ). Contains (map (λ (w : Route). w.prefix) r.routes) c.1));
  ways = subst (λ (z : List (Time × Prefix × ℕ)). All (λ c. Contains (links_of r.outgoing) c.2) z) (sym reroutes) (all-nil (λ (c : Time × Prefix × ℕ). Contains (links_of r.outgoing) c.2));
  turns = λ prefix. subst (λ (z : List (Time × Prefix × ℕ)). AreRising (map (λ c. c.0.0) (of_prefix prefix z))) (sym reroutes) tt;
}

four_is : (a b c d p q r s : Route) → a ≡ p → b ≡ q → c ≡ r → d ≡ s → a ∷ b ∷ c ∷ d ∷ [] ≡ p ∷ q ∷ r ∷ s ∷ []
four_is a b c d p q r s e f g h = cc

pub returns : goal.returns
returns c =
    plan_is _ c.args.limits c.edge-clock_offset.ensures.clock_offset c.edge-clock_offset.ensures.slots c.edge-clock_offset.ensures.edge_tag c.requires
    (c.new-2.ensures ∙ c.in_ok-vec.ensures.items)
    (c.new-3.ensures ∙ c.in_ok-vec-2.ensures.items)
    (c.new-4.ensures ∙ c.in_ok-vec-3.ensures.items ∙ four_is _ _ _ _ _ _ _ _ c.route.ensures c.route-2.ensures c.route-3.ensures c.route-4.ensures)
    (c.new-6.ensures ∙ c.new-5.ensures.items) (c.new-8.ensures ∙ c.new-7.ensures.items)
