-- The ports of a router by its outgoing links.
use Rattle.tva_router.proofs.Common.{◌≡◌, ℕ, ◌<◌, ◌≤◌, true, false, List, [], ◌∷◌, ◌++◌, ◌+◌, length, take, get_or, set, Option, eqb, cond, refl, sym, ap, ◌∙◌, subst, zero, suc, arith, append-nil, Contains, position, take_more, nat_tests, AreDistinct, links_of, LinkLimits, Entry, PortData, PortLogs, StandForLogs, free_in, ◌with◌, ArePorts, rules, common_steps}
use Rattle.tva_port.specs.Stands.{StandsFor}
use Rattle.tva_router.proofs.Links.{IsAt}

-- as many as links
pub ports-length : (os : List (ℕ × LinkLimits)) (last : ℕ) (ps : List PortData) → ArePorts os last ps → length ps ≡ length os
ports-length [] last [] a = refl
ports-length (o ∷ os) last (p ∷ ps) a = ap suc (ports-length os last ps a.2)
ports-length _ last _ a = absurd a

pub ports-later : (os : List (ℕ × LinkLimits)) (last now : ℕ) (ps : List PortData) → last ≤ now → ArePorts os last ps → ArePorts os now ps
ports-later [] last now [] le a = tt
ports-later (o ∷ os) last now (p ∷ ps) le a = (a.0, omega (arith, le, a.1), ports-later os last now ps le a.2)
ports-later _ last now _ le a = absurd a

-- the port in a place
pub port-get : (os : List (ℕ × LinkLimits)) (last : ℕ) (ps : List PortData) (i : ℕ) (p : PortData) (d : ℕ × LinkLimits) → ArePorts os last ps → i < length os
    → p ≡ get_or ps i p → (p.limits ≡ (get_or os i d).1) × (p.last ≤ last)
port-get [] last ps i p d a within here = absurd (omega (arith, within))
port-get (x ∷ xs) last [] i p d a within here = absurd a
port-get (x ∷ xs) last (y ∷ ys) zero p d a within here = subst (λ (z : PortData). (z.limits ≡ x.1) × (z.last ≤ last)) (sym here) (a.0, a.1)
port-get (x ∷ xs) last (y ∷ ys) (suc i) p d a within here = port-get xs last ys i p d a.2 (omega (arith, within)) here

pub ports-set : (os : List (ℕ × LinkLimits)) (last : ℕ) (ps : List PortData) (i : ℕ) (p : PortData) (d : ℕ × LinkLimits) → ArePorts os last ps → i < length os
    → p.limits ≡ (get_or os i d).1 → p.last ≤ last → ArePorts os last (set ps i p)
ports-set [] last ps i p d a within l k = absurd (omega (arith, within))
ports-set (x ∷ xs) last [] i p d a within l k = absurd a
ports-set (x ∷ xs) last (y ∷ ys) zero p d a within l k = (l, k, a.2)
ports-set (x ∷ xs) last (y ∷ ys) (suc i) p d a within l k = (a.0, a.1, ports-set xs last ys i p d a.2 (omega (arith, within)) l k)

-- the port of a link stands for its log
pub stands-get : (os : List (ℕ × LinkLimits)) (ps : List PortData) (logs : PortLogs) (i link : ℕ) (p : PortData) → StandForLogs os ps logs → IsAt os i link
    → length ps ≡ length os → p ≡ get_or ps i p → StandsFor p (logs link)
stands-get [] ps logs i link p s at n here = absurd at
stands-get (o ∷ os) [] logs i link p s at n here = absurd s
stands-get (o ∷ os) (y ∷ ys) logs zero link p s at n here =
    subst (λ (z : PortData). StandsFor z (logs link)) (sym here) (subst (λ (k : ℕ). StandsFor y (logs k)) (grind (arith, at)) s.1)
stands-get (o ∷ os) (y ∷ ys) logs (suc i) link p s at n here = stands-get os ys logs i link p s.2 at.1 (omega (arith, n)) here

-- nothing was added
pub stands-nothing : (os : List (ℕ × LinkLimits)) (ps : List PortData) (logs : PortLogs) → StandForLogs os ps logs → StandForLogs os ps (logs with λ k. [])
stands-nothing os ps logs s = grind (arith, append-nil)

-- none of the links is that one
abbrev pub AreOthers : List (ℕ × LinkLimits) → ℕ → Type 0
AreOthers [] link = Unit {0}
AreOthers (o ∷ os) link = (eqb o.0 link ≡ false) × AreOthers os link

same_or_not : (a b : ℕ) → (a ≡ b → ⊥) → eqb a b ≡ false
same_or_not a b apart = grind (arith, nat_tests, apart)

pub others : (os : List (ℕ × LinkLimits)) (link : ℕ) → (Contains (links_of os) link → ⊥) → AreOthers os link
others [] link absent = tt
others (o ∷ os) link absent = (same_or_not o.0 link (λ e. absent (0, omega arith, e)), others os link (λ there. absent (suc there.0, omega (arith, there.1), there.2)))

pub same_link : (a b : ℕ) → eqb a b ≡ true → a ≡ b
same_link a b e = grind (arith, nat_tests)

added_other : (p : PortData) (logs : PortLogs) (k link : ℕ) (added : List Entry) → eqb k link ≡ false → StandsFor p (logs k) → StandsFor p (logs k ++ cond (eqb k link) added [])
added_other p logs k link added other s = rw other (subst (λ (z : List Entry). StandsFor p z) (sym (append-nil (logs k))) s)

stands-others : (os : List (ℕ × LinkLimits)) (ps : List PortData) (logs : PortLogs) (link : ℕ) (added : List Entry) → AreOthers os link
    → StandForLogs os ps logs → StandForLogs os ps (logs with λ k. cond (eqb k link) added [])
stands-others [] ps logs link added apart s = tt
stands-others (o ∷ os) [] logs link added apart s = absurd s
stands-others (o ∷ os) (p ∷ ps) logs link added apart s =
    (s.0, added_other p logs o.0 link added apart.0 s.1, stands-others os ps logs link added apart.1 s.2)

added_here : (p : PortData) (logs : PortLogs) (k link : ℕ) (added : List Entry) → eqb k link ≡ true → StandsFor p (logs link ++ added) → StandsFor p (logs k ++ cond (eqb k link) added [])
added_here p logs k link added here s = rw here (subst (λ (z : ℕ). StandsFor p (logs z ++ added)) (sym (same_link k link here)) s)

-- one port has more in its log
pub stands-set : (os : List (ℕ × LinkLimits)) (ps : List PortData) (logs : PortLogs) (i link : ℕ) (p : PortData) (added : List Entry) (d : ℕ × LinkLimits) → AreDistinct (links_of os) → IsAt os i link
    → StandForLogs os ps logs → p.limits ≡ (get_or os i d).1 → StandsFor p (logs link ++ added)
    → StandForLogs os (set ps i p) (logs with λ k. cond (eqb k link) added [])
stands-set [] ps logs i link p added d apart at s l new = absurd at
stands-set (o ∷ os) [] logs i link p added d apart at s l new = absurd s
stands-set (o ∷ os) (y ∷ ys) logs zero link p added d apart at s l new = (
  l,
  added_here p logs o.0 link added at new,
  stands-others os ys logs link added (others os link (subst (λ (z : ℕ). Contains (links_of os) z → ⊥) (same_link o.0 link at) apart.0)) s.2,
)
stands-set (o ∷ os) (y ∷ ys) logs (suc i) link p added d apart at s l new =
    (s.0, added_other y logs o.0 link added at.0 s.1, stands-set os ys logs i link p added d apart.1 at.1 s.2 l new)

-- a link is free when the port in its place is
pub free-at : (os : List (ℕ × LinkLimits)) (ps : List PortData) (i link : ℕ) (p : PortData) → IsAt os i link → length ps ≡ length os → p ≡ get_or ps i p → free_in os ps link ≡ p.free_at
free-at [] ps i link p at n here = absurd at
free-at (o ∷ os) [] i link p at n here = absurd (omega (arith, n))
free-at (o ∷ os) (y ∷ ys) zero link p at n here = rw at (ap (λ (z : PortData). z.free_at) (sym here))
free-at (o ∷ os) (y ∷ ys) (suc i) link p at n here = rw at.0 (free-at os ys i link p at.1 (omega (arith, n)) here)

pub free-set : (os : List (ℕ × LinkLimits)) (ps : List PortData) (i link : ℕ) (p : PortData) → IsAt os i link → length ps ≡ length os → free_in os (set ps i p) link ≡ p.free_at
free-set [] ps i link p at n = absurd at
free-set (o ∷ os) [] i link p at n = absurd (omega (arith, n))
free-set (o ∷ os) (y ∷ ys) zero link p at n = rw at refl
free-set (o ∷ os) (y ∷ ys) (suc i) link p at n = rw at.0 (free-set os ys i link p at.1 (omega (arith, n)))

-- the place of a link, by a call that looked for it
pub place-in : (os slice : List (ℕ × LinkLimits)) (link : ℕ) (r x : Option ℕ) → slice ≡ os → r ≡ position (λ o. eqb o.0 link) slice → r ≡ x → position (λ o. eqb o.0 link) os ≡ x
place-in os slice link r x same looked is = subst (λ (z : List (ℕ × LinkLimits)). position (λ o. eqb o.0 link) z ≡ x) same (sym looked ∙ is)

ports-push : (os : List (ℕ × LinkLimits)) (last : ℕ) (ps : List PortData) (o : ℕ × LinkLimits) (p : PortData) → ArePorts os last ps → p.limits ≡ o.1 → p.last ≤ last → ArePorts (os ++ o ∷ []) last (ps ++ p ∷ [])
ports-push [] last [] o p a l k = (l, k, tt)
ports-push (x ∷ xs) last (y ∷ ys) o p a l k = (a.0, a.1, ports-push xs last ys o p a.2 l k)
ports-push _ last _ o p a l k = absurd a

stands-push : (os : List (ℕ × LinkLimits)) (last : ℕ) (ps : List PortData) (logs : PortLogs) (o : ℕ × LinkLimits) (p : PortData) → ArePorts os last ps → StandForLogs os ps logs → p.limits ≡ o.1 → StandsFor p (logs o.0) → StandForLogs (os ++ o ∷ []) (ps ++ p ∷ []) logs
stands-push [] last [] logs o p a s l k = (l, k, tt)
stands-push (x ∷ xs) last (y ∷ ys) logs o p a s l k = (s.0, s.1, stands-push xs last ys logs o p a.2 s.2 l k)
stands-push _ last _ logs o p a s l k = absurd a

-- one port more
pub ports-more : (os : List (ℕ × LinkLimits)) (i : ℕ) (d : ℕ × LinkLimits) (ps : List PortData) (p : PortData) → i < length os → ArePorts (take i os) 0 ps × StandForLogs (take i os) ps (λ link. [])
    → p.limits ≡ (get_or os i d).1 → p.last ≤ 0 → StandsFor p [] → ArePorts (take (i + 1) os) 0 (ps ++ p ∷ []) × StandForLogs (take (i + 1) os) (ps ++ p ∷ []) (λ link. [])
ports-more os i d ps p within so_far l k s =
    subst (λ (z : List (ℕ × LinkLimits)). ArePorts z 0 (ps ++ p ∷ []) × StandForLogs z (ps ++ p ∷ []) (λ link. [])) (sym (take_more os i d within))
    (ports-push (take i os) 0 ps (get_or os i d) p so_far.0 l k, stands-push (take i os) 0 ps (λ link. []) (get_or os i d) p so_far.0 so_far.1 l s)
