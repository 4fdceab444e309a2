-- The nodes of a valid configuration are valid.
use Rattle.tva_run.proofs.Common.{nat_tests, ◌≡◌, ℕ, zero, suc, ◌+◌, ◌<◌, ◌≤◌, List, [], ◌∷◌, length, map, filter, Bool, true, false, cond, Option, Some, None, refl, sym, subst, ◌∙◌, ap, arith, ◌==◌, slice_get, option_map, AllByRecursion, cons_option, find, eqb-true, ne_eqb, All-from_recursion, recursion_from_All, slice_get_within, same_Some, LinkLimits, LinkPlan, links_of, Config, NodePlan, picked, number_from, links_from, limited_from, outgoing_of, IsConfig, IsLinkPlan, IsWired, AreWired, router_at, host_at, Class, PacketData, Entry, Took, Started, sendings, Site, site_of, link_out, AreRising, IsLinkOut, IsPlanned, IsSite, link_from, links_out, site_at, arrivals}
use Rattle.tva_plan.specs.declared.config.NodePlan.TheVariants as plans
use Rattle.tva_run.proofs.Joins.{each-weaker}
use Rattle.tva_run.specs.declared.kinds.Sending.{Sending}
use Rattle.tva_run.specs.Reaching.{arrival}

module _ (n : ℕ) where
  -- ## the links out are the configuration's

  limited_here : (k : ℕ) (l : LinkPlan) (b : Bool) (xs : List (ℕ × LinkLimits)) (os : List (ℕ × LinkPlan)) → xs ≡ map (λ o. (o.0, o.1.limits)) os
      → cons_option (cond b (Some (k, l.limits)) None) xs ≡ map (λ o. (o.0, o.1.limits)) (cons_option (cond b (Some (k, l)) None) os)
  limited_here k l false xs os h = h
  limited_here k l true xs os h = ap (λ (ys : List (ℕ × LinkLimits)). (k, l.limits) ∷ ys) h

  pub limited : (k : ℕ) (links : List LinkPlan) → picked (limited_from n) k links ≡ map (λ o. (o.0, o.1.limits)) (picked (link_from n) k links)
  limited k [] = refl
  limited k (l ∷ ls) = limited_here k l (l.from == n) (picked (limited_from n) (k + 1) ls) (picked (link_from n) (k + 1) ls) (limited (k + 1) ls)

  number_here : (k : ℕ) (l : LinkPlan) (b : Bool) (xs : List ℕ) (os : List (ℕ × LinkPlan)) → links_of os ≡ xs
      → links_of (cons_option (cond b (Some (k, l)) None) os) ≡ cons_option (cond b (Some k) None) xs
  number_here k l false xs os h = h
  number_here k l true xs os h = ap (λ (ys : List ℕ). k ∷ ys) h

  pub numbered : (k : ℕ) (links : List LinkPlan) → links_of (picked (link_from n) k links) ≡ picked (number_from n) k links
  numbered k [] = refl
  numbered k (l ∷ ls) = number_here k l (l.from == n) (picked (number_from n) (k + 1) ls) (picked (link_from n) (k + 1) ls) (numbered (k + 1) ls)

  -- ## each is valid, and their numbers rise

  link_here : (c k : ℕ) (l : LinkPlan) (os : List (ℕ × LinkPlan)) (b : Bool) → (l.from == n) ≡ b → IsLinkPlan c l → AllByRecursion (IsLinkOut n) os → AllByRecursion (IsLinkOut n) (cons_option (cond b (Some (k, l)) None) os)
  link_here c k l os false e h r = r
  link_here c k l os true e h r = (record { from = eqb-true l.from n e; delay = h.delay; limits = h.limits }, r)

  pub links_valid : (c k : ℕ) (links : List LinkPlan) → AllByRecursion (IsLinkPlan c) links → AllByRecursion (IsLinkOut n) (picked (link_from n) k links)
  links_valid c k [] h = tt
  links_valid c k (l ∷ ls) h = link_here c k l (picked (link_from n) (k + 1) ls) (l.from == n) refl h.0 (links_valid c (k + 1) ls h.1)

  from_here : (k : ℕ) (b : Bool) (ns : List ℕ) → AllByRecursion (λ m. k ≤ m) ns → AllByRecursion (λ m. k ≤ m) (cons_option (cond b (Some k) None) ns)
  from_here k false ns h = h
  from_here k true ns h = ((omega arith), h)

  numbers_late : (k : ℕ) (links : List LinkPlan) → AllByRecursion (λ m. k ≤ m) (picked (number_from n) k links)
  numbers_late k [] = tt
  numbers_late k (l ∷ ls) = grind (arith, nat_tests, from_here, picked, each-weaker, (numbers_late (k + 1) ls))

  rising_here : (k : ℕ) (b : Bool) (ns : List ℕ) → AllByRecursion (λ m. k + 1 ≤ m) ns → AreRising ns → AreRising (cons_option (cond b (Some k) None) ns)
  rising_here k false ns h r = r
  rising_here k true ns h r = (All-from_recursion (λ m. k < m) ns (each-weaker (λ m. k + 1 ≤ m) (λ m. k < m) (λ m l. omega arith) ns h), r)

  numbers_rise : (k : ℕ) (links : List LinkPlan) → AreRising (picked (number_from n) k links)
  numbers_rise k [] = tt
  numbers_rise k (l ∷ ls) = rising_here k (l.from == n) (picked (number_from n) (k + 1) ls) (numbers_late (k + 1) ls) (numbers_rise (k + 1) ls)

-- ## the nodes

wired_here : (links : List LinkPlan) (k : ℕ) (ps : List NodePlan) (n : ℕ) (p : NodePlan) → AreWired links k ps → slice_get ps n ≡ Some p → IsWired links (k + n) p
wired_here links k [] n p wired here = absurd (cc)
wired_here links k (q ∷ ps) zero p wired here = grind arith
wired_here links k (q ∷ ps) (suc n) p wired here = grind (arith, nat_tests, (wired_here links (k + 1) ps n p wired.1 here))

planned : (config : Config) (n : ℕ) (p : NodePlan) → IsConfig config → slice_get config.nodes n ≡ Some p → IsWired config.links n p → IsPlanned p (links_out n config.links)
unfolding links_from outgoing_of
planned config n (plans.Router p) valid here wired = ((router_at config n p valid here).plan, wired.1 ∙ limited n 0 config.links)
planned config n (plans.Host p) valid here wired = ((host_at config n p valid here).plan, numbered n 0 config.links ∙ wired)

pub site_valid : (config : Config) (n : ℕ) (p : NodePlan) → IsConfig config → slice_get config.nodes n ≡ Some p → IsSite (site_of n p (links_out n config.links))
site_valid config n p valid here =
    let same : 0 + n ≡ n = omega arith in
    let wired : IsWired config.links n p = subst (λ m. IsWired config.links m p) same (wired_here config.links 0 config.nodes n p valid.wired here) in
    record {
      number = let few = valid.few_nodes in let k = slice_get_within config.nodes n p here in omega arith;
      planned = planned config n p valid here wired;
      links = All-from_recursion (IsLinkOut n) (links_out n config.links) (links_valid n (length config.nodes) 0 config.links (recursion_from_All (IsLinkPlan (length config.nodes)) config.links valid.links));
      rising = rw (numbered n 0 config.links) (numbers_rise n 0 config.links);
    }

site_by : (config : Config) (n : ℕ) (site : Site) (o : Option NodePlan) → IsConfig config → slice_get config.nodes n ≡ o
    → option_map (λ p. site_of n p (links_out n config.links)) o ≡ Some site → (site.number ≡ n) × IsSite site
site_by config n site None valid here h = absurd (cc)
site_by config n site (Some p) valid here h =
    let same = same_Some (site_of n p (links_out n config.links)) site h in
    (ap (λ (s : Site). s.number) (sym same), subst IsSite same (site_valid config n p valid here))

pub site_is : (config : Config) (n : ℕ) (site : Site) → IsConfig config → site_at config n ≡ Some site → (site.number ≡ n) × IsSite site
site_is config n site valid there = site_by config n site (slice_get config.nodes n) valid refl there

pub site_number : (config : Config) (n : ℕ) (site : Site) → site_at config n ≡ Some site → site.number ≡ n
site_number config n site there = grind (arith, nat_tests)

-- ## the link of a number

found_here : (number k : ℕ) (l : LinkPlan) (b : Bool) (os : List (ℕ × LinkPlan)) → (k ≡ number → ⊥)
    → find (λ (o : ℕ × LinkPlan). o.0 == number) (cons_option (cond b (Some (k, l)) None) os) ≡ find (λ (o : ℕ × LinkPlan). o.0 == number) os
found_here number k l false os h = refl
found_here number k l true os h = rw (ne_eqb k number h) refl

found : (n k : ℕ) (links : List LinkPlan) (i : ℕ) (link : LinkPlan) → slice_get links i ≡ Some link → link.from ≡ n
    → find (λ (o : ℕ × LinkPlan). o.0 == k + i) (picked (link_from n) k links) ≡ Some (k + i, link)
found n k [] i link h e = absurd (cc)
found n k (l ∷ ls) zero link h e = grind (arith, nat_tests)
found n k (l ∷ ls) (suc i) link h e = grind (arith, nat_tests, found_here, picked, (found n (k + 1) ls i link h e))

out_by : (config : Config) (number : ℕ) (link : LinkPlan) (site : Site) (o : Option NodePlan) → slice_get config.links number ≡ Some link
    → option_map (λ p. site_of link.from p (links_out link.from config.links)) o ≡ Some site → link_out site number ≡ Some (number, link)
out_by config number link site None here h = absurd (cc)
out_by config number link site (Some p) here h =
    let same = same_Some (site_of link.from p (links_out link.from config.links)) site h in
    let place : 0 + number ≡ number = omega arith in
    subst (λ (s : Site). link_out s number ≡ Some (number, link)) same
    (subst (λ (m : ℕ). find (λ (o : ℕ × LinkPlan). o.0 == m) (picked (link_from link.from) 0 config.links) ≡ Some (m, link)) place (found link.from 0 config.links number link here refl))

-- the link of a number is that of the node before it
pub link_out_is : (config : Config) (number : ℕ) (link : LinkPlan) (site : Site) → slice_get config.links number ≡ Some link → site_at config link.from ≡ Some site → link_out site number ≡ Some (number, link)
link_out_is config number link site here there = out_by config number link site (slice_get config.nodes link.from) here there

-- ## what is sent arrives

module _ (number : ℕ) (link : LinkPlan) (site : Site) (out : link_out site number ≡ Some (number, link)) where
  sent_here : (t on : ℕ) (class : Class) (packet : PacketData) (log : List Entry) (b : Bool) → (on == number) ≡ b
      → arrivals number link log ≡ map arrival (filter (λ (s : Sending). s.link == number) (sendings site log))
      → arrivals number link (Started t on class packet ∷ log) ≡ map arrival (filter (λ (s : Sending). s.link == number) (sendings site (Started t on class packet ∷ log)))
  sent_here t on class packet log v0 e h = grind arith

  pub sent_arrives : (log : List Entry) → arrivals number link log ≡ map arrival (filter (λ (s : Sending). s.link == number) (sendings site log))
  sent_arrives [] = refl
  sent_arrives (Took input content ∷ es) = sent_arrives es
  sent_arrives (Started t on class packet ∷ es) = sent_here t on class packet es (on == number) refl (sent_arrives es)
