-- What reaches a node from one source comes in the order of time.
use Rattle.tva_run.proofs.Common.{nat_tests, ◌≡◌, ℕ, ◌+◌, ◌*◌, ◌<◌, ◌≤◌, List, [], ◌∷◌, ◌++◌, length, Bool, true, false, Option, Some, None, refl, sym, subst, ◌∙◌, ap, arith, inl, inr, ◌==◌, slice_get, option_map, option_and_then, AllByRecursion, cons_option, eqb-true, eq-eqb, append-nil, filter_map-append, LinkLimits, LinkPlan, Class, Outcome, PacketData, packet_length, free-queued, free-started, NeverFalls, Input, Arrival, Site, site_of, link_out, limits_out, Content, Entry, Took, Started, input_time, queued_at, content_at, port_entry, port_logs, starts, start_after, due, GoesOn, at_time, Config, NodePlan, IsConfig, IsLinkPlan, all_here, Row, slice_get_cases, Logs, log_at, links_out, site_at, arrival_of, arrivals, IsRunTo}
use Rattle.tva_port.specs.Log as port
use Rattle.tva_run.proofs.Joins.{each-append, each-weaker}
use Rattle.tva_run.proofs.Ports.{busy_starts_none}
use Rattle.tva_run.proofs.LogWalks.{by_place, IsMade, AnyInput, any, made_at}
use Rattle.tva_run.proofs.Sites.{link_out_is}

-- ## when a link is free

-- what is queued leaves it
module _ (l : LinkLimits) (log : List port.Entry) (link time : ℕ) where
  queued_free : (outcome : Outcome) (class : Class) (packet : PacketData) → port.free_after l (log ++ cons_option (queued_at link time outcome class packet) []) ≡ port.free_after l log
  queued_free v0 class packet = grind (arith, nat_tests, append-nil, free-queued)

  content_free : (c : Content) → port.free_after l (log ++ cons_option (content_at link time c) []) ≡ port.free_after l log
  content_free v0 = grind (arith, nat_tests, queued_free, append-nil)

start_free : (l : LinkLimits) (log : List port.Entry) (now : ℕ) (s : Class × PacketData) → start_after l log now ≡ Some s → port.free_after l log ≤ now
start_free l log now s e = grind (arith, nat_tests, busy_starts_none)

never_falls-push : {X : Type 0} (time : X → ℕ) (xs : List X) (y : X) → NeverFalls time xs → AllByRecursion (λ x. time x ≤ time y) xs → NeverFalls time (xs ++ y ∷ [])
never_falls-push time [] y h l = (tt, tt)
never_falls-push time (x ∷ xs) y h l = (each-append (λ z. time x ≤ time z) xs (y ∷ []) h.0 (l.0, tt), never_falls-push time xs y h.1 l.1)

-- ## what arrives on a link

module _ (number : ℕ) (link : LinkPlan) (site : Site) (out : link_out site number ≡ Some (number, link)) where
  -- all that was sent has arrived once the link is free and its delay is over
  record IsRising (before : List Entry) : Type 0 where
    rises : NeverFalls input_time (arrivals number link before)
    bound : AllByRecursion (λ i. input_time i ≤ port.free_after link.limits (port_logs before number) + link.delay) (arrivals number link before)

  pushed : (before : List Entry) (e : Entry) → port_logs (before ++ e ∷ []) number ≡ port_logs before number ++ cons_option (port_entry number e) []
  pushed before e = filter_map-append (port_entry number) before (e ∷ [])

  arrived : (before : List Entry) (e : Entry) → arrivals number link (before ++ e ∷ []) ≡ arrivals number link before ++ cons_option (arrival_of number link e) []
  arrived before e = filter_map-append (arrival_of number link) before (e ∷ [])

  -- an entry that sends nothing here
  same : (before : List Entry) (e : Entry) → arrival_of number link e ≡ None → port.free_after link.limits (port_logs before number ++ cons_option (port_entry number e) []) ≡ port.free_after link.limits (port_logs before number) → IsRising before → IsRising (before ++ e ∷ [])
  same before e none free h =
      let as_before : arrivals number link (before ++ e ∷ []) ≡ arrivals number link before = arrived before e ∙ (ap (λ (o : Option Input). arrivals number link before ++ cons_option o []) none ∙ append-nil (arrivals number link before)) in
      let free' : port.free_after link.limits (port_logs (before ++ e ∷ []) number) ≡ port.free_after link.limits (port_logs before number) = ap (port.free_after link.limits) (pushed before e) ∙ free in
      record {
        rises = subst (λ (is : List Input). NeverFalls input_time is) (sym as_before) h.rises;
        bound = rw (as_before, free') h.bound;
      }

  limits_is : limits_out site number ≡ Some (number, link.limits)
  limits_is = ap (option_map (λ (o : ℕ × LinkPlan). (o.0, o.1.limits))) out

  sent_on : (before : List Entry) (u on : ℕ) (c : Class) (p : PacketData) (b : Bool) → (on == number) ≡ b → starts site before on u ≡ Some (c, p) → IsRising before → IsRising (before ++ Started u on c p ∷ [])
  sent_on before u on c p false e s h = grind (arith, nat_tests, same, append-nil)
  sent_on before u on c p true e s h =
      let is : on ≡ number = eqb-true on number e in
      let here : starts site before number u ≡ Some (c, p) = subst (λ (k : ℕ). starts site before k u ≡ Some (c, p)) is s in
      let started : start_after link.limits (port_logs before number) u ≡ Some (c, p) = sym (ap (option_and_then (λ (o : ℕ × LinkLimits). start_after o.1 (port_logs before number) u)) limits_is) ∙ here in
      let free = start_free link.limits (port_logs before number) u (c, p) started in
      let end : ℕ = u + packet_length p * link.limits.ns_per_byte in
      let i : Input = Arrival (at_time (end + link.delay)) number p in
      let arrives : arrivals number link (before ++ Started u on c p ∷ []) ≡ arrivals number link before ++ i ∷ [] =
      arrived before (Started u on c p) ∙ rw e refl in
      let entry_is : port_entry number (Started u on c p) ≡ Some (port.Started u c p) = rw (eq-eqb number on (sym is)) refl in
      let free' : port.free_after link.limits (port_logs (before ++ Started u on c p ∷ []) number) ≡ end =
      ap (port.free_after link.limits) (pushed before (Started u on c p) ∙ ap (λ (o : Option port.Entry). port_logs before number ++ cons_option o []) entry_is)
      ∙ free-started link.limits 0 (port_logs before number) u c p in
      let early : AllByRecursion (λ x. input_time x ≤ end + link.delay) (arrivals number link before) =
      each-weaker (λ x. input_time x ≤ port.free_after link.limits (port_logs before number) + link.delay) (λ x. input_time x ≤ end + link.delay) (λ x k. omega arith) (arrivals number link before) h.bound in
      let now : end + link.delay ≤ end + link.delay = omega arith in
      record {
        rises = subst (λ (is : List Input). NeverFalls input_time is) (sym arrives) (never_falls-push input_time (arrivals number link before) i h.rises early);
        bound = rw (arrives, free') (each-append (λ x. input_time x ≤ end + link.delay) (arrivals number link before) (i ∷ []) early (now, tt));
      }

  one_more : (before : List Entry) (e : Entry) → IsMade AnyInput site before e → IsRising before → IsRising (before ++ e ∷ [])
  one_more before (Took j c) m h = same before (Took j c) refl (content_free link.limits (port_logs before number) number (input_time j) c) h
  one_more before (Started u k c p) m h = sent_on before u k c p (k == number) refl m h

  pub arrivals_rise : (is : List Input) (log : List Entry) → GoesOn site [] is log → NeverFalls input_time (arrivals number link log)
  arrivals_rise is log g =
      (by_place IsRising [] log (λ before e rest split h. one_more before e (made_at AnyInput site is log before e rest g (any is) split) h)
      (record { rises = tt; bound = tt })).rises

-- the node before a link
node_before : (config : Config) (number : ℕ) (link : LinkPlan) → IsConfig config → slice_get config.links number ≡ Some link → link.from < length config.nodes
node_before config number link valid here = (all_here (IsLinkPlan (length config.nodes)) config.links number link valid.links here).from

pub arrivals_of_run : (config : Config) (rows : List Row) (until number : ℕ) (logs : Logs) (link : LinkPlan) → IsConfig config → IsRunTo config rows until logs → slice_get config.links number ≡ Some link → NeverFalls input_time (arrivals number link (log_at logs link.from))
arrivals_of_run config rows until number logs link valid run here =
    let n = link.from in
    let l : n < length config.nodes = node_before config number link valid here in
    elim (slice_get_cases config.nodes n).1 [
      | inl in' ↦
          let site : Site = site_of n in'.0 (links_out n config.links) in
          let there : site_at config n ≡ Some site = ap (option_map (λ (p : NodePlan). site_of n p (links_out n config.links))) in'.2 in
          let h = run.each n site there in
          arrivals_rise number link site (link_out_is config number link site here there) (due until h.inputs) (log_at logs n) h.is_log.steps
      | inr past ↦ let p = past.0 in absurd (omega arith)
    ]
