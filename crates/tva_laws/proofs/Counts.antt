-- In a run so few inputs come to a node that each packet has an ordinal of its own: a link starts one packet a time at most.
use Rattle.tva_laws.proofs.Common.{◌≡◌, ◌≤◌, ◌<◌, ℕ, zero, suc, ◌+◌, ◌*◌, Bool, false, not, cond, eqb, List, [], ◌∷◌, length, Option, Some, None, refl, ap, ◌∙◌, arith, inl, inr, ◌==◌, slice_get, option_map, option_map_or, AllByRecursion, cons_option, eqb-true, eq-eqb, cases_lt, nat_tests, length-map, length-filter, count_by-le-length, slice_get_cases, slice_get_within, Class, LinkPlan, PacketData, packet_length, start_times, starts_apart, Config, NodePlan, IsConfig, IsLinkPlan, all_here, Row, from_source, each-passes, each-weaker, filter_swap, each_from_sources, Input, Arrival, Site, site_of, limits_out, Entry, input_time, input_source, entry_time, port_logs, due, at_time, Logs, log_at, links_out, site_at, arrivals, arrivals_at, reaches, IsRunTo, link_out_is, port_time}
use Rattle.std.proofs.Common.{filter}
use Rattle.std.proofs.lemmas.List.Filters.{length-filter_both}
use Rattle.tva_port.specs.Log as port
use Rattle.tva_laws.proofs.RisingLists.{few_rise, rises_from}
use Rattle.tva_laws.proofs.Given.{AreGiven}
use Rattle.tva_laws.proofs.Hosts.{takes, takes-all}

-- ## a list by its sources

fewer : {X : Type 0} (p : X → Bool) (xs : List X) → length (filter p xs) ≤ length xs
fewer p xs = omega (arith, length-filter p xs, count_by-le-length p xs)

other : (n m : ℕ) → n < suc m → eqb n m ≡ false → n < m
other n m l e = grind (arith, nat_tests)

others_less : (n : ℕ) (xs : List Input) → AllByRecursion (λ i. input_source i < suc n) xs → AllByRecursion (λ i. input_source i < n)
    (filter (λ i. not (input_source i == n)) xs)
others_less n [] a = tt
others_less n (x ∷ xs) a = grind (arith, nat_tests, other, others_less n xs a.1)

by_sources : (n most : ℕ) (xs : List Input) → AllByRecursion (λ i. input_source i < n) xs
    → ((s : ℕ) → length (from_source input_source s xs) ≤ most) → length xs ≤ n * most
by_sources zero most [] a k = omega arith
by_sources zero most (x ∷ xs) a k = absurd (let none : input_source x < 0 = a.0 in omega arith)
by_sources (suc n) most xs a k =
    let own : Input → Bool = λ i. input_source i == n in
    let rest : List Input = filter (λ i. not (own i)) xs in
    let sizes = length-filter_both own (λ i. not (own i)) (λ i. refl) xs in
    let each : (s : ℕ) → length (from_source input_source s rest) ≤ most = λ s.
    (let swap = ap length (filter_swap (λ (i : Input). input_source i == s) (λ (i : Input). not (own i)) xs) in let less = fewer
    (λ (i : Input). not (own i)) (from_source input_source s xs) in omega (arith, swap, less, k s)) in
    let others = by_sources n most rest (others_less n xs a) each in
    omega (arith, sizes, k n, others)

-- ## what a link starts

module _ (number : ℕ) (link : LinkPlan) where
  turned : (on : ℕ) → (on == number) ≡ (number == on)
  turned on = grind (arith, nat_tests, eq-eqb, eqb-true)

  start_count : (b : Bool) (time : ℕ) (class : Class) (p : PacketData) (is : List Input) (xs : List port.Entry)
      → length is ≡ length (start_times xs)
      → length (cons_option
      (cond b (Some (Arrival (at_time (time + packet_length p * link.limits.ns_per_byte + link.delay)) number p)) None) is) ≡ length
      (start_times (cons_option (cond b (Some (port.Started time class p)) None) xs))
  start_count b time class p is xs e = grind (arith, nat_tests)

  -- as many arrive as start
  arrivals_count : (log : List Entry) → length (arrivals number link log) ≡ length (start_times (port_logs log number))
  arrivals_count [] = refl
  arrivals_count (z0 ∷ es) = grind (arith, nat_tests, start_count, arrivals_count es)

early_starts : (number until : ℕ) (log : List Entry) → AllByRecursion (λ e. entry_time e < until) log → AllByRecursion (λ n. n < until)
    (start_times (port_logs log number))
early_starts number until [] a = tt
early_starts number until (e ∷ es) a = grind (arith, nat_tests, port_time, early_starts number until es a.1)

from_zero : (ns : List ℕ) → AllByRecursion (λ n. 0 ≤ n) ns
from_zero [] = tt
from_zero (n ∷ ns) = (omega arith, from_zero ns)

-- ## in a run

module _ (config : Config) (rows : List Row) (until : ℕ) (logs : Logs) (valid : IsConfig config)
    (given : AreGiven config rows until logs) (run : IsRunTo config rows until logs) where
  -- at most one packet arrives on a link for each time
  few_arrive : (number : ℕ) (link : LinkPlan) → slice_get config.links number ≡ Some link
      → length (arrivals number link (log_at logs link.from)) ≤ until
  few_arrive number link here =
      let plan : IsLinkPlan (length config.nodes) link =
      all_here (IsLinkPlan (length config.nodes)) config.links number link valid.links here in
      elim (slice_get_cases config.nodes link.from).1 [
        | inl in' ↦
            let site : Site = site_of link.from in'.0 (links_out link.from config.links) in
            let there : site_at config link.from ≡ Some site =
            ap (option_map (λ (p : NodePlan). site_of link.from p (links_out link.from config.links))) in'.2 in
            let out : limits_out site number ≡ Some (number, link.limits) =
            ap (option_map (λ (o : ℕ × LinkPlan). (o.0, o.1.limits))) (link_out_is config number link site here there) in
            let log : List Entry = log_at logs link.from in
            let keeps = (given.keeps link.from site there).links number link.limits out in
            let rising =
            rises_from (start_times (port_logs log number)) (starts_apart link.limits (port_logs log number) plan.limits keeps.legal) in
            let few =
            few_rise 0 until (start_times (port_logs log number)) rising (from_zero (start_times (port_logs log number)))
            (early_starts number until log (run.each link.from site there).is_log.early) (omega arith) in
            omega (arith, arrivals_count number link log, few)
        | inr past ↦ let p = past.0 in let from = plan.from in absurd (omega arith)
      ]

  small : until ≤ 1000000000000001
  small = omega (arith, run.within, valid.horizon)

  few_from : (node source : ℕ) → length (due until (reaches config rows logs node source)) ≤ until + 1000000
  few_from node source = grind (arith, nat_tests, fewer, length-map, few_arrive)

  -- no source is behind the last link
  none_past : (node number : ℕ) (o : Option LinkPlan) → slice_get config.links number ≡ o → (number < length config.links → ⊥)
      → due until (option_map_or (arrivals_at logs node number) o []) ≡ []
  none_past node number o e l = grind (arith, nat_tests, slice_get_within)

  pub few_inputs : (node : ℕ) (site : Site) → site_at config node ≡ Some site → site.number ≡ node
      → takes (log_at logs node) < 18446744073709551615
  few_inputs node site is number =
      let has = run.each node site is in
      let n : ℕ = suc (length config.links) in
      let each : (s : ℕ) → from_source input_source s has.inputs ≡ due until (reaches config rows logs node s) =
      λ s. has.join.each s ∙ ap (λ (m : ℕ). due until (reaches config rows logs m s)) number in
      let sources : AllByRecursion (λ i. input_source i < n) has.inputs =
      each_from_sources input_time input_source (λ i. input_source i < n) has.inputs (λ s. source_within s has.inputs (each s)) in
      let all =
      by_sources n (until + 1000000) has.inputs sources
      (λ s. (let k = ap length (each s) in let few = few_from node s in omega (arith, k, few))) in
      grind (arith, nat_tests, takes-all, takes, fewer, small)
    where
      source_within : (s : ℕ) (xs : List Input) → from_source input_source s xs ≡ due until (reaches config rows logs node s)
          → AllByRecursion (λ i. input_source i < suc (length config.links)) (from_source input_source s xs)
      source_within s xs e = grind (arith, nat_tests, each-weaker, eqb-true, each-passes, cases_lt, none_past)

      product : (a b c : ℕ) → a ≤ b → a * c ≤ b * c
      product zero b c l = omega arith
      product (suc a) zero c l = absurd (omega arith)
      product (suc a) (suc b) c l = omega (arith, product a b c (omega arith))

      bounded : (taken size count end : ℕ) → taken ≤ size → size ≤ suc count * (end + 1000000) → count ≤ 4096 → end ≤ 1000000000000001
          → taken < 18446744073709551615
      bounded taken size count end a b c d = let p = product (suc count) 4097 (end + 1000000) (omega arith) in omega (arith, a, b, p, d)
