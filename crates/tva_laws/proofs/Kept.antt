-- A sound log keeps its promises.
use Rattle.tva_laws.proofs.Common.{◌≡◌, ℕ, ◌≤◌, List, [], ◌∷◌, ◌++◌, Some, ap, ◌∙◌, subst, ◌==◌, nat_lt, AllByRecursion, filter-append, filter_map-append, LinkLimits, RouterPlan, boot_at, AreLinkLimits, Charge, AreNext, AreTimely, MissesNone, IsLegal, rate_kept, charges_of_boot, Input, Site, IsSite, Content, Entry, Took, input_time, charge_of, charges, port_logs, content, due, IsNodeLog, each-filter, each-weaker, content_at_place, misses_none, limits_valid, IsSizedInput, IsSizedEntry, KeepsGrants, KeepsService, KeepsPromises}
use Rattle.tva_flow.proofs.Places.{legal_front, timely_front}
use Rattle.tva_flow.proofs.Few.{few}
use Rattle.tva_flow.proofs.Budget.{budget}
use Rattle.tva_port.specs.Log as port
use Rattle.tva_port.proofs.Limits.{stays_within}
use Rattle.tva_port.proofs.Served.{alike}
use Rattle.tva_port.proofs.RequestBound.{requests_served}
use Rattle.tva_port.proofs.RegularBound.{regulars_served}
use Rattle.tva_plan.specs.declared.config.NodePlan.TheVariants as plans
use Rattle.tva_laws.proofs.Entries.{took_handled}
use Rattle.tva_laws.proofs.Along.{IsSizedPlace, sent_sized, all_sized, legal, all_charged}

grants_kept : (plan : RouterPlan) (h before rest : List Charge) → h ≡ before ++ rest → AreNext plan.slots plan.clock_offset [] h → AreTimely plan.clock_offset h → KeepsGrants plan before
grants_kept plan h before rest e a t =
    let legal = legal_front plan.slots plan.clock_offset before rest (subst (λ (z : List Charge). AreNext plan.slots plan.clock_offset [] z) e a) in
    let timely = timely_front plan.clock_offset before rest (subst (λ (z : List Charge). AreTimely plan.clock_offset z) e t) in
    record {
      legal = legal;
      timely = timely;
      budget = budget plan.slots plan.clock_offset before legal timely;
      living = λ now p. few plan.slots plan.clock_offset before now legal p;
    }

service_kept : (l : LinkLimits) (until : ℕ) (log : List port.Entry) → AreLinkLimits l → IsLegal l log → MissesNone l until log → KeepsService l until log
service_kept l until log a g m = record {
  legal = g;
  rate = rate_kept l log g;
  room = stays_within l log a g;
  missed = m;
  requests = λ now k. requests_served l log now until a g m k;
  regulars = λ now k. regulars_served l log now until a g m k;
  alike = alike l log a g;
}

module _ (site : Site) (inputs : List Input) (until : ℕ) (log : List Entry) (valid : IsSite site) (small : until ≤ 1000000000000001) (z : AllByRecursion IsSizedInput (due until inputs)) (h : IsNodeLog site inputs until log) where
  grants_at : (plan : RouterPlan) → site.plan ≡ plans.Router plan → (before rest : List Entry) → log ≡ before ++ rest → (boot : ℕ)
      → KeepsGrants plan (charges_of_boot plan boot (charges before))
  grants_at plan e before rest d boot =
      let g = all_charged site valid inputs until log small z h plan e boot in
      let of : List Entry → List Charge = λ es. charges_of_boot plan boot (charges es) in
      let split : of log ≡ of before ++ of rest =
      ap of d ∙ (ap (charges_of_boot plan boot) (filter_map-append charge_of before rest)
      ∙ filter-append (λ (c : Charge). boot_at plan c.time == boot) (charges before) (charges rest)) in
      grants_kept plan (of log) (of before) (of rest) split g.0 g.1

  contents_at : (before : List Entry) (input : Input) (made : Content) (rest : List Entry) → log ≡ before ++ Took input made ∷ rest → content site before input ≡ Some made
  contents_at before input made rest d = content_at_place site (due until inputs) log before input made rest h.steps d

  pub keeps : KeepsPromises site until log
  keeps = record {
    contents = λ before input made rest d. contents_at before input made rest d;
    grants = λ plan e before rest d boot. grants_at plan e before rest d boot;
    links = λ link l out.
        service_kept l until (port_logs log link) (limits_valid site link (link, l) valid out) (legal site valid inputs until log small z h link (link, l) out)
        (misses_none site until log link l out h.none_left);
    fates = λ plan e before input made rest d. took_handled site plan before input made e (contents_at before input made rest d);
  }

  pub sends_sized : AllByRecursion IsSizedEntry log
  sends_sized = each-weaker IsSizedPlace IsSizedEntry sent_sized log (all_sized site valid inputs until log small z h)

-- of inputs that are within the sizes those before a time are
pub sized_before : (until : ℕ) (inputs : List Input) → AllByRecursion IsSizedInput inputs → AllByRecursion IsSizedInput (due until inputs)
sized_before until inputs z = each-filter IsSizedInput (λ i. nat_lt (input_time i) until) inputs z
