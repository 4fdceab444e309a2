-- Product: what the log of every node keeps, at each of its places.
use Rattle.std.specs.Prelude.{◌≡◌, ℕ, ◌<◌, ◌≤◌, List, [], ◌∷◌, ◌++◌, Some}
use Rattle.tva_base.specs.declared.limits.LinkLimits.{LinkLimits}
use Rattle.tva_base.specs.declared.packet.Class.TheVariants as class
use Rattle.tva_base.specs.declared.plan.RouterPlan.{RouterPlan}
use Rattle.tva_base.specs.Changes.{in_force}
use Rattle.tva_router.specs.Boots.{charges_of_boot, charges_at}
use Rattle.tva_flow.specs.Charges.{Charge, living_count}
use Rattle.tva_flow.specs.Stands.{NoChargeLater, AreNext}
use Rattle.tva_flow.specs.Budget.{AreTimely, IsWithinBudget}
use Rattle.tva_port.specs.Log as port
use Rattle.tva_port.specs.Decide.{MissesNone}
use Rattle.tva_port.specs.Legal.{IsLegal}
use Rattle.tva_port.specs.Keeps.{IsWithinRate, StaysWithinLimits}
use Rattle.tva_port.specs.Bounds.{request_bound, regular_bound, AreServed, ServesAlike}
use Rattle.tva_plan.specs.declared.config.NodePlan.TheVariants.{Router}
use Rattle.tva_run.specs.declared.kinds.Input.{Input}
use Rattle.tva_run.specs.Sites.{Site, limits_out}
use Rattle.tva_run.specs.Entries.{Content, Arrived, Entry, Took, input_time}
use Rattle.tva_run.specs.Parts.{port_logs, charges}
use Rattle.tva_run.specs.Contents.{content}
use Rattle.tva_laws.specs.Fates.{IsFate}

-- the charges of a router are a list that its cache can have: each came in one of its grant's seconds, no grant
-- has charges of twice its units of 1,024 bytes, and no more flows live than there are slots
pub record KeepsGrants (plan : RouterPlan) (h : List Charge) : Type 0 where
  pub legal : AreNext plan.slots plan.clock_offset [] h
  pub timely : AreTimely plan.clock_offset h
  pub budget : IsWithinBudget h
  pub living : (now : ℕ) → NoChargeLater now h → living_count h now ≤ plan.slots

-- the log of a link's port up to a time: it is one that a port can have, the requests that start from any time to any
-- other keep their rate, what waits is within the limits at each place, no start was missed, each request and each
-- regular packet whose bound is over has started within it, and between any two places keys are served alike
pub record KeepsService (limits : LinkLimits) (until : ℕ) (log : List port.Entry) : Type 0 where
  pub legal : IsLegal limits log
  pub rate : IsWithinRate limits log
  pub room : StaysWithinLimits limits log
  pub missed : MissesNone limits until log
  pub requests : (now : ℕ) → now < until → AreServed limits class.Request (request_bound limits) now log
  pub regulars : (now : ℕ) → now < until → AreServed limits class.Regular (regular_bound limits) now log
  pub alike : ServesAlike limits log

-- a router handles each input by the plan in force, over the charges of the boot
abbrev pub IsHandled : RouterPlan → List Entry → Input → Content → Type 0
IsHandled plan before input (Arrived from packet fate onward) =
    IsFate (in_force plan (input_time input)) (charges_at plan (input_time input) (charges before)) (port_logs before)
    (input_time input) from packet fate onward
IsHandled plan before input _ = ⊥

-- a node's log up to a time: at each place an input became what the node makes of it over what stands before it, a
-- router's charges of each boot keep their grants, the log of each link out of the node keeps its service, and each
-- arrival at a router has its fate; so a budget is one of a router, a boot and a grant
pub record KeepsPromises (site : Site) (until : ℕ) (log : List Entry) : Type 0 where
  pub contents : (before : List Entry) (input : Input) (made : Content) (rest : List Entry)
      → log ≡ before ++ Took input made ∷ rest → content site before input ≡ Some made
  pub grants : (plan : RouterPlan) → site.plan ≡ Router plan → (before rest : List Entry) → log ≡ before ++ rest
      → (boot : ℕ) → KeepsGrants plan (charges_of_boot plan boot (charges before))
  pub links : (link : ℕ) (limits : LinkLimits) → limits_out site link ≡ Some (link, limits)
      → KeepsService limits until (port_logs log link)
  pub fates : (plan : RouterPlan) → site.plan ≡ Router plan
      → (before : List Entry) (input : Input) (made : Content) (rest : List Entry)
      → log ≡ before ++ Took input made ∷ rest → IsHandled plan before input made
