-- Product: the charges of a router's boots. A restart ends a boot with all that was granted in it.
use Rattle.std.specs.Prelude.{ℕ, ◌==◌, List, filter}
use Rattle.tva_base.specs.declared.plan.RouterPlan.{RouterPlan}
use Rattle.tva_base.specs.Changes.{boot_at}
use Rattle.tva_flow.specs.Charges.{Charge}

-- the charges with times in a boot
abbrev pub charges_of_boot : RouterPlan → ℕ → List Charge → List Charge
charges_of_boot plan boot h = filter (λ c. boot_at plan c.time == boot) h

-- those of the boot that a time is in
abbrev pub charges_at : RouterPlan → ℕ → List Charge → List Charge
charges_at plan now h = charges_of_boot plan (boot_at plan now) h
