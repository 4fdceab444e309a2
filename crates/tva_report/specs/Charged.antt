-- Product: what the events of a router say of the packets that it authorised, and in which boot each came.
use Rattle.std.specs.Prelude.{ℕ, ◌==◌, List, count_by, filter, Option, None}
use Rattle.std.specs.List.{filter_map}
use Rattle.std.specs.Option.{option_map}
use Rattle.tva_base.specs.declared.event.Event.{Event}
use Rattle.tva_base.specs.declared.event.Happened.{Happened}
use Rattle.tva_base.specs.declared.event.Happened.TheVariants.{Arrived, Sent, Received, Started, Ticked}
use Rattle.tva_base.specs.declared.packet.Grant.{Grant}
use Rattle.tva_base.specs.declared.packet.Time.{Time}
use Rattle.tva_base.specs.Changes.{has_come}
use Rattle.tva_report.specs.declared.charged.Charged.{Charged}

-- a packet that was charged to a grant
abbrev pub charged_at : Time → ℕ → Grant → Charged
charged_at time length grant = record { time = time; grant = grant; length = length }

-- an arrival that was authorised
abbrev pub charged_by : Time → Happened → Option Charged
charged_by time (Arrived id length from fate) = option_map (charged_at time length) fate.charge
charged_by time (Sent id length shape outcome) = None
charged_by time (Received id length from payload what back reply range) = None
charged_by time (Started id length link class end) = None
charged_by time Ticked = None

abbrev pub charged_in : Event → Option Charged
charged_in event = charged_by event.time event.happened

-- what is charged in these events, in their order
abbrev pub charges_in : List Event → List Charged
charges_in events = filter_map charged_in events

-- the boot at a time: how many of these restarts have come
abbrev pub boot_among : List (Time × List ℕ) → ℕ → ℕ
boot_among restarts now = count_by (λ change. has_come now change.0) restarts

-- the charges of a boot
abbrev pub of_boot : List (Time × List ℕ) → ℕ → List Charged → List Charged
of_boot restarts boot cs = filter (λ c. boot_among restarts c.time.0 == boot) cs
