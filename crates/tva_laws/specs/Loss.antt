-- Crate: a walk with a loss. On A's link one packet may wait, and of three nonces alone that A sends at once the last is
-- dropped there; six seconds later A renews its grant.
use Rattle.std.specs.Prelude.{ℕ, false, List, [], ◌∷◌, ◌++◌}
use Rattle.tva_base.specs.declared.event.ShapeKind.TheVariants as shape
use Rattle.tva_base.specs.declared.event.WhatKind.TheVariants as what
use Rattle.tva_base.specs.declared.packet.Class.TheVariants.{Regular}
use Rattle.tva_base.specs.declared.packet.DropCause.TheVariants.{QueueFull}
use Rattle.tva_base.specs.declared.packet.Outcome.{Outcome}
use Rattle.tva_base.specs.declared.packet.Outcome.TheVariants.{Queued, Dropped}
use Rattle.tva_base.specs.declared.plan.LinkPlan.{LinkPlan}
use Rattle.tva_shim.specs.Packets.{PacketData}
use Rattle.tva_caps.specs.Formula.{precap_of}
use Rattle.tva_plan.specs.declared.config.Config.{Config}
use Rattle.tva_plan.specs.declared.config.NodePlan.TheVariants.{Router, Host}
use Rattle.tva_rows.specs.declared.rows.Row.{Row}
use Rattle.tva_run.specs.declared.kinds.Input.TheVariants.{FromTrace}
use Rattle.tva_run.specs.Entries.{Entry, Took, Started, Sent}
use Rattle.tva_run.specs.Reaching.{Logs}
use Rattle.tva_laws.specs.Walk.{walk_class, walk_limits, walk_router, walk_host_b, walk_link, walk_config, walk_flow}
use Rattle.tva_laws.specs.Steady.{Walk}
use Rattle.tva_laws.specs.Restarts.{denying_a, sends, a_renewal, a_nonce, goes, takes, charged_to, passes, first_cap, early_a}
use Rattle.tva_laws.specs.Restarts.{early_b, early_router}

-- A's link, and the network with it, of which the router doesn't restart
abbrev pub short_link : LinkPlan
short_link = record (walk_link 1 0 1) { limits = record walk_limits { regular = record walk_class { ring = 1 } } }

abbrev pub loss_config : Config
loss_config = record walk_config {
  nodes = Router walk_router ∷ Host denying_a ∷ Host walk_host_b ∷ [];
  links = short_link ∷ walk_link 0 1 0 ∷ walk_link 0 2 0 ∷ walk_link 2 0 2 ∷ [];
}

abbrev pub loss_walk : Walk
loss_walk = record { config = loss_config; sender = 1; host = denying_a; node = 0; router = walk_router; delay = 1000520 }

abbrev pub loss_rows : List Row
loss_rows =
    sends 0 77 ∷ sends 5000000 1000 ∷ sends 10000000 1000 ∷ sends 10001000 1000 ∷ sends 10002000 1000 ∷ sends 6000000000 1000 ∷ []

-- the renewal, as it comes and as it goes on
abbrev pub late_renewal : PacketData
late_renewal = a_renewal 6 2 0 0 first_cap

abbrev pub late_renewed : PacketData
late_renewed = a_renewal 6 2 1 1 (precap_of walk_router.master walk_flow 6)

-- what is offered to A's link while that sends
abbrev pub offers : ℕ → ℕ → Outcome → List Entry
offers time ordinal outcome =
    Took (FromTrace (sends time 1000)) (Sent (record { packet = a_nonce ordinal 0 false; shape = shape.Nonce }) outcome) ∷ []

abbrev pub loss_log_a : List Entry
loss_log_a =
    early_a
    ++ goes 10000000 (a_nonce 3 0 false) shape.Nonce Regular
    ++ offers 10001000 4 (Queued 0)
    ++ offers 10002000 5 (Dropped QueueFull)
    ++ Started 10010280 0 Regular (a_nonce 4 0 false)
    ∷ goes 6000000000 late_renewal shape.Renewal Regular

abbrev pub loss_log_b : List Entry
loss_log_b =
    early_b
    ++ takes 12020560 (a_nonce 3 1 false) what.Regular
    ++ takes 12030840 (a_nonce 4 1 false) what.Regular

-- the router's log before the renewal comes
abbrev pub loss_before_renewal : List Entry
loss_before_renewal =
    early_router
    ++ passes 11010280 0 (a_nonce 3 0 false) (charged_to 0 2) 2 (a_nonce 3 1 false)
    ++ passes 11020560 0 (a_nonce 4 0 false) (charged_to 0 2) 2 (a_nonce 4 1 false)

abbrev pub loss_log_router : List Entry
loss_log_router = loss_before_renewal ++ passes 6001010400 0 late_renewal (charged_to 0 2) 2 late_renewed

abbrev pub loss_logs : Logs
loss_logs = loss_log_router ∷ loss_log_a ∷ loss_log_b ∷ []

-- just past the time at which the renewal comes
abbrev pub loss_until : ℕ
loss_until = 6001010401
