-- Product: the calls on a host, and the history that they make.
use Rattle.std.specs.Prelude.{ℕ, ◌≤◌, List, [], ◌∷◌, fold}
use Rattle.tva_base.specs.declared.{addresses.Address.Address, packet.Flow.Flow, packet.Upper.Upper}
use Rattle.tva_base.specs.declared.plan.HostPlan.{HostPlan}
use Rattle.tva_shim.specs.{declared.packets.Carried.Carried, Packets.PacketData}
use Rattle.tva_host.specs.{History.History, History.beginning, History.with_packet, Sending.after_intending}
use Rattle.tva_host.specs.Receiving.{after_receipt}

-- a packet that is to be sent at a time to a destination with a payload and an upper part; a packet of
-- the trace with its flow, its payload and what it carries; or a packet that came in at a time, with the
-- upper part that is to be answered
pub data Call : Type 0 where
  Intended : ℕ → Address → ℕ → Upper → Call
  Injected : Flow → ℕ → Carried → Call
  Received : ℕ → PacketData → Upper → Call

-- the history after one more call
abbrev pub after_call : HostPlan → History → Call → History
after_call plan h (Intended now dst payload above) = after_intending plan h now dst payload
after_call plan h (Injected flow payload carries) = with_packet h
after_call plan h (Received now packet above) = after_receipt plan h now packet above

-- the history that calls make, the first one first
abbrev pub history_of : HostPlan → List Call → History
history_of plan calls = fold (after_call plan) beginning calls

-- the time of the last call that has one, or that time
abbrev pub last_time : ℕ → List Call → ℕ
last_time from [] = from
last_time from (Intended now dst payload above ∷ cs) = last_time now cs
last_time from (Injected flow payload carries ∷ cs) = last_time from cs
last_time from (Received now packet above ∷ cs) = last_time now cs

-- from that time on, the times of calls never fall
abbrev pub NeverFall : ℕ → List Call → Type 0
NeverFall from [] = Unit {0}
NeverFall from (Intended now dst payload above ∷ cs) = (from ≤ now) × NeverFall now cs
NeverFall from (Injected flow payload carries ∷ cs) = NeverFall from cs
NeverFall from (Received now packet above ∷ cs) = (from ≤ now) × NeverFall now cs
