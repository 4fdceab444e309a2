-- Crate: what a host keeps, and for which calls it stands.
use Rattle.std.specs.Prelude.{◌≡◌, ◌≤◌, ℕ, List}
use Rattle.tva_base.specs.{declared.plan.HostPlan.HostPlan, Ordinals.ordinal_behind}
use Rattle.tva_policy.specs.Notes as policy
use Rattle.tva_sender.specs.Book as sender
use Rattle.tva_host.specs.History.{History, next_nonce}
use Rattle.tva_host.specs.Calls.{Call, history_of, last_time, NeverFall}

-- a host: its node's number, its plan, the ordinal of its next packet, the nonce that it offers next,
-- its last time in nanoseconds, and what its policy and its sender keep
pub record HostData : Type 0 where
  pub node : ℕ
  pub plan : HostPlan
  pub next : ℕ
  pub offered : ℕ
  pub last : ℕ
  pub policy : policy.Notes
  pub sender : sender.Book

abbrev pub host_data : ℕ → HostPlan → ℕ → ℕ → ℕ → policy.Notes → sender.Book → HostData
host_data node plan next offered last notes book =
    record { node = node; plan = plan; next = next; offered = offered; last = last; policy = notes; sender = book }

-- what is kept is by the history: its policy and its sender stand for it, the next ordinal is the one
-- behind its packets, and the nonce that is offered next is the one after those that were offered
pub record Keeps (v : HostData) (h : History) : Type 0 where
  pub next : v.next ≡ ordinal_behind h.made
  pub offered : v.offered ≡ next_nonce v.plan h
  pub margin : v.sender.margin ≡ v.plan.margin
  pub retry : v.sender.retry ≡ v.plan.retry
  pub version : v.sender.version ≡ v.plan.version
  pub policy : policy.StandsFor v.plan.policy v.policy h.deeds
  pub sender : sender.StandsFor v.sender h.contacts

-- the host stands for these calls: their times never fall and are at most its last time, and it keeps
-- what is by their history
pub record StandsFor (v : HostData) (calls : List Call) : Type 0 where
  pub order : NeverFall 0 calls
  pub past : last_time 0 calls ≤ v.last
  pub keeps : Keeps v (history_of v.plan calls)

-- what a refusal may change: the room for peers
abbrev pub with_room : sender.Book → HostData → HostData
with_room book v = record v { sender = record v.sender { spare = book.spare; peers = book.peers } }

-- the host at a later time
abbrev pub at_time : ℕ → HostData → HostData
at_time now v = record v { last = now }
