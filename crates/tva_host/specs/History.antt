-- Product: what a host did and met.
use Rattle.std.specs.Prelude.{ℕ, ◌+◌, ◌%◌, ◌^◌, List, [], ◌∷◌, ◌++◌}
use Rattle.tva_base.specs.declared.{addresses.Address.Address, plan.HostPlan.HostPlan}
use Rattle.tva_policy.specs.Grants.{Deed}
use Rattle.tva_sender.specs.{declared.shape.Shape.Shape, Contacts.Contact, Contacts.Prepared, Shapes.length_of}

-- what its policy goes by, what happened with each peer, the number of packets that were made or
-- injected, and the number of those that were prepared
pub record History : Type 0 where
  pub deeds : List Deed
  pub contacts : List (Address × Contact)
  pub made : ℕ
  pub prepared : ℕ

-- before the first call
abbrev pub beginning : History
beginning = record { deeds = []; contacts = []; made = 0; prepared = 0 }

-- the history after one more send row or decision
abbrev pub with_deed : Deed → History → History
with_deed deed h = record h { deeds = h.deeds ++ deed ∷ [] }

-- after one more packet was made or injected
abbrev pub with_packet : History → History
with_packet h = record h { made = h.made + 1 }

-- after a packet with a body of so many bytes was prepared for a peer in that shape, by the version of the
-- host's shims
abbrev pub with_prepared : ℕ → ℕ → Address → Shape → ℕ → History → History
with_prepared version now dst shape body h = record h {
  contacts = h.contacts ++ (dst, Prepared now shape (length_of version shape body)) ∷ [];
  prepared = h.prepared + 1;
}

-- the nonce that is offered next: the plan's, and one more for each packet that was prepared, in 48
-- bits
abbrev pub next_nonce : HostPlan → History → ℕ
next_nonce plan h = (plan.nonce + h.prepared) % 2 ^ 48
