-- Product: whom a host grants, over what it did before.
use Rattle.std.specs.Prelude.{ℕ, Bool, true, false, not, ◌&&◌, ◌==◌, nat_lt, if◌then◌else◌, List, count_by, Option}
use Rattle.std.specs.Prelude.{Some, None}
use Rattle.std.specs.List.{list_any}
use Rattle.tva_base.specs.declared.addresses.Address.{Address}
use Rattle.tva_base.specs.declared.packet.Rights.{Rights}
use Rattle.tva_base.specs.declared.plan.PolicyKind.{PolicyKind}
use Rattle.tva_base.specs.declared.plan.PolicyKind.TheVariants.{DenyAll, Client, Server}
use Rattle.tva_base.specs.declared.plan.PolicyPlan.{PolicyPlan}

-- what a policy goes by: a send row of the host, and a decision on a source, which granted or not
pub data Deed : Type 0 where
  Sent : Address → Deed
  Decided : Address → Bool → Deed

-- it is a send row to the address
abbrev pub is_sending_to : Address → Deed → Bool
is_sending_to a (Sent dst) = a.0 == dst.0
is_sending_to a (Decided src granted) = false

-- it is a decision that granted to the address
abbrev pub is_grant_to : Address → Deed → Bool
is_grant_to a (Sent dst) = false
is_grant_to a (Decided src granted) = granted && (a.0 == src.0)

-- the host had a send row to the address
abbrev pub was_sent_to : List Deed → Address → Bool
was_sent_to h a = list_any (is_sending_to a) h

-- how many decisions granted to the address
abbrev pub grants_before : List Deed → Address → ℕ
grants_before h a = count_by (is_grant_to a) h

-- whom a kind of policy lets in: nobody, whom the host sent to, or everybody
abbrev pub lets_in : PolicyKind → Bool → Bool
lets_in DenyAll sent = false
lets_in Client sent = sent
lets_in Server sent = true

abbrev pub has_address : List Address → Address → Bool
has_address addresses a = list_any (λ d. a.0 == d.0) addresses

abbrev pub has_tag : List ℕ → ℕ → Bool
has_tag tags tag = list_any (λ d. tag == d) tags

-- a policy with this plan grants to the source of a packet with these tags
unfoldable pub is_granted : PolicyPlan → List Deed → Address → List ℕ → Bool
is_granted plan h src tags =
    lets_in plan.kind (was_sent_to h src) && not (has_address plan.deny src)
    && not (list_any (has_tag plan.deny_tags) tags) && nat_lt (grants_before h src) plan.grants

-- the decision: the plan's rights, or none
abbrev pub grant_decision : PolicyPlan → List Deed → Address → List ℕ → Option Rights
grant_decision plan h src tags = if is_granted plan h src tags then Some plan.rights else None
