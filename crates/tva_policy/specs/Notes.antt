-- Crate: what a policy keeps, and for which plan and history it stands.
use Rattle.std.specs.Prelude.{◌≡◌, ℕ, Bool, true, ◌||◌, ◌==◌, List, Option, Some, None, unwrap_or}
use Rattle.std.specs.List.{list_any}
use Rattle.std.specs.Map.{lookup}
use Rattle.tva_base.specs.declared.addresses.Address.{Address}
use Rattle.tva_base.specs.declared.packet.Rights.{Rights}
use Rattle.tva_base.specs.declared.plan.PolicyKind.{PolicyKind}
use Rattle.tva_base.specs.declared.plan.PolicyPlan.{PolicyPlan}
use Rattle.tva_policy.specs.Grants.{Deed, was_sent_to, grants_before, lets_in, has_address, has_tag}

-- the plan, the noted destinations, and the number of grants to each source that was granted to
pub record Notes : Type 0 where
  pub kind : PolicyKind
  pub rights : Rights
  pub grants : ℕ
  pub deny : List Address
  pub deny_tags : List ℕ
  pub noted : List Address
  pub granted : List (Address × ℕ)

-- the number of grants that is kept for an address
abbrev pub grants_kept : List (Address × ℕ) → Address → ℕ
grants_kept granted a = unwrap_or (lookup (λ d. a.0 == d.0) granted) 0

-- a policy with this plan keeps of this history what it keeps: of the destinations, as far as its kind asks for them
pub record StandsFor (plan : PolicyPlan) (v : Notes) (h : List Deed) : Type 0 where
  pub kind : v.kind ≡ plan.kind
  pub rights : v.rights ≡ plan.rights
  pub grants : v.grants ≡ plan.grants
  pub deny : (a : Address) → has_address v.deny a ≡ has_address plan.deny a
  pub deny_tags : (tag : ℕ) → has_tag v.deny_tags tag ≡ has_tag plan.deny_tags tag
  pub noted : (a : Address) → lets_in v.kind (has_address v.noted a) ≡ lets_in v.kind (was_sent_to h a)
  pub granted : (a : Address) → grants_kept v.granted a ≡ grants_before h a

-- the source is denied, or a tag
abbrev pub denies : Notes → Address → List ℕ → Bool
denies v src tags = has_address v.deny src || list_any (has_tag v.deny_tags) tags

-- what is remembered beside the noted destinations is one of them
abbrev pub IsNotedIn : List Address → Option Address → Type 0
IsNotedIn noted None = Unit {0}
IsNotedIn noted (Some dst) = has_address noted dst ≡ true
