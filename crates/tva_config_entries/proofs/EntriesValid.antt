-- What the entries of the tables keep that were read.
use Rattle.tva_config_entries.proofs.Common.{at, ◌≤◌, ℕ, List, [], IfOk, refl, All, length, arith, nat_tests, All-nil, Members, AreLinkLimits, address_of, AreRights, IsVersion, Place, Read, optional, router_of, policy_plan_of, host_of, row, limits_of, link_of, route_of, table_entries, entry_step, IsPolicyPlan}
use Rattle.tva_config_entries.specs.declared.faults.ConfigTable as tables
use Rattle.tva_config_entries.specs.Values as value
use Rattle.tva_config_entries.proofs.Ranges.{IsRouterEntry, IsHostEntry, IsLinkEntry, IsRouteEntry}
use Rattle.tva_config_entries.proofs.KindsValid.{Gives, IsWithin, number_needed, number_or, number_valid, name_needed, prefix_needed, nonce_or, few_or}
use Rattle.tva_config_entries.proofs.Turns.{if_gave, in_turn_keeps, all_push}

pub router_valid : (p : Place) (ms : Members) → IfOk (router_of p ms) IsRouterEntry
unfolding router_of
router_valid p ms = grind (arith, name_needed, number_needed, number_or)

addresses_few : (p : Place) (ms : Members) (key : List ℕ) → Gives (optional p ms key (value.few_items (value.written address_of)) []) (λ xs. length xs ≤ 1024)
addresses_few p ms key = grind (arith, few_or (λ _. Unit {0}) (value.written address_of) p ms key)

tags_few : (p : Place) (ms : Members) (key : List ℕ) → Gives (optional p ms key (value.few_items (value.number 1 65535)) []) (λ xs. (length xs ≤ 1024) × All (IsWithin 1 65535) xs)
tags_few p ms key = few_or (IsWithin 1 65535) (value.number 1 65535) p ms key (number_valid 1 65535)

policy_valid : (version : ℕ) (p : Place) (ms : Members) → Gives (policy_plan_of version p ms) (λ q. AreRights version q.rights × IsPolicyPlan q)
unfolding policy_plan_of
policy_valid version p ms = grind (arith, nat_tests, number_or, addresses_few, tags_few)

pub host_valid : (version : ℕ) → IsVersion version → (p : Place) (ms : Members) → IfOk (host_of version p ms) IsHostEntry
unfolding host_of
host_valid version is p ms = grind (arith, name_needed, nonce_or, number_or, policy_valid)

row_valid : (p : Place) (ms : Members) (request regular : List ℕ) (low high default : ℕ) → low ≤ default → default ≤ high
    → Gives (row p ms request regular low high default) (λ q. IsWithin low high q.0 × IsWithin low high q.1)
unfolding row
row_valid p ms request regular low high default least most = grind (arith, number_or)

limits_valid : (p : Place) (ns : ℕ) (ms : Members) → IsWithin 1 1000000 ns → Gives (limits_of p ns ms) AreLinkLimits
unfolding limits_of
limits_valid p ns ms rate = grind (arith, nat_tests, number_or, row_valid)

pub link_valid : (p : Place) (ms : Members) → IfOk (link_of p ms) IsLinkEntry
unfolding link_of
link_valid p ms = grind (arith, name_needed, number_needed, number_or, limits_valid)

pub route_valid : (p : Place) (ms : Members) → IfOk (route_of p ms) IsRouteEntry
unfolding route_of
route_valid p ms = grind (arith, name_needed, prefix_needed)

-- what each entry keeps, all of a table keep
pub entries_valid : {A : Type 0} (P : A → Type 0) (t : tables.ConfigTable) (entry_of : Place → Members → Read A)
    → ((p : Place) (ms : Members) → IfOk (entry_of p ms) P) → (entries : List Members) → Gives (table_entries t entry_of entries) (All P)
unfolding table_entries
entries_valid P t entry_of each entries =
    (refl, if_gave _ _ (λ xs gave. in_turn_keeps (All P) (entry_step t entry_of) (λ done ms x all made. all_push P done x all (rw made at (each (at t (length done)) ms))) [] entries xs (All-nil P) gave))
