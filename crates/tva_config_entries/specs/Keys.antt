-- Product: keys: which are listed, and what stands at one.
use Rattle.std.specs.Prelude.{ℕ, ◌&&◌, List, Bool, true, not, Ok, Err, Option, Some, None, codes}
use Rattle.std.specs.{List.list_any, Str.bytes_eq}
use Rattle.toml.specs.Data.{Data, Members, no_members, member, get_member}
use Rattle.tva_config_entries.specs.declared.faults.ConfigRule.TheVariants as rule
use Rattle.tva_config_entries.specs.declared.place.Place.{Place}
use Rattle.tva_config_entries.specs.Faults.{Read, fault_at, unless, found}

abbrev pub is_listed : List (List ℕ) → List ℕ → Bool
is_listed keys name = list_any (λ key. bytes_eq key name) keys

abbrev pub are_listed : List (List ℕ) → Members → Bool
are_listed keys no_members = true
are_listed keys (member name d members) = is_listed keys name && are_listed keys members

-- a key that isn't listed is a fault
unfoldable pub only_listed : Place → List (List ℕ) → Members → Read (Unit {0})
only_listed place keys members = unless (not (are_listed keys members)) (fault_at place rule.Unknown (codes "-"))

-- what stands at a key, if anything: a value of the kind, or a fault; and otherwise what is read of a missing key
abbrev pub keyed : {A : Type 0} → Place → List ℕ → (Data → Option A) → Read A → Option Data → Read A
keyed place key kind missing None = missing
keyed place key kind missing (Some d) = found (kind d) (fault_at place rule.Value key)

-- a key that must be there
unfoldable pub required : {A : Type 0} → Place → Members → List ℕ → (Data → Option A) → Read A
required place members key kind = keyed place key kind (Err (fault_at place rule.Missing key)) (get_member key members)

-- a key with a default
unfoldable pub optional : {A : Type 0} → Place → Members → List ℕ → (Data → Option A) → A → Read A
optional place members key kind default = keyed place key kind (Ok default) (get_member key members)
