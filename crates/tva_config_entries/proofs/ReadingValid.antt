-- What is read of a text as its entries keeps the ranges of its keys.
use Rattle.tva_config_entries.proofs.Common.{◌≡◌, ℕ, List, [], length, Ok, refl, All, arith, nat_tests, Members, IsVersion, router_of, host_of, link_of, route_of, table_entries, ConfigEntries, Place, Read, entry_step, members_read, entries_read}
use Rattle.tva_config_entries.specs.declared.faults.ConfigTable as tables
use Rattle.tva_config_entries.specs.declared.faults.ConfigTable.TheVariants as table
use Rattle.tva_config_entries.proofs.Ranges.{IsRouterEntry, IsHostEntry, IsLinkEntry, IsRouteEntry, AreEntries}
use Rattle.tva_config_entries.proofs.KindsValid.{Gives, number_needed, number_or}
use Rattle.tva_config_entries.proofs.EntriesValid.{router_valid, host_valid, link_valid, route_valid, entries_valid}
use Rattle.tva_config_entries.proofs.Turns.{if_gave, in_turn_long}

table_long : {A : Type 0} (t : tables.ConfigTable) (entry_of : Place → Members → Read A) (entries : List Members) → Gives (table_entries t entry_of entries) (λ xs. length xs ≡ length entries)
unfolding table_entries
table_long t entry_of entries = (refl, if_gave (table_entries t entry_of entries) (λ xs. length xs ≡ length entries) (λ xs gave. let long = in_turn_long (entry_step t entry_of) [] entries xs gave in omega (arith, long)))

hosts_valid : (version : ℕ) (entries : List Members) → Gives (table_entries table.Host (host_of version) entries) (λ hs. IsVersion version → All IsHostEntry hs)
hosts_valid version entries = (
  refl,
  if_gave (table_entries table.Host (host_of version) entries) (λ hs. IsVersion version → All IsHostEntry hs)
      (λ hs gave is. rw gave at ((entries_valid IsHostEntry table.Host (host_of version) (host_valid version is) entries).1)),
)

members_valid : (ms : Members) → Gives (members_read ms) AreEntries
unfolding members_read
members_valid ms = grind (arith, nat_tests, number_needed, number_or, table_long, hosts_valid, entries_valid IsRouterEntry table.Router router_of router_valid, entries_valid IsLinkEntry table.Link link_of link_valid, entries_valid IsRouteEntry table.Route route_of route_valid)

pub read_entries_valid : (text : List ℕ) (e : ConfigEntries) → entries_read text ≡ Ok e → AreEntries e
unfolding entries_read
read_entries_valid text e gave = grind (arith, members_valid)
