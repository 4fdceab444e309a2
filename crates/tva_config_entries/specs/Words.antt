-- Crate: the names of tables and rules in the text of a fault.
use Rattle.std.specs.Prelude.{ℕ, List, codes}
use Rattle.tva_config_entries.specs.declared.faults.ConfigTable as tables
use Rattle.tva_config_entries.specs.declared.faults.ConfigTable.TheVariants as table
use Rattle.tva_config_entries.specs.declared.faults.ConfigRule as rules
use Rattle.tva_config_entries.specs.declared.faults.ConfigRule.TheVariants as rule

abbrev pub table_word : tables.ConfigTable → List ℕ
table_word table.Top = codes "top"
table_word table.Router = codes "router"
table_word table.Host = codes "host"
table_word table.Link = codes "link"
table_word table.Route = codes "route"
table_word table.Restart = codes "restart"
table_word table.Reroute = codes "reroute"

abbrev pub rule_word : rules.ConfigRule → List ℕ
rule_word rule.Syntax = codes "syntax"
rule_word rule.Unknown = codes "unknown"
rule_word rule.Missing = codes "missing"
rule_word rule.Value = codes "value"
rule_word rule.Count = codes "count"
rule_word rule.Names = codes "names"
rule_word rule.Addresses = codes "addresses"
rule_word rule.Retry = codes "retry"
rule_word rule.Ends = codes "ends"
rule_word rule.Pair = codes "pair"
rule_word rule.Uplink = codes "uplink"
rule_word rule.Owner = codes "owner"
rule_word rule.Via = codes "via"
rule_word rule.Prefix = codes "prefix"
rule_word rule.Slots = codes "slots"
rule_word rule.Rings = codes "rings"
rule_word rule.Times = codes "times"
