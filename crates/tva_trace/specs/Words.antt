-- Crate: the words of the rules of a trace.
use Rattle.std.specs.Prelude.{ℕ, List, codes}
use Rattle.tva_trace.specs.declared.rows.TraceRule as rules
use Rattle.tva_trace.specs.declared.rows.TraceRule.TheVariants as rule

abbrev pub rule_word : rules.TraceRule → List ℕ
rule_word rule.Header = codes "header"
rule_word rule.Rows = codes "rows"
rule_word rule.Fields = codes "fields"
rule_word rule.Time = codes "time"
rule_word rule.Order = codes "order"
rule_word rule.Node = codes "node"
rule_word rule.Kind = codes "kind"
rule_word rule.Src = codes "src"
rule_word rule.Dst = codes "dst"
rule_word rule.Payload = codes "payload"
rule_word rule.Shim = codes "shim"
