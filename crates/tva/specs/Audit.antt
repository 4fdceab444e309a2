-- Product: the text of an audit: a line for each router, and how many lines the report has.
use Rattle.std.specs.Prelude.{ℕ, List, [], ◌∷◌, ◌++◌, Option, Some, None, codes, decimal}
use Rattle.std.specs.List.{flat_map, join_with_byte}
use Rattle.tva_base.specs.declared.packet.Grant.{Grant}
use Rattle.tva_plan.specs.declared.config.Config.{Config}
use Rattle.tva_lines.specs.Lines.{ended, name_of_node}
use Rattle.tva_report.specs.Sums.{limit_of}
use Rattle.tva_audit.specs.declared.routers.RouterSum.{RouterSum}

-- how near the worst grant came to twice its units, in bytes
abbrev pub worst_word : Option (Grant × ℕ) → List ℕ
worst_word None = codes "-"
worst_word (Some worst) = decimal worst.1 ++ codes "/" ++ decimal (limit_of worst.0)

abbrev pub sum_line : Config → RouterSum → List ℕ
sum_line config s =
    ended (join_with_byte 32
    (name_of_node config s.node ∷ (codes "grants=" ++ decimal s.grants) ∷ (codes "charges=" ++ decimal s.charges)
    ∷ (codes "bytes=" ++ decimal s.bytes) ∷ (codes "worst=" ++ worst_word s.worst) ∷ []))

abbrev pub audit_text : Config → List RouterSum → ℕ → List ℕ
audit_text config sums lines = flat_map (sum_line config) sums ++ ended (codes "report ok lines=" ++ decimal lines)
