use Rattle.tva_config_entries.proofs.Common.{sym, IsTrue, table_view}
use Rattle.tva_config_entries.proofs.Documents.{document_parsed, document_refused}
use Rattle.tva_config_entries.proofs.reading.document.Goals as goal

pub returns-in-Ok : goal.returns-in-Ok
returns-in-Ok c = sym (document_parsed c.args.text.now (table_view c.in-Ok.table) c.in-Ok.ensures.ok.0 c.in-Ok.ensures.ok.1)

pub returns-else-is_memory : goal.returns-else-is_memory
returns-else-is_memory c =
    let untrue : IsTrue c.is_memory.result → ⊥ = λ h. let no = c.if-is_memory.false in cc in
    sym (document_refused c.args.text.now (c.in-Err.ensures.refused (λ h. untrue (c.is_memory.ensures.1 h))))
