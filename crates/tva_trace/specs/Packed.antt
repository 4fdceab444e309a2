-- Crate: rows in little memory, and which rows those are.
use Rattle.std.specs.Prelude.{◌≡◌, ℕ, List, Result, Ok, Err}
use Rattle.tva_plan.specs.declared.config.Config.{Config}
use Rattle.tva_rows.specs.declared.rows.Row.{Row}
use Rattle.tva_trace.specs.{declared.rows.TraceError.TraceError, Rows.rows_of, Meaning.AreRows}
use Rattle.tva_trace.specs.declared.rows.TraceError.TheVariants as error

-- an answer is the text's rows, or its first fault, but for want of memory
abbrev pub AnswersPacked : Config → List ℕ → Result (List Row) TraceError → Type 0
AnswersPacked config text (Ok rows) = AreRows config text rows
AnswersPacked config text (Err (error.Fault fault)) = rows_of config text ≡ Err fault
AnswersPacked config text (Err error.OutOfMemory) = Unit {0}
