-- Product: which rows stand for what a trace says.
use Rattle.std.specs.Prelude.{◌≡◌, ℕ, List, [], ◌∷◌, ◌++◌, Option, Some, None, Result, Ok, Err, Vec}
use Rattle.std.specs.{declared.alloc.Global.Global, List.AllZip}
use Rattle.tva_shim.specs.declared.packets.Carried as carries
use Rattle.tva_shim.specs.declared.packets.Carried.TheVariants as carried
use Rattle.tva_plan.specs.declared.config.Config.{Config}
use Rattle.tva_rows.specs.{declared.rows.Row.Row, Raw.CarriedByBytes}
use Rattle.tva_rows.specs.declared.rows.RowWhat as whats
use Rattle.tva_rows.specs.declared.rows.RowWhat.TheVariants as what
use Rattle.tva_trace.specs.{declared.rows.TraceError.TraceError, declared.said.SaidRow.SaidRow, Rows.rows_of}
use Rattle.tva_trace.specs.declared.said.SaidShim.TheVariants.{Bytes, Built}
use Rattle.tva_trace.specs.declared.rows.TraceError.TheVariants as error
use Rattle.tva_trace.specs.declared.said.SaidShim as says
use Rattle.tva_trace.specs.declared.said.SaidWhat as saids
use Rattle.tva_trace.specs.declared.said.SaidWhat.TheVariants as say

abbrev pub CarriedBy : says.SaidShim → carries.Carried → Type 0
CarriedBy (Bytes bytes) c = CarriedByBytes bytes c
CarriedBy (Built shim) c = c ≡ carried.Shim shim

abbrev pub MeansWhat : saids.SaidWhat → whats.RowWhat → Type 0
MeansWhat (say.Send dst payload) w = w ≡ what.Send dst payload
MeansWhat (say.File dst size segment) w = w ≡ what.File dst size segment
MeansWhat (say.Tick dst) w = w ≡ what.Tick dst
MeansWhat (say.Inject flow payload shim) w =
    (c : carries.Carried) × CarriedBy shim c × (w ≡ what.Inject flow payload c)

-- a row is what was said
abbrev pub Means : SaidRow → Row → Type 0
Means said row = (row.time ≡ said.time) × (row.node ≡ said.node) × MeansWhat said.what row.what

-- the row that is said is put behind others, and its time is the last; where none is said nothing changes
abbrev pub IsPut : List Row → List Row → ℕ → ℕ → Option SaidRow → Type 0
IsPut old new last time None = (new ≡ old) × (time ≡ last)
IsPut old new last time (Some said) =
    (row : Row) × Means said row × (new ≡ old ++ row ∷ []) × (time ≡ said.time.0)

-- the rows of a text
abbrev pub AreRows : Config → List ℕ → List Row → Type 0
AreRows config text rows = (said : List SaidRow) × (rows_of config text ≡ Ok said) × AllZip Means said rows

-- an answer is the text's rows, or its first fault, but for want of memory
abbrev pub Answers : Config → List ℕ → Result (Vec Row Global) TraceError → Type 0
Answers config text (Ok rows) = AreRows config text rows.items
Answers config text (Err (error.Fault fault)) = rows_of config text ≡ Err fault
Answers config text (Err error.OutOfMemory) = Unit {0}
