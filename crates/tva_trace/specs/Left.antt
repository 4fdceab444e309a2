-- Kit: what is left in a place that a caller lends, since it is large.
use Rattle.std.specs.Prelude.{Bool, Option, Some, None, Ok, Err, if◌then◌else◌}
use Rattle.tva_trace.specs.{declared.said.SaidRow.SaidRow, Rows.Ruled}

-- what was left there, or the rule that is broken
abbrev pub left_in : {A : Type 0} → A → Ruled (Unit {0}) → Ruled A
left_in value (Ok done) = Ok value
left_in value (Err broken) = Err broken

-- the row that was left there, where there is one
abbrev pub row_where : Bool → SaidRow → Option SaidRow
row_where is_row row = if is_row then Some row else None

abbrev pub told_by : SaidRow → Ruled Bool → Ruled (Option SaidRow)
told_by row (Ok is_row) = Ok (row_where is_row row)
told_by row (Err broken) = Err broken
