-- Kit: of what an input is noted that memory doesn't hold.
use Rattle.tva_run.specs.declared.kinds.Input.{Input}
use Rattle.tva_run.specs.declared.kinds.Input.TheVariants.{FromTrace}
use Rattle.std.specs.Prelude.{slice_index_or}
use Rattle.tva_rows.specs.declared.rows.Row.{Row}
use Rattle.tva_rows.specs.declared.rows.RowWhat.TheVariants as what
use Rattle.tva_waiting.specs.declared.inbox.Source as sources
use Rattle.tva_waiting.specs.declared.inbox.Source.TheVariants as source
use Rattle.tva_waiting.specs.Inputs.{arrived}

-- what stands for the row at a place where there is none, of which nothing is noted
abbrev pub no_row : Row
no_row = record { time = record { 0 = 0 }; node = 0; what = what.Tick (record { 0 = 0 }) }

abbrev pub noted_of : sources.Source → Input
noted_of (source.Packed rows place) = FromTrace (slice_index_or rows.value place.value no_row)
noted_of (source.Flight flight) = arrived flight.value
