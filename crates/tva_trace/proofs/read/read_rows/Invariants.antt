use Rattle.tva_trace.proofs.Common.{◌-◌, counted}
use Rattle.tva_trace.proofs.Reading.{IsReadTo}
use Rattle.tva_trace.proofs.read.read_rows.Given as goal

abbrev pub invariant-records : goal.invariant-records
invariant-records l = IsReadTo l.config l.text l.reader l.number l.last (counted l.files) l.rows

-- a record past the last that may be breaks a rule
abbrev pub decreases-records : goal.decreases-records
decreases-records l = 1000002 - l.number
