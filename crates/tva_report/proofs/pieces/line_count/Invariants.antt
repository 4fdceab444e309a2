use Rattle.tva_report.proofs.Common.{◌≡◌, ◌≤◌, take, count_by, is_feed}
use Rattle.tva_report.proofs.pieces.line_count.Given as goal

-- the line feeds up to here
abbrev pub invariant-loop-byte : goal.invariant-loop-byte
invariant-loop-byte l = record {
  counted : l.count ≡ count_by is_feed (take l.byte-index l.text);
  few : l.count ≤ l.byte-index;
}
