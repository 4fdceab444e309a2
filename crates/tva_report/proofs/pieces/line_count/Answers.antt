use Rattle.tva_report.proofs.Common.{◌≤◌, length, ap, ◌∙◌, arith, count_by, take_all, is_feed}
use Rattle.tva_report.proofs.Feeds.{feeds_of_lines}
use Rattle.tva_report.proofs.pieces.line_count.Goals as goal

pub returns : goal.returns
returns c =
    let text = c.args.text.now in
    let all : length text ≤ c.loop-byte.byte-index = omega (arith, c.loop-byte-test.false) in
    c.loop-byte.invariant.counted ∙ ap (count_by is_feed) (take_all c.loop-byte.byte-index text all) ∙ feeds_of_lines text c.requires
