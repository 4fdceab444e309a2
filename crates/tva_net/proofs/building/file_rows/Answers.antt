use Rattle.tva_net.proofs.Common.{◌≡◌, ◌+◌, ◌∷◌, [], List, drop, get_or, ◌∙◌, ap, arith, get_or_default, Row, FromTrace, rows_at, KeepsWork, mail_at, AllZip-same}
use Rattle.tva_net.proofs.Firsts.{row_first, row_left, some_row}
use Rattle.tva_net.proofs.Mails.{all_keep, going_first, going_more, keeps_same, still_delivers}
use Rattle.tva_net.proofs.building.file_rows.Goals as goal

pub loop-place-init : goal.loop-place-init
loop-place-init c = record { going = going_first (rows_at c.args.rows.now) c.args.nodes.now; keeps = AllZip-same KeepsWork keeps_same c.args.nodes.now }

pub file_row-requires-clause-takes : goal.file_row-requires-clause-takes
file_row-requires-clause-takes c = λ d.
    let place = c.loop-place.place in
    let row = get_or c.args.rows.now place d in
    let going = c.loop-place.invariant.going in
    still_delivers going.done c.args.nodes.now c.loop-place.nodes row.node (FromTrace row) going.got (c.requires place d (omega arith))

pub loop-place-preserved : goal.loop-place-preserved
loop-place-preserved c =
    let rows = c.args.rows.now in
    let nodes = c.args.nodes.now in
    let now = c.loop-place.nodes in
    let more = c.file_row.new.nodes in
    let place = c.loop-place.place in
    let row = get_or rows place some_row in
    let e : drop place rows ≡ row ∷ drop (place + 1) rows = row_left rows place row (omega arith) (get_or_default rows place some_row row (omega arith)) in
    record {
      going = going_more (rows_at rows) (rows_at (drop place rows)) (mail_at row.node (FromTrace row ∷ [])) (rows_at (drop (place + 1) rows)) nodes now more c.loop-place.invariant.going (c.in_ok-file_row.ensures.got some_row)
          (λ n. ap (λ (rs : List Row). rows_at rs n) e ∙ row_first row (drop (place + 1) rows) n);
      keeps = all_keep nodes now more c.loop-place.invariant.keeps c.in_ok-file_row.ensures.keeps;
    }

pub returns-in_err-file_row-clause-keeps : goal.returns-in_err-file_row-clause-keeps
returns-in_err-file_row-clause-keeps c = all_keep c.args.nodes.now c.loop-place.nodes c.file_row.new.nodes c.loop-place.invariant.keeps c.in_err-file_row.ensures.keeps
