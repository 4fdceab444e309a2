use Rattle.tva_net.proofs.Common.{rules, ◌≡◌, [], List, length, sym, subst, ◌∙◌, ap, with_items_is, NodeState, rows_at, GotMails, AreFirstNodes}
use Rattle.tva_net.proofs.Firsts.{row_there, rows_deliver, with_rows}
use Rattle.tva_net.proofs.building.first_nodes.Goals as goal

pub make_room-requires-clause-within : goal.make_room-requires-clause-within
make_room-requires-clause-within c =
    row_there c.args.config.now (length c.as_mut_slice-each.result.now) c.args.rows (ap length c.as_mut_slice-each.ensures.value ∙ c.in_ok-nodes.ensures.first.count) c.requires.rows

pub file_rows-requires : goal.file_rows-requires
file_rows-requires c =
    let config = c.args.config.now in
    let same : c.make_room.new.nodes ≡ c.in_ok-nodes.nodes.items = c.make_room.ensures ∙ c.as_mut_slice-each.ensures.value in
    let first = subst (λ (vs : List NodeState). AreFirstNodes config [] vs) (sym same) c.in_ok-nodes.ensures.first in
    rows_deliver config c.make_room.new.nodes c.args.rows first c.requires.rows

pub returns-clause-first : goal.returns-clause-first
returns-clause-first c =
    let config = c.args.config.now in
    let rows = c.args.rows in
    let nodes = c.in_ok-nodes.nodes.items in
    let filed = c.file_rows.new.nodes in
    let same : c.make_room.new.nodes ≡ nodes = c.make_room.ensures ∙ c.as_mut_slice-each.ensures.value in
    let got = subst (λ (vs : List NodeState). GotMails (rows_at rows) vs filed) same c.in_ok-file_rows.ensures.got in
    subst (λ (vs : List NodeState). AreFirstNodes config rows vs) (sym (with_items_is c.in_ok-nodes.nodes filed (search rules)))
    (with_rows config rows nodes filed c.in_ok-nodes.ensures.first got)
