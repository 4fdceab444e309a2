use Rattle.tva_net.proofs.Common.{◌≡◌, ◌<◌, ◌∷◌, [], length, get_or, set, sym, subst, ◌∙◌, FromTrace, GotMails, mail_at}
use Rattle.tva_net.proofs.Mails.{got_at, kept_by, post_keeps}
use Rattle.tva_net.proofs.Firsts.{some_row}
use Rattle.tva_net.proofs.building.file_row.Goals as goal

pub bounds-nodes-node : goal.bounds-nodes-node
bounds-nodes-node c = subst (λ k. k < length c.args.nodes.now) (sym (c.from-node.ensures ∙ c.node_at.ensures some_row)) (c.requires.takes some_row).node

pub returns-in_err-post_packed-clause-keeps : goal.returns-in_err-post_packed-clause-keeps
returns-in_err-post_packed-clause-keeps c =
    post_keeps c.args.nodes.now c.from-node.result c.index-nodes-node.result c.post_packed.new.self
    (subst (λ k. k < length c.args.nodes.now) (sym (c.from-node.ensures ∙ c.node_at.ensures some_row)) (c.requires.takes some_row).node) c.in_err-post_packed.ensures.same

pub returns-clause-got : goal.returns-clause-got
returns-clause-got c = λ d.
    let xs = c.args.nodes.now in
    let n = c.from-node.result in
    let w = c.post_packed.new.self in
    let row = get_or c.args.rows.now c.args.place d in
    let is : n ≡ row.node = c.from-node.ensures ∙ c.node_at.ensures d in
    let e = c.in_ok-post_packed.ensures in
    subst (λ k. GotMails (mail_at k (FromTrace row ∷ [])) xs (set xs n w)) is
    (got_at n (FromTrace row ∷ []) xs c.index-nodes-node.result w (subst (λ k. k < length xs) (sym is) (c.requires.takes d).node)
    (record { inbox = e.inbox d; stands = e.stands; keeps = kept_by _ _ e.same }))

pub returns-clause-keeps : goal.returns-clause-keeps
returns-clause-keeps c =
    post_keeps c.args.nodes.now c.from-node.result c.index-nodes-node.result c.post_packed.new.self
    (subst (λ k. k < length c.args.nodes.now) (sym (c.from-node.ensures ∙ c.node_at.ensures some_row)) (c.requires.takes some_row).node) c.in_ok-post_packed.ensures.same
