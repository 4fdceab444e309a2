use Rattle.tva_flow.proofs.Common.{sym, ap, ◌∙◌, arith, Entry, renewed}
use Rattle.tva_flow.proofs.Indexed.{same_read}
use Rattle.tva_flow.proofs.Admit.{answers-held, answers-unheld, held_judged}
use Rattle.tva_flow.proofs.ByEntry.{held_fits}
use Rattle.tva_flow.proofs.Near.{near-get, near-set, near-held, packet_of, end-le}
use Rattle.tva_flow.proofs.Shown.{shown-get, shown-set}
use Rattle.tva_flow.proofs.cache.renew_held.Goals as goal

pub judge_nonce-verdict-requires : goal.judge_nonce-verdict-requires
judge_nonce-verdict-requires c =
    let n = near-get c.args.now c.args.entries.now.items c.args.at c.get-entry.result c.requires.near c.requires.place c.get-entry.ensures in
    (omega (arith, n.used, n.units), n.second)

pub extended-renewed-requires-clause-near : goal.extended-renewed-requires-clause-near
extended-renewed-requires-clause-near c =
    let n = near-get c.args.now c.args.entries.now.items c.args.at c.get-entry.result c.requires.near c.requires.place c.get-entry.ensures in
    (omega (arith, end-le c.args.now c.get-entry.result n, n.second, c.requires.time), omega (arith, n.used, n.units))

pub extended-renewed-requires-clause-packet : goal.extended-renewed-requires-clause-packet
extended-renewed-requires-clause-packet c =
    let n = near-get c.args.now c.args.entries.now.items c.args.at c.get-entry.result c.requires.near c.requires.place c.get-entry.ensures in
    (c.requires.packet.1, n.some)

pub returns-then-is_authorised-clause-answer : goal.returns-then-is_authorised-clause-answer
returns-then-is_authorised-clause-answer c f s o last h k w l v =
    let e = c.get-entry.result in
    let n = near-get c.args.now c.args.entries.now.items c.args.at e c.requires.near c.requires.place c.get-entry.ensures in
    rw (c.rewrite.ensures, c.extended-renewed.ensures.value) (answers-held c.args.now c.args.second c.args.entries.now.items c.args.at e c.args.nonce c.args.bytes c.judge_nonce-verdict.result c.requires.place c.get-entry.ensures
    (c.requires.live e c.get-entry.ensures) c.judge_nonce-verdict.ensures (sym c.is_authorised.ensures ∙ c.if-is_authorised.true) (packet_of c.args.now e c.args.bytes n c.requires.packet)
    f s o last h (k e c.get-entry.ensures) w l v)

pub returns-then-is_authorised-clause-near : goal.returns-then-is_authorised-clause-near
returns-then-is_authorised-clause-near c =
    let e = c.get-entry.result in
    let n = near-get c.args.now c.args.entries.now.items c.args.at e c.requires.near c.requires.place c.get-entry.ensures in
    let j = held_judged c.args.second e c.args.nonce c.args.bytes c.judge_nonce-verdict.result c.judge_nonce-verdict.ensures (sym c.is_authorised.ensures ∙ c.if-is_authorised.true) in
    rw (c.rewrite.ensures, c.extended-renewed.ensures.value) (near-set c.args.now c.args.entries.now.items c.args.at (renewed e e.grant e.cap c.args.nonce c.args.bytes) c.requires.near
    (near-held c.args.now e c.args.nonce c.args.bytes n c.requires.packet (held_fits c.args.second e c.args.nonce c.args.bytes e.grant j).0))

pub returns-else-is_authorised-clause-answer : goal.returns-else-is_authorised-clause-answer
returns-else-is_authorised-clause-answer c f s o last h k w l v =
    let e = c.get-entry.result in
    answers-unheld c.args.now c.args.second c.args.entries.now.items c.args.at e c.args.nonce c.args.bytes c.judge_nonce-verdict.result c.requires.place c.get-entry.ensures
    (c.requires.live e c.get-entry.ensures) c.judge_nonce-verdict.ensures (sym c.is_authorised.ensures ∙ c.if-is_authorised.false) f s o last h (k e c.get-entry.ensures) w l v

pub rewrite-requires-clause-flow : goal.rewrite-requires-clause-flow
rewrite-requires-clause-flow c e q = rw c.extended-renewed.ensures.value (ap (λ (x : Entry). x.grant.flow) (same_read c.args.entries.now.items c.args.at e c.get-entry.result q c.get-entry.ensures c.requires.place))

pub rewrite-requires-clause-end : goal.rewrite-requires-clause-end
rewrite-requires-clause-end c e q =
    rw c.extended-renewed.ensures.value (omega (arith, ap (λ (x : Entry). x.end) (same_read c.args.entries.now.items c.args.at e c.get-entry.result q c.get-entry.ensures c.requires.place)))

pub returns-then-is_authorised-clause-shown : goal.returns-then-is_authorised-clause-shown
returns-then-is_authorised-clause-shown c test a =
    let e = c.get-entry.result in
    rw (c.rewrite.ensures, c.extended-renewed.ensures.value) (shown-set test c.args.entries.now.items c.args.at (renewed e e.grant e.cap c.args.nonce c.args.bytes) a
    (shown-get test c.args.entries.now.items c.args.at e a c.requires.place c.get-entry.ensures))
