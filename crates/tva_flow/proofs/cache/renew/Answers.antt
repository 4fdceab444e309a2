use Rattle.tva_flow.proofs.Common.{sym, ap, ◌∙◌, arith, Entry, renewed}
use Rattle.tva_flow.proofs.Indexed.{same_read}
use Rattle.tva_flow.proofs.Admit.{answers-renewed, answers-denied, judged}
use Rattle.tva_flow.proofs.ByEntry.{living_rows}
use Rattle.tva_flow.proofs.Near.{near-get, near-set, near-renewed, end-le}
use Rattle.tva_flow.proofs.Shown.{shown-set, is_shown-set}
use Rattle.tva_flow.proofs.cache.renew.Goals as goal

pub judge-verdict-requires : goal.judge-verdict-requires
judge-verdict-requires c =
    let n = near-get c.args.now c.args.entries.now.items c.args.at c.get-entry.result c.requires.near c.requires.place c.get-entry.ensures in
    omega (arith, n.used, n.units)

pub extended-requires-clause-near : goal.extended-requires-clause-near
extended-requires-clause-near c =
    let n = near-get c.args.now c.args.entries.now.items c.args.at c.get-entry.result c.requires.near c.requires.place c.get-entry.ensures in
    (omega (arith, end-le c.args.now c.get-entry.result n, n.second, c.requires.time), omega (arith, n.used, n.units))

pub extended-requires-clause-packet : goal.extended-requires-clause-packet
extended-requires-clause-packet c =
    let r = living_rows c.get-entry.result c.args.grant c.args.bytes (judged c.get-entry.result c.args.grant c.args.bytes c.judge-verdict.result c.judge-verdict.ensures (sym c.is_authorised.ensures ∙ c.if-is_authorised.true)) in
    (c.requires.packet.length.1, omega (arith, r.1, c.requires.packet.length.0))

pub returns-then-is_authorised-clause-answer : goal.returns-then-is_authorised-clause-answer
returns-then-is_authorised-clause-answer c =
    rw (c.rewrite.ensures, c.extended.ensures.value) (answers-renewed c.args.now c.args.entries.now.items c.args.at c.get-entry.result c.args.grant c.args.cap c.args.nonce c.args.bytes c.judge-verdict.result c.requires.place c.get-entry.ensures
    (c.requires.live c.get-entry.result c.get-entry.ensures) c.judge-verdict.ensures (sym c.is_authorised.ensures ∙ c.if-is_authorised.true) c.requires.packet)

pub returns-then-is_authorised-clause-near : goal.returns-then-is_authorised-clause-near
returns-then-is_authorised-clause-near c =
    let n = near-get c.args.now c.args.entries.now.items c.args.at c.get-entry.result c.requires.near c.requires.place c.get-entry.ensures in
    let r = living_rows c.get-entry.result c.args.grant c.args.bytes (judged c.get-entry.result c.args.grant c.args.bytes c.judge-verdict.result c.judge-verdict.ensures (sym c.is_authorised.ensures ∙ c.if-is_authorised.true)) in
    rw (c.rewrite.ensures, c.extended.ensures.value) (near-set c.args.now c.args.entries.now.items c.args.at (renewed c.get-entry.result c.args.grant c.args.cap c.args.nonce c.args.bytes) c.requires.near
    (near-renewed c.args.now c.get-entry.result c.args.grant c.args.cap c.args.nonce c.args.bytes n c.requires.packet c.extended.ensures.ranges.0 c.extended.ensures.ranges.1 r.0 r.1))

pub returns-else-is_authorised-clause-answer : goal.returns-else-is_authorised-clause-answer
returns-else-is_authorised-clause-answer c =
    answers-denied c.args.now c.args.entries.now.items c.args.at c.get-entry.result c.args.grant c.args.nonce c.args.bytes c.judge-verdict.result c.requires.place c.get-entry.ensures
    (c.requires.live c.get-entry.result c.get-entry.ensures) c.judge-verdict.ensures (sym c.is_authorised.ensures ∙ c.if-is_authorised.false)

pub rewrite-requires-clause-flow : goal.rewrite-requires-clause-flow
rewrite-requires-clause-flow c e q = rw c.extended.ensures.value (c.requires.live e q).0

pub rewrite-requires-clause-end : goal.rewrite-requires-clause-end
rewrite-requires-clause-end c e q =
    rw c.extended.ensures.value (omega (arith, ap (λ (x : Entry). x.end) (same_read c.args.entries.now.items c.args.at e c.get-entry.result q c.get-entry.ensures c.requires.place)))

pub returns-then-is_authorised-clause-shown : goal.returns-then-is_authorised-clause-shown
returns-then-is_authorised-clause-shown c test a g =
    rw (c.rewrite.ensures, c.extended.ensures.value) (shown-set test c.args.entries.now.items c.args.at (renewed c.get-entry.result c.args.grant c.args.cap c.args.nonce c.args.bytes) a g)

pub returns-then-is_authorised-clause-noted : goal.returns-then-is_authorised-clause-noted
returns-then-is_authorised-clause-noted c a =
    rw (c.rewrite.ensures, c.extended.ensures.value) (is_shown-set c.args.entries.now.items c.args.at (renewed c.get-entry.result c.args.grant c.args.cap c.args.nonce c.args.bytes) c.requires.place)
