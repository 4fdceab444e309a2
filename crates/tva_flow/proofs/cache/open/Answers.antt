use Rattle.tva_flow.proofs.Common.{sym, ◌∙◌, arith, ltb-true, ltb-false, leb-true, leb-false, opened}
use Rattle.tva_flow.proofs.Admit.{admits-over_at, admits-full, admits-opened_own, admits-opened_over, admits-opened_next}
use Rattle.tva_flow.proofs.Near.{near-set, near-push, near-opened}
use Rattle.tva_flow.proofs.Indexed.{some_place}
use Rattle.tva_flow.proofs.Shown.{shown-set, shown-push, is_shown-set, is_shown-push}
use Rattle.tva_flow.proofs.cache.open.Goals as goal

pub returns-then-is_over-clause-answer : goal.returns-then-is_over-clause-answer
returns-then-is_over-clause-answer c o last h l v =
    admits-over_at c.args.entries.now.slots o last c.args.now c.args.entries.now.items h c.args.at c.args.grant c.args.nonce c.args.bytes v l c.requires.place (omega (arith, ltb-true _ _ (sym c.is_over.ensures ∙ c.if-is_over.true)))

pub rewrite-requires-clause-flow : goal.rewrite-requires-clause-flow
rewrite-requires-clause-flow c e q =
    let p = rw c.in-Some.is at c.requires.place in
    rw c.fresh-entry.ensures.value (p.1 e q).0

pub rewrite-requires-clause-end : goal.rewrite-requires-clause-end
rewrite-requires-clause-end c e q =
    let p = rw c.in-Some.is at c.requires.place in
    rw c.fresh-entry.ensures.value (omega (arith, (p.1 e q).1))

pub returns-in-Some-clause-answer : goal.returns-in-Some-clause-answer
returns-in-Some-clause-answer c o last h l v =
    let p = rw c.in-Some.is at c.requires.place in
    let r = some_place c.args.entries.now.items c.in-Some.at p.0 in
    let e = p.1 r.0 r.1 in
    rw (c.rewrite.ensures, c.fresh-entry.ensures.value) (admits-opened_own c.args.entries.now.slots o last c.args.now c.args.entries.now.items h c.in-Some.at r.0 c.args.grant c.args.cap c.args.nonce c.args.bytes v l p.0 r.1 e.0 e.1 (omega (arith, ltb-false _ _ (sym c.is_over.ensures ∙ c.if-is_over.false))) c.requires.packet)

pub returns-in-Some-clause-near : goal.returns-in-Some-clause-near
returns-in-Some-clause-near c =
    let r = c.fresh-entry.ensures.ranges in
    rw (c.rewrite.ensures, c.fresh-entry.ensures.value) (near-set c.args.now c.args.entries.now.items c.in-Some.at (opened c.args.now c.args.grant c.args.cap c.args.nonce c.args.bytes) c.requires.near (near-opened c.args.now c.args.grant c.args.cap c.args.nonce c.args.bytes c.requires.packet r.0 r.1 (omega (arith, ltb-false _ _ (sym c.is_over.ensures ∙ c.if-is_over.false)))))

pub returns-then-not-is_full-clause-answer : goal.returns-then-not-is_full-clause-answer
returns-then-not-is_full-clause-answer c o last h l v =
    let p = rw c.in_default.is at c.requires.place in
    rw (c.push.ensures, c.fresh-entry.ensures.value) (admits-opened_next c.args.entries.now.slots o last c.args.now c.args.entries.now.items h c.args.grant c.args.cap c.args.nonce c.args.bytes v l (leb-false _ _ (sym c.is_full.ensures ∙ c.if-not-is_full.true)) p (omega (arith, ltb-false _ _ (sym c.is_over.ensures ∙ c.if-is_over.false))) c.requires.packet)

pub returns-then-not-is_full-clause-near : goal.returns-then-not-is_full-clause-near
returns-then-not-is_full-clause-near c =
    let r = c.fresh-entry.ensures.ranges in
    rw (c.push.ensures, c.fresh-entry.ensures.value) (near-push c.args.now c.args.entries.now.items (opened c.args.now c.args.grant c.args.cap c.args.nonce c.args.bytes) c.requires.near (near-opened c.args.now c.args.grant c.args.cap c.args.nonce c.args.bytes c.requires.packet r.0 r.1 (omega (arith, ltb-false _ _ (sym c.is_over.ensures ∙ c.if-is_over.false)))))

pub returns-in_default-ended-clause-answer : goal.returns-in_default-ended-clause-answer
returns-in_default-ended-clause-answer c o last h l v =
    let p = rw c.in_default.is at c.requires.place in
    rw c.in_default-ended.ensures.same (admits-full c.args.entries.now.slots o last c.args.now c.args.entries.now.items h c.args.grant c.args.nonce c.args.bytes v l (leb-true _ _ (sym c.is_full.ensures ∙ c.if-not-is_full.false)) c.in_default-ended.ensures.place p (omega (arith, ltb-false _ _ (sym c.is_over.ensures ∙ c.if-is_over.false))))

pub returns-clause-answer : goal.returns-clause-answer
returns-clause-answer c o last h l v =
    let p = rw c.in_default.is at c.requires.place in
    let d = c.in-Some-ended.ensures.place in
    let r = some_place c.args.entries.now.items c.in-Some-ended.other d.0 in
    rw (c.replace.ensures, c.in-Some-ended.ensures.same, c.fresh-entry.ensures.value) (admits-opened_over c.args.entries.now.slots o last c.args.now c.args.entries.now.items h c.in-Some-ended.other r.0 c.args.grant c.args.cap c.args.nonce c.args.bytes v l d.0 r.1 p (d.1 r.0 r.1) (omega (arith, ltb-false _ _ (sym c.is_over.ensures ∙ c.if-is_over.false))) c.requires.packet)

pub returns-clause-near : goal.returns-clause-near
returns-clause-near c =
    let r = c.fresh-entry.ensures.ranges in
    rw (c.replace.ensures, c.in-Some-ended.ensures.same, c.fresh-entry.ensures.value) (near-set c.args.now c.args.entries.now.items c.in-Some-ended.other (opened c.args.now c.args.grant c.args.cap c.args.nonce c.args.bytes) c.requires.near (near-opened c.args.now c.args.grant c.args.cap c.args.nonce c.args.bytes c.requires.packet r.0 r.1 (omega (arith, ltb-false _ _ (sym c.is_over.ensures ∙ c.if-is_over.false)))))

pub returns-in-Some-clause-shown : goal.returns-in-Some-clause-shown
returns-in-Some-clause-shown c test a g =
    rw (c.rewrite.ensures, c.fresh-entry.ensures.value) (shown-set test c.args.entries.now.items c.in-Some.at (opened c.args.now c.args.grant c.args.cap c.args.nonce c.args.bytes) a g)

pub returns-then-not-is_full-clause-shown : goal.returns-then-not-is_full-clause-shown
returns-then-not-is_full-clause-shown c test a g =
    rw (c.push.ensures, c.fresh-entry.ensures.value) (shown-push test c.args.entries.now.items (opened c.args.now c.args.grant c.args.cap c.args.nonce c.args.bytes) a g)

pub returns-clause-shown : goal.returns-clause-shown
returns-clause-shown c test a g =
    rw (c.replace.ensures, c.in-Some-ended.ensures.same, c.fresh-entry.ensures.value) (shown-set test c.args.entries.now.items c.in-Some-ended.other (opened c.args.now c.args.grant c.args.cap c.args.nonce c.args.bytes) a g)

pub returns-in-Some-clause-noted : goal.returns-in-Some-clause-noted
returns-in-Some-clause-noted c a =
    let p = rw c.in-Some.is at c.requires.place in
    rw (c.rewrite.ensures, c.fresh-entry.ensures.value) (is_shown-set c.args.entries.now.items c.in-Some.at (opened c.args.now c.args.grant c.args.cap c.args.nonce c.args.bytes) p.0)

pub returns-then-not-is_full-clause-noted : goal.returns-then-not-is_full-clause-noted
returns-then-not-is_full-clause-noted c a =
    rw (c.push.ensures, c.fresh-entry.ensures.value) (is_shown-push c.args.entries.now.items (opened c.args.now c.args.grant c.args.cap c.args.nonce c.args.bytes))

pub returns-clause-noted : goal.returns-clause-noted
returns-clause-noted c a =
    rw (c.replace.ensures, c.in-Some-ended.ensures.same, c.fresh-entry.ensures.value) (is_shown-set c.args.entries.now.items c.in-Some-ended.other (opened c.args.now c.args.grant c.args.cap c.args.nonce c.args.bytes) c.in-Some-ended.ensures.place.0)
