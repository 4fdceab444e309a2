use Rattle.tva_transfer.proofs.Common.{◌≡◌, ℕ, ◌<◌, ◌≤◌, eqb, ltb, true, false, Some, length, set, sym, subst, ◌∙◌, refl, arith, slice_get, and_parts, ltb-true, slice_get_read, Address, Transfer, acknowledged, is_more, CourierData, Knows}
use Rattle.tva_transfer.proofs.Compared.{has_key-changed}
use Rattle.tva_transfer.proofs.Due.{sound_acked, sound_done}
use Rattle.tva_transfer.proofs.Knowing.{acknowledged-less, acknowledged-more, acknowledged-none, knows_acked}
use Rattle.tva_transfer.proofs.courier.Courier.acknowledge.Goals as goal

more_than : (source : Address) (next : ℕ) (t : Transfer) → is_more source next t ≡ true → t.acked < next
more_than source next t more = ltb-true t.acked next (and_parts (eqb t.dst.0 source.0) (ltb t.acked next) more).1

pub returns-then-place-len-clause-knows : goal.returns-then-place-len-clause-knows
returns-then-place-len-clause-knows c files k =
    let items = c.self.inside.transfers.items in
    let past : length items ≤ c.args.transfer = omega (arith, c.if-place-len.true, c.len.ensures, c.self.inside.transfers.ok.0, c.from-place.ensures) in
    let here = subst (λ (v : CourierData). Knows v files) (sym c.self.view_is) k in
    rw (← c.self.view_is) (knows_acked _ files c.args.source c.args.transfer c.args.next items (acknowledged-none c.args.source c.args.transfer c.args.next items past) here)

pub returns-then-not-is_more-clause-knows : goal.returns-then-not-is_more-clause-knows
returns-then-not-is_more-clause-knows c files k =
    let items = c.self.inside.transfers.items in
    let at : slice_get items c.from-place.result ≡ Some c.index.result.now = slice_get_read items (length items) c.from-place.result c.index.result.now refl (omega (arith, c.if-place-len.false, c.len.ensures, c.self.inside.transfers.ok.0)) c.index.ensures in
    let here = subst (λ (v : CourierData). Knows v files) (sym c.self.view_is) k in
    rw (← c.self.view_is) (knows_acked _ files c.args.source c.args.transfer c.args.next items (acknowledged-less c.args.source c.args.transfer c.args.next items c.index.result.now (rw c.from-place.ensures at at) (sym c.is_more.ensures ∙ c.if-not-is_more.true)) here)

pub invariant_of-self : goal.invariant_of-self
invariant_of-self c =
    let items = c.self.inside.transfers.items in
    let at : slice_get items c.from-place.result ≡ Some c.index.result.now = slice_get_read items (length items) c.from-place.result c.index.result.now refl (omega (arith, c.if-place-len.false, c.len.ensures, c.self.inside.transfers.ok.0)) c.index.ensures in
    rw c.acknowledged.ensures (sound_done items c.self.inside.due.keys c.remove.new.self.keys c.from-place.result c.args.next c.index.result.now at c.self.invariant c.if-next-sent.true (has_key-changed c.self.inside.due.keys c.remove.new.self.keys c.index.result.now.dst c.from-place.result false c.remove.ensures.updates.0))

pub invariant_of-self-else-next-sent : goal.invariant_of-self-else-next-sent
invariant_of-self-else-next-sent c =
    let items = c.self.inside.transfers.items in
    let at : slice_get items c.from-place.result ≡ Some c.index.result.now = slice_get_read items (length items) c.from-place.result c.index.result.now refl (omega (arith, c.if-place-len.false, c.len.ensures, c.self.inside.transfers.ok.0)) c.index.ensures in
    rw c.acknowledged.ensures (sound_acked items c.self.inside.due.keys c.self.inside.due.keys c.from-place.result c.args.next c.index.result.now at c.self.invariant (more_than c.args.source c.args.next c.index.result.now (sym c.is_more.ensures ∙ c.if-not-is_more.false)) c.if-next-sent.false)

pub returns-then-next-sent-clause-knows : goal.returns-then-next-sent-clause-knows
returns-then-next-sent-clause-knows c files k =
    let items = c.self.inside.transfers.items in
    let at : slice_get items c.from-place.result ≡ Some c.index.result.now = slice_get_read items (length items) c.from-place.result c.index.result.now refl (omega (arith, c.if-place-len.false, c.len.ensures, c.self.inside.transfers.ok.0)) c.index.ensures in
    let here = subst (λ (v : CourierData). Knows v files) (sym c.self.view_is) k in
    let is : set items c.from-place.result c.acknowledged.result ≡ acknowledged c.args.source c.args.transfer c.args.next items =
    rw (c.acknowledged.ensures, c.from-place.ensures) (acknowledged-more c.args.source c.args.transfer c.args.next items c.index.result.now (rw c.from-place.ensures at at) (sym c.is_more.ensures ∙ c.if-not-is_more.false)) in
    knows_acked _ files c.args.source c.args.transfer c.args.next (set items c.from-place.result c.acknowledged.result) is here

pub returns-else-next-sent-clause-knows : goal.returns-else-next-sent-clause-knows
returns-else-next-sent-clause-knows c files k =
    let items = c.self.inside.transfers.items in
    let at : slice_get items c.from-place.result ≡ Some c.index.result.now = slice_get_read items (length items) c.from-place.result c.index.result.now refl (omega (arith, c.if-place-len.false, c.len.ensures, c.self.inside.transfers.ok.0)) c.index.ensures in
    let here = subst (λ (v : CourierData). Knows v files) (sym c.self.view_is) k in
    let is : set items c.from-place.result c.acknowledged.result ≡ acknowledged c.args.source c.args.transfer c.args.next items =
    rw (c.acknowledged.ensures, c.from-place.ensures) (acknowledged-more c.args.source c.args.transfer c.args.next items c.index.result.now (rw c.from-place.ensures at at) (sym c.is_more.ensures ∙ c.if-not-is_more.false)) in
    knows_acked _ files c.args.source c.args.transfer c.args.next (set items c.from-place.result c.acknowledged.result) is here
