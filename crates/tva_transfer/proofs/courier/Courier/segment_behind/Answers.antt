use Rattle.tva_transfer.proofs.Common.{◌≡◌, ℕ, ◌&&◌, ltb, true, false, Some, sym, ap, ◌∙◌, List, length, get_or, refl, arith, slice_get, ltb-false, ltb-true, lt-ltb, le-ltb, slice_get_read, Transfer, is_more, segment_of, CourierData}
use Rattle.tva_transfer.proofs.Knowing.{answer_to-past, answer_to-less, answer_to-more}
use Rattle.tva_transfer.proofs.courier.Courier.segment_behind.Goals as goal
use Rattle.tva_transfer.proofs.courier.Courier.segment_behind.Goals.{then-not-is_more-via-then-not-is_more, then-not-is_more-via-else-not-is_more+then-next-sent}

pub returns-in_default-clause-segment : goal.returns-in_default-clause-segment
returns-in_default-clause-segment c files k =
    let ts : c.args.self.now.transfers ≡ c.deref.result.now = ap (λ (v : CourierData). v.transfers) (sym c.self.view_is) ∙ sym c.deref.ensures.value in
    let past = ltb-false c.from-place.result (length c.deref.result.now) (sym c.in_default.ensures.lookup.0) in
    answer_to-past c.args.self.now files k c.args.source c.args.transfer c.args.next (omega (arith, ap length ts, past, c.from-place.ensures))

at : (ts items : List Transfer) (transfer place : ℕ) (t : Transfer) → ts ≡ items → place ≡ transfer → true ≡ ltb place (length items) → t ≡ get_or items place t → slice_get ts transfer ≡ Some t
at ts items transfer place t same here within read = rw (same, ← here) (slice_get_read items (length items) place t refl (ltb-true place (length items) (sym within)) read)

pub returns-then-not-is_more-clause-segment : goal.returns-then-not-is_more-clause-segment
returns-then-not-is_more-clause-segment c files k =
    let ts : c.args.self.now.transfers ≡ c.deref.result.now = ap (λ (v : CourierData). v.transfers) (sym c.self.view_is) ∙ sym c.deref.ensures.value in
    let l = c.in-Some.ensures.lookup in
    let less : (is_more c.args.source c.args.next c.in-Some.sent.now && ltb c.args.next c.in-Some.sent.now.size) ≡ false =
    elim c.then-not-is_more.branch [
      | then-not-is_more-via-then-not-is_more w ↦ rw (sym c.is_more.ensures ∙ w.if-not-is_more.true) refl
      | then-not-is_more-via-else-not-is_more+then-next-sent w ↦ rw (sym c.is_more.ensures ∙ w.if-not-is_more.false) (le-ltb c.args.next c.in-Some.sent.now.size w.if-next-sent.true)
    ] in
    answer_to-less c.args.self.now files k c.args.source c.args.transfer c.args.next c.in-Some.sent.now (at _ _ _ _ _ ts c.from-place.ensures l.0 l.1) less

pub returns-clause-segment : goal.returns-clause-segment
returns-clause-segment c files k =
    let ts : c.args.self.now.transfers ≡ c.deref.result.now = ap (λ (v : CourierData). v.transfers) (sym c.self.view_is) ∙ sym c.deref.ensures.value in
    let l = c.in-Some.ensures.lookup in
    let more : (is_more c.args.source c.args.next c.in-Some.sent.now && ltb c.args.next c.in-Some.sent.now.size) ≡ true =
    rw (sym c.is_more.ensures ∙ c.if-not-is_more.false) (lt-ltb c.args.next c.in-Some.sent.now.size c.if-next-sent.false) in
    c.next_segment.ensures.segment
    ∙ ap (λ n. segment_of n c.acknowledged.result) c.from-place.ensures
    ∙ ap (segment_of c.args.transfer) c.acknowledged.ensures
    ∙ answer_to-more c.args.self.now files k c.args.source c.args.transfer c.args.next c.in-Some.sent.now (at _ _ _ _ _ ts c.from-place.ensures l.0 l.1) more
