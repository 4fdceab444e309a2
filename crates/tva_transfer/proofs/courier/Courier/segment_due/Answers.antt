use Rattle.tva_transfer.proofs.Common.{◌≡◌, ℕ, ◌<◌, List, length, true, false, Some, sym, subst, ap, ◌∙◌, refl, arith, slice_get, false_from_ne_true, slice_get_read, Transfer, CourierData, is_due_at}
use Rattle.tva_transfer.proofs.Due.{due_within, segment_due-first, segment_due-none}
use Rattle.tva_transfer.proofs.courier.Courier.segment_due.Goals as goal

pub returns-in_err-place-clause-segment : goal.returns-in_err-place-clause-segment
returns-in_err-place-clause-segment c files k =
    let same : c.self.inside.transfers.items ≡ files.transfers = ap (λ (v : CourierData). v.transfers) c.self.view_is ∙ k.transfers in
    rw c.from_residual.ensures (sym (segment_due-none files c.args.dst (λ place.
    subst (λ (ts : List Transfer). is_due_at ts c.args.dst place ≡ false) same (sym (c.self.invariant.due c.args.dst place) ∙ c.in_err-place.ensures.none place))))

pub index-requires : goal.index-requires
index-requires c =
    let within = due_within c.self.inside.transfers.items c.args.dst c.in_ok-place.place (sym (c.self.invariant.due c.args.dst c.in_ok-place.place) ∙ c.in_ok-place.ensures.found) in
    omega (arith, within, c.self.inside.transfers.ok.0)

pub next_segment-requires-clause-size : goal.next_segment-requires-clause-size
next_segment-requires-clause-size c =
    let items = c.self.inside.transfers.items in
    let within = due_within items c.args.dst c.in_ok-place.place (sym (c.self.invariant.due c.args.dst c.in_ok-place.place) ∙ c.in_ok-place.ensures.found) in
    (c.self.invariant.sized c.in_ok-place.place c.index.result.now (slice_get_read items (length items) c.in_ok-place.place c.index.result.now refl within c.index.ensures)).0

pub next_segment-requires-clause-segment : goal.next_segment-requires-clause-segment
next_segment-requires-clause-segment c =
    let items = c.self.inside.transfers.items in
    let within = due_within items c.args.dst c.in_ok-place.place (sym (c.self.invariant.due c.args.dst c.in_ok-place.place) ∙ c.in_ok-place.ensures.found) in
    (c.self.invariant.sized c.in_ok-place.place c.index.result.now (slice_get_read items (length items) c.in_ok-place.place c.index.result.now refl within c.index.ensures)).1

pub returns-clause-segment : goal.returns-clause-segment
returns-clause-segment c files k =
    let items = c.self.inside.transfers.items in
    let place = c.in_ok-place.place in
    let t = c.index.result.now in
    let same : items ≡ files.transfers = ap (λ (v : CourierData). v.transfers) c.self.view_is ∙ k.transfers in
    let due : is_due_at items c.args.dst place ≡ true = sym (c.self.invariant.due c.args.dst place) ∙ c.in_ok-place.ensures.found in
    let at : slice_get items place ≡ Some t = slice_get_read items (length items) place t refl (due_within items c.args.dst place due) c.index.ensures in
    let none : (earlier : ℕ) → earlier < place → is_due_at items c.args.dst earlier ≡ false = λ earlier before. false_from_ne_true (is_due_at items c.args.dst earlier)
    (λ is. let later = c.in_ok-place.ensures.first earlier (c.self.invariant.due c.args.dst earlier ∙ is) in absurd (omega (arith, later, before))) in
    ap Some c.next_segment.ensures.segment
    ∙ sym (segment_due-first files c.args.dst place t
    (subst (λ (ts : List Transfer). slice_get ts place ≡ Some t) same at)
    (subst (λ (ts : List Transfer). is_due_at ts c.args.dst place ≡ true) same due)
    (subst (λ (ts : List Transfer). (earlier : ℕ) → earlier < place → is_due_at ts c.args.dst earlier ≡ false) same none))
