-- What a courier knows of files, after what comes in.
use Rattle.tva_transfer.proofs.Common.{◌≡◌, ℕ, ◌+◌, true, false, cond, eqb, ltb, ◌&&◌, List, Some, None, refl, sym, ap, ◌∙◌, add-zero, zero-add, set, length, ◌≤◌, slice_get, sum_by, cases_Bool, and_parts, eqb-true, eq-eqb, filter-append, sum_by-append, set-get_or, get_or_from_slice_get, slice_get_past, Transfer, Address, Upper, Nothing, Data, Ack, DataLine, Files, after_upper, answer_to, acknowledged, is_more, is_of, next_of, range_of, segment_of, with_range, CourierData, Knows, next_kept, arith}

-- where a range begins is kept by the source and the transfer alone
pub next_kept-same : (nexts : List ((Address × ℕ) × ℕ)) (source s : Address) (transfer t : ℕ) → (eqb source.0 s.0 && eqb transfer t) ≡ true → next_kept nexts s t ≡ next_kept nexts source transfer
next_kept-same nexts source s transfer t e = grind (arith, and_parts, eqb-true)

-- other entries of the same meaning
pub knows_same : (v : CourierData) (files : Files) (nexts : List ((Address × ℕ) × ℕ)) → ((s : Address) (t : ℕ) → next_kept nexts s t ≡ next_kept v.nexts s t) → Knows v files → Knows (record v { nexts = nexts }) files
knows_same v files nexts same k = record { transfers = k.transfers; nexts = λ s t. same s t ∙ k.nexts s t }

-- an entry that says so already
pub next_kept-still : (nexts : List ((Address × ℕ) × ℕ)) (source : Address) (transfer next : ℕ) → next ≡ next_kept nexts source transfer → (s : Address) (t : ℕ) → next_kept nexts s t ≡ cond (eqb source.0 s.0 && eqb transfer t) next (next_kept nexts s t)
next_kept-still nexts source transfer next is s t = grind (arith, next_kept-same, cases_Bool)

pub range_of-kept : (v : CourierData) (files : Files) → Knows v files → (source : Address) (transfer first bytes : ℕ) → range_of files source (Data transfer first bytes) ≡ cond (eqb first (next_kept v.nexts source transfer)) (Some (record { transfer = transfer; first = first; bytes = bytes })) None
unfolding range_of
range_of-kept v files k source transfer first bytes = rw (k.nexts source transfer) refl

pub range_of-none : (files : Files) (source : Address) (above : Upper) → ((transfer first bytes : ℕ) → above ≡ Data transfer first bytes → ⊥) → None ≡ range_of files source above
unfolding range_of
range_of-none files source above h = grind arith

-- ## the ranges that were delivered

pub next_of-more : (files : Files) (source : Address) (r : DataLine) (s : Address) (t : ℕ) → next_of (with_range source (Some r) files) s t ≡ next_of files s t + cond (is_of s t (source, r)) r.bytes 0
next_of-more files source r s t = grind (arith, sum_by, filter-append, sum_by-append, zero-add)

-- a source's transfer is told apart by its numbers alone
pub next_of-same : (files : Files) (source s : Address) (transfer t : ℕ) → (eqb source.0 s.0 && eqb transfer t) ≡ true → next_of files s t ≡ next_of files source transfer
next_of-same files source s transfer t e = grind (arith, and_parts, eqb-true, sum_by)

-- where the next range begins after one that came
abbrev pub behind : ℕ → ℕ → ℕ → ℕ
behind next first bytes = cond (eqb first next) (next + bytes) next

pub next_of-after : (files : Files) (source : Address) (transfer first bytes : ℕ) (s : Address) (t : ℕ) → next_of (after_upper files source (Data transfer first bytes)) s t ≡ cond (eqb source.0 s.0 && eqb transfer t) (behind (next_of files s t) first bytes) (next_of files s t)
unfolding after_upper range_of
next_of-after files source transfer first bytes s t = grind (arith, next_of-more, next_of-same, add-zero, cases_Bool)

pub knows_delivered : (v : CourierData) (files : Files) (source : Address) (transfer first bytes : ℕ) (nexts : List ((Address × ℕ) × ℕ)) → ((s : Address) (t : ℕ) → next_kept nexts s t ≡ cond (eqb source.0 s.0 && eqb transfer t) (behind (next_kept v.nexts source transfer) first bytes) (next_kept v.nexts s t)) → Knows v files → Knows (record v { nexts = nexts }) (after_upper files source (Data transfer first bytes))
unfolding after_upper
knows_delivered v files source transfer first bytes nexts e k = grind (arith, next_of-same, cases_Bool, next_of-after)

pub answer_to-data : (v : CourierData) (files : Files) → Knows v files → (source : Address) (transfer first bytes : ℕ) → answer_to files source (Data transfer first bytes) ≡ Ack transfer (behind (next_kept v.nexts source transfer) first bytes)
unfolding answer_to
answer_to-data v files k source transfer first bytes = ap (λ n. Ack transfer n) (next_of-after files source transfer first bytes source transfer ∙ rw (eq-eqb source.0 source.0 refl, eq-eqb transfer transfer refl) (ap (λ n. behind n first bytes) (sym (k.nexts source transfer))))

-- ## what is acknowledged

-- no transfer has the number
pub answer_to-past : (v : CourierData) (files : Files) → Knows v files → (source : Address) (transfer next : ℕ) → length v.transfers ≤ transfer → Nothing ≡ answer_to files source (Ack transfer next)
unfolding answer_to
answer_to-past v files k source transfer next past = rw (← k.transfers, slice_get_past v.transfers transfer past) refl

-- one has, and more of it is acknowledged and something is left, or not
pub answer_to-less : (v : CourierData) (files : Files) → Knows v files → (source : Address) (transfer next : ℕ) (t : Transfer) → slice_get v.transfers transfer ≡ Some t → (is_more source next t && ltb next t.size) ≡ false → Nothing ≡ answer_to files source (Ack transfer next)
unfolding answer_to
answer_to-less v files k source transfer next t e less = rw (← k.transfers, e, less) refl

pub answer_to-more : (v : CourierData) (files : Files) → Knows v files → (source : Address) (transfer next : ℕ) (t : Transfer) → slice_get v.transfers transfer ≡ Some t → (is_more source next t && ltb next t.size) ≡ true → segment_of transfer (record t { acked = next }) ≡ answer_to files source (Ack transfer next)
unfolding answer_to
answer_to-more v files k source transfer next t e more = rw (← k.transfers, e, more) refl

pub knows_acked : (v : CourierData) (files : Files) (source : Address) (transfer next : ℕ) (ts : List Transfer) → ts ≡ acknowledged source transfer next v.transfers → Knows v files → Knows (record v { transfers = ts }) (after_upper files source (Ack transfer next))
unfolding after_upper
knows_acked v files source transfer next ts e k = record { transfers = e ∙ ap (acknowledged source transfer next) k.transfers; nexts = k.nexts }

pub acknowledged-none : (source : Address) (transfer next : ℕ) (ts : List Transfer) → length ts ≤ transfer → ts ≡ acknowledged source transfer next ts
acknowledged-none source transfer next ts past = rw (slice_get_past ts transfer past) refl

pub acknowledged-less : (source : Address) (transfer next : ℕ) (ts : List Transfer) (t : Transfer) → slice_get ts transfer ≡ Some t → is_more source next t ≡ false → ts ≡ acknowledged source transfer next ts
acknowledged-less source transfer next ts t at less = rw (at, less) (sym (ap (set ts transfer) (sym (get_or_from_slice_get ts transfer t t at)) ∙ set-get_or ts transfer t))

pub acknowledged-more : (source : Address) (transfer next : ℕ) (ts : List Transfer) (t : Transfer) → slice_get ts transfer ≡ Some t → is_more source next t ≡ true → set ts transfer (record t { acked = next }) ≡ acknowledged source transfer next ts
acknowledged-more source transfer next ts t at more = rw (at, more) refl
