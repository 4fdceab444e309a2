use Rattle.tva_net.proofs.Common.{◌≡◌, ℕ, ◌+◌, ◌<◌, List, length, take, get_or, set, sym, subst, ◌∙◌, ap, arith, length-take, get_or_default, rows_at, AreRowCounts}
use Rattle.tva_net.proofs.Counts.{all_more}
use Rattle.tva_net.proofs.Firsts.{rows_few, some_row}
use Rattle.tva_net.proofs.building.row_counts.Goals as goal

pub index_mut-requires : goal.index_mut-requires
index_mut-requires c =
    let there = c.requires.within c.loop-place.place some_row (omega arith) in
    let is = c.node_at.ensures some_row in
    omega (arith, there, is, c.from.ensures, c.loop-place.invariant.count)

pub overflow_add-index_mut : goal.overflow_add-index_mut
overflow_add-index_mut c =
    let n = c.from.result in
    let i = c.loop-place.place in
    let rows = c.args.rows.now in
    let items = c.loop-place.counts.items in
    let there = c.requires.within i some_row (omega arith) in
    let is = c.node_at.ensures some_row in
    let below : n < c.args.count = omega (arith, there, is, c.from.ensures) in
    let inside : n < length items = omega (arith, below, c.loop-place.invariant.count) in
    let same : c.index_mut.result.now ≡ length (rows_at (take i rows) n) =
    c.index_mut.ensures.value ∙ (get_or_default items n c.index_mut.result.now 0 inside ∙ c.loop-place.invariant.each n below) in
    omega (arith, same, rows_few (take i rows) n, length-take i rows, c.requires.few)

pub loop-place-preserved : goal.loop-place-preserved
loop-place-preserved c =
    let n = c.from.result in
    let i = c.loop-place.place in
    let rows = c.args.rows.now in
    let count = c.args.count in
    let counts = c.loop-place.counts.items in
    let row = get_or rows i some_row in
    let within : i < length rows = omega arith in
    let is : n ≡ row.node = c.from.ensures ∙ c.node_at.ensures some_row in
    let below : row.node < count = c.requires.within i some_row within in
    let inside : n < length counts = omega (arith, below, is, c.loop-place.invariant.count) in
    let value : c.index_mut.result.now ≡ get_or counts n 0 = c.index_mut.ensures.value ∙ get_or_default counts n c.index_mut.result.now 0 inside in
    let e : set counts row.node (get_or counts row.node 0 + 1) ≡ set counts n (c.index_mut.result.now + 1) =
    ap (λ (k : ℕ). set counts k (get_or counts k 0 + 1)) (sym is) ∙ ap (λ (v : ℕ). set counts n (v + 1)) (sym value) in
    subst (λ (cs : List ℕ). AreRowCounts count (take (i + 1) rows) cs) e
    (all_more count rows i row counts within (get_or_default rows i some_row row within) below c.loop-place.invariant)
