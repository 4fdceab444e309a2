-- A node's transfers are no more than the rows of the trace that begin one there.
use Rattle.tva_laws.proofs.Common.{◌≡◌, ℕ, ◌+◌, ◌≤◌, Bool, false, ◌&&◌, cond, List, [], ◌∷◌, ◌++◌, length, map, Option, Some, refl, sym, ap, ◌∙◌, length-set, arith, fold, nat_lt, ◌==◌, count_by, cons_option, eq-eqb, Address, Class, Upper, PacketData, HostPlan, Config, Files, Act, after_act, after_upper, no_files, Row, RowWhat, begins, files_at, Input, FromTrace, Arrival, Site, Entry, Took, Started, input_time, input_source, act_of_input, act_of_row, acts, files, GoesOn, due, Logs, log_at, rows_at, site_at, IsRunTo, source_due, nat_tests}
use Rattle.std.proofs.Common.{filter}
use Rattle.std.proofs.lemmas.List.{length-append}
use Rattle.tva_laws.proofs.Passing.{count-among, count-cons, count-filter, one_if}

-- ## what a row or a packet adds

upper_count : (known : Files) (source : Address) (above : Upper)
    → length (after_upper known source above).transfers ≡ length known.transfers
unfolding after_upper
upper_count known source above = grind (arith, nat_tests, length-set)

row_count : (home : Address) (known : Files) (what : RowWhat)
    → length (fold (after_act home) known (cons_option (act_of_row what) [])).transfers ≡ one_if (begins what) + length known.transfers
row_count home known what = grind (arith, nat_tests, length-append)

-- ## along a log

abbrev begins_in : Input → Bool
begins_in (FromTrace row) = begins row.what
begins_in (Arrival time link packet) = false

no_count : (n : ℕ) → n ≡ 0 + n
no_count n = omega arith

input_count : (home : Address) (known : Files) (input : Input)
    → length (fold (after_act home) known (cons_option (act_of_input input) [])).transfers
    ≡ one_if (begins_in input) + length known.transfers
input_count home known input = grind (arith, nat_tests, upper_count, no_count, length-append)

abbrev begins_at : Entry → Bool
begins_at (Took input content) = begins_in input
begins_at (Started time link class packet) = false

fold_option : (home : Address) (known : Files) (o : Option Act) (more : List Act)
    → fold (after_act home) known (cons_option o more) ≡ fold (after_act home) (fold (after_act home) known (cons_option o [])) more
fold_option home known o more = grind (arith, nat_tests)

log_count : (home : Address) (known : Files) (log : List Entry)
    → length (fold (after_act home) known (acts log)).transfers ≡ count_by begins_at log + length known.transfers
log_count home known [] = no_count (length known.transfers)
log_count home known (Took input content ∷ es) =
    let then = fold (after_act home) known (cons_option (act_of_input input) []) in
    grind (arith, nat_tests, fold_option home known (act_of_input input) (acts es), one_if (begins_in input), input_count home known input, count-cons begins_at (Took input content) es, log_count home then es)
log_count home known (Started time link class packet ∷ es) = grind (arith, nat_tests, no_count, count-cons, log_count home known es)

start_count : (time link : ℕ) (class : Class) (packet : PacketData) (es : List Entry)
    → count_by begins_at (Started time link class packet ∷ es) ≡ count_by begins_at es
start_count time link class packet es = count-cons begins_at (Started time link class packet) es ∙ sym (no_count (count_by begins_at es))

-- as many are taken as come in
taken_count : (site : Site) (before : List Entry) (is : List Input) (es : List Entry) → GoesOn site before is es
    → count_by begins_at es ≡ count_by begins_in is
taken_count site before z0 [] g = grind (arith, nat_tests)
taken_count site before [] (Took j c ∷ es) g = absurd g
taken_count site before (i ∷ is) (Took j c ∷ es) g = search (count-cons begins_at (Took j c) es, count-cons begins_in i is, taken_count site (before ++ Took j c ∷ []) is es g.2)
taken_count site before [] (Started u l c p ∷ es) g = start_count u l c p es ∙ taken_count site (before ++ Started u l c p ∷ []) [] es g.1
taken_count site before (i ∷ is) (Started u l c p ∷ es) g = grind (arith, nat_tests, start_count, taken_count site (before ++ Started u l c p ∷ []) (i ∷ is) es g.1)

-- ## in a run

only_rows : (i : Input) → (input_source i == 0) ≡ false → begins_in i ≡ false
only_rows i e = grind (arith, nat_tests, eq-eqb)

rows_count : (node : ℕ) (rows : List Row) → count_by begins_in (rows_at rows node) ≡ files_at node rows
rows_count node [] = refl
rows_count node (row ∷ rows) =
    by (row.node == node) (rows_count node rows) ∙ sym (count-cons (λ (r : Row). (r.node == node) && begins r.what) row rows)
  where
    by : (b : Bool) → count_by begins_in (rows_at rows node) ≡ files_at node rows
        → count_by begins_in (map FromTrace (cond b (row ∷ filter (λ (r : Row). r.node == node) rows)
        (filter (λ (r : Row). r.node == node) rows)))
        ≡ one_if (b && begins row.what) + files_at node rows
    by b e = grind (arith, nat_tests, count-cons begins_in (FromTrace row) (rows_at rows node), one_if (begins row.what), no_count (files_at node rows))

-- a node has at most as many transfers as there are numbers
pub few_transfers : (config : Config) (rows : List Row) (until : ℕ) (logs : Logs) → ((node : ℕ) → files_at node rows ≤ 65536)
    → IsRunTo config rows until logs
    → (node : ℕ) (site : Site) (plan : HostPlan) → site_at config node ≡ Some site
    → length (files plan (log_at logs node)).transfers ≤ 65536
few_transfers config rows until logs few run node site plan is =
    let has = run.each node site is in
    let taken = due until has.inputs in
    let own = rows_at rows site.number in
    let all = log_count plan.address no_files (log_at logs node) in
    let steps = taken_count site [] taken (log_at logs node) has.is_log.steps in
    let among = count-among begins_in (λ (i : Input). input_source i == 0) only_rows taken in
    let source = ap (count_by begins_in) (source_due config rows until until logs site.number 0 has.inputs (omega arith) has.join) in
    let some = count-filter begins_in (λ (i : Input). nat_lt (input_time i) until) own in
    let rows' = rows_count site.number rows in
    let most = few site.number in
    omega (arith, all, steps, among, source, some, rows', most)
