-- Rows that were put one after another.
use Rattle.tva_gen.proofs.Common.{◌≡◌, ◌∙◌, sym, ap, refl, ℕ, zero, suc, ◌-◌, ◌≤◌, ◌<◌, List, [], ◌∷◌, ◌++◌, length, append_assoc, arith, append-nil, Lcg, HostPlan, row_line, drawn_rows, row_count}
use Rattle.tva_gen.specs.declared.draw.RowWords.{RowWords}
use Rattle.tva_gen.specs.Draws.{state_behind, draw_at, later}

-- the first of some rows, and the others
first_row : (horizon : ℕ) (hosts : List HostPlan) (left time : ℕ) (g : Lcg) → 1 ≤ left → drawn_rows horizon hosts left time g ≡ row_line hosts (later horizon time (draw_at g)) (draw_at g) ++ drawn_rows horizon hosts (left - 1) (later horizon time (draw_at g)) (state_behind g)
unfolding drawn_rows
first_row horizon hosts zero time g some = absurd (omega arith)
first_row horizon hosts (suc n) time g some = let e : suc n - 1 ≡ n = omega arith in rw e refl

-- what is put and what is left are the same once the first row that was left is put
pub row_put : (horizon : ℕ) (hosts : List HostPlan) (left time now : ℕ) (d : RowWords) (g next : Lcg) (before after all : List ℕ) → 1 ≤ left → d ≡ draw_at g → next ≡ state_behind g → now ≡ later horizon time d → after ≡ before ++ row_line hosts now d → before ++ drawn_rows horizon hosts left time g ≡ all → after ++ drawn_rows horizon hosts (left - 1) now next ≡ all
row_put horizon hosts left time now d g next before after all some ed eg et put inv =
    let first = first_row horizon hosts left time g some in
    let split : drawn_rows horizon hosts left time g ≡ row_line hosts now d ++ drawn_rows horizon hosts (left - 1) now next = cc in
    ap (λ t. t ++ drawn_rows horizon hosts (left - 1) now next) put
    ∙ append_assoc before (row_line hosts now d) (drawn_rows horizon hosts (left - 1) now next)
    ∙ ap (λ t. before ++ t) (sym split)
    ∙ inv

-- what is put is all where nothing is left
pub all_put : (horizon : ℕ) (hosts : List HostPlan) (left time : ℕ) (g : Lcg) (before all : List ℕ) → left ≤ 0 → before ++ drawn_rows horizon hosts left time g ≡ all → before ≡ all
unfolding drawn_rows
all_put horizon hosts zero time g before all none inv = sym (append-nil before) ∙ inv
all_put horizon hosts (suc n) time g before all none inv = absurd (omega arith)

-- a plan has its rows exactly where it has a host
pub without_hosts : (hosts : List HostPlan) (horizon count : ℕ) (g : Lcg) (header : List ℕ) → length hosts ≤ 0 → header ≡ header ++ drawn_rows horizon hosts (row_count hosts count) 0 g
unfolding drawn_rows
without_hosts [] horizon count g header none = sym (append-nil header)
without_hosts (host ∷ hosts) horizon count g header none = absurd (omega arith)

pub with_hosts : (hosts : List HostPlan) (count : ℕ) → 0 < length hosts → row_count hosts count ≡ count
with_hosts [] count some = absurd (omega arith)
with_hosts (host ∷ hosts) count some = refl
