-- How many rows of each node begin a transfer.
use Rattle.tva_trace.proofs.Common.{◌≡◌, ◌∙◌, sym, ap, refl, subst, ℕ, ◌+◌, ◌==◌, ◌≤◌, ◌<◌, List, [], ◌∷◌, ◌++◌, cond, Bool, true, false, ◌&&◌, inl, inr, arith, and_right, ltb-true, eqb_tells, nat_eq, unwrap_or, Row, RowWhat, SaidRow, SaidWhat, Counts, FindsRoom, counted, Means, MeansWhat, filed_by, has_room, times, begins, files_at, IsSaidWhat}
use Rattle.std.proofs.Math.Bool.{and-true}
use Rattle.std.proofs.lemmas.List.Sums.{sum_by-append}
use Rattle.std.specs.HashMap.{HashMap}
use Rattle.std.specs.Map.{lookup}
use Rattle.tva_trace.specs.declared.said.SaidWhat.TheVariants as say

pub times-append : (a b : List ℕ) (node : ℕ) → times (a ++ b) node ≡ times a node + times b node
times-append a b node = sum_by-append (λ n. cond (n == node) 1 0) a b

pub files_at-append : (node : ℕ) (a b : List Row) → files_at node (a ++ b) ≡ files_at node a + files_at node b
files_at-append node a b = sum_by-append (λ row. cond ((row.node == node) && begins row.what) 1 0) a b

-- where no node is counted, each has none
pub counts_none : {S : Type 0} (files : HashMap ℕ ℕ S) → files.entries ≡ [] → counted files ≡ times []
counts_none files none = λ i node. ap {B = ℕ} (λ es. unwrap_or (lookup (nat_eq node) es) 0) none i

-- the counts are those of the nodes
pub counts_more : (old new : ℕ → ℕ) (filed nodes : List ℕ) → old ≡ times filed → Counts old new nodes → new ≡ times (filed ++ nodes)
counts_more old new filed nodes are more = λ i node.
    (more node ∙ ap (λ (f : ℕ → ℕ). f node + times nodes node) are ∙ sym (times-append filed nodes node)) i

pub counts_same : (old new : ℕ → ℕ) (filed : List ℕ) → old ≡ times filed → Counts old new [] → new ≡ times filed
counts_same old new filed are more = λ i node. (more node ∙ none_more (old node) ∙ ap (λ (f : ℕ → ℕ). f node) are) i
  where
    none_more : (n : ℕ) → n + 0 ≡ n
    none_more n = omega arith

-- a row begins a transfer where what it means does
abbrev one_if : Bool → ℕ
one_if b = cond b 1 0

begins_as : (node n : ℕ) (w : RowWhat) (b : Bool) → begins w ≡ b → one_if ((n == node) && begins w) ≡ one_if ((n == node) && b)
begins_as node n w b e = ap (λ x. one_if ((n == node) && x)) e

none_begins : (b : Bool) → one_if (b && false) ≡ 0
none_begins b = ap one_if (and_right b false refl)

one_begins : (n node : ℕ) → one_if ((n == node) && true) ≡ times (n ∷ []) node
one_begins n node = ap one_if (and-true (n == node)) ∙ omega arith

what_filed : (node n : ℕ) (said : SaidWhat) (w : RowWhat) → MeansWhat said w → one_if ((n == node) && begins w) ≡ times (filed_by n said) node
what_filed node n (say.Send dst payload) w m = begins_as node n w false (ap begins m) ∙ none_begins (n == node)
what_filed node n (say.Inject flow payload shim) w m = begins_as node n w false (ap begins m.2) ∙ none_begins (n == node)
what_filed node n (say.File dst size segment) w m = begins_as node n w true (ap begins m) ∙ one_begins n node
what_filed node n (say.Tick dst) w m = begins_as node n w false (ap begins m) ∙ none_begins (n == node)

files_at-one : (node : ℕ) (row : Row) → files_at node (row ∷ []) ≡ one_if ((row.node == node) && begins row.what)
files_at-one node row = omega arith

pub row_filed : (node : ℕ) (said : SaidRow) (row : Row) → Means said row → files_at node (row ∷ []) ≡ times (filed_by said.node said.what) node
row_filed node said row m =
    files_at-one node row ∙ ap (λ n. one_if ((n == node) && begins row.what)) m.1 ∙ what_filed node said.node said.what row.what m.2

-- a row that is said finds room
pub finds_room : (at_host : Bool) (files : ℕ → ℕ) (node : ℕ) (said : SaidWhat) → IsSaidWhat at_host (has_room files node) said → FindsRoom files node said
finds_room at_host files node (say.Send dst payload) h = tt
finds_room at_host files node (say.Inject flow payload shim) h = tt
finds_room at_host files node (say.File dst size segment) h = h.1
finds_room at_host files node (say.Tick dst) h = tt

-- with one more there are no more than there may be
none_more : (filed : List ℕ) (node : ℕ) → times filed node ≤ 65536 → times (filed ++ []) node ≤ 65536
none_more filed node h = omega (arith, times-append filed [] node)

one_more : (filed : List ℕ) (n node : ℕ) → times filed n < 65536 → times filed node ≤ 65536 → times (filed ++ n ∷ []) node ≤ 65536
one_more filed n node room h =
    elim (eqb_tells n node) [
      | inl t ↦ subst (λ m. times (filed ++ n ∷ []) m ≤ 65536) t.1 (omega (arith, times-append filed (n ∷ []) n, at_most_one (n == n)))
      | inr f ↦ omega (arith, times-append filed (n ∷ []) node, ap one_if f.0)
    ]
  where
    at_most_one : (b : Bool) → one_if b ≤ 1
    at_most_one true = omega arith
    at_most_one false = omega arith

pub room_left : (filed : List ℕ) (n node : ℕ) (said : SaidWhat) → FindsRoom (times filed) n said → times filed node ≤ 65536 → times (filed ++ filed_by n said) node ≤ 65536
room_left filed n node (say.Send dst payload) room h = none_more filed node h
room_left filed n node (say.Inject flow payload shim) room h = none_more filed node h
room_left filed n node (say.File dst size segment) room h = one_more filed n node (ltb-true (times filed n) 65536 room) h
room_left filed n node (say.Tick dst) room h = none_more filed node h
