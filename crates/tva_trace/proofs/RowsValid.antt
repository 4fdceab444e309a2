-- The rows that a text stands for are rows that a network can be given.
use Rattle.tva_trace.proofs.Common.{◌≡◌, ℕ, ◌+◌, ◌≤◌, ◌<◌, Bool, true, List, [], ◌∷◌, ◌++◌, length, Option, Some, Result, Ok, ap, subst, arith, option_and_then, IfSome, AllZip, Config, NodePlan, is_host, node_named, Row, RowWhat, AreTraceRows, IsRow, IsRowWhat, AreRows, Means, MeansWhat, IsAllowed, IsSaid, IsSaidWhat, NeverFall, TraceFault, SaidRow, SaidWhat, Ruled, allowed, demand, row_kind, filed_by, filing_of, has_room, hold, injection_of, kind_at, positive, records_in, row_of, rows_from, rows_under, sending_of, then_rows, ticking_of, times, what_of, Carried, CarriedBy, IsSaidShim, SaidShim, Bytes, Built, files_at, FindsRoom, said_by, some_row, IfOk, None, false, cond, sym, Err, is_header}
use Rattle.std.specs.List.{AllByRecursion}
use Rattle.std.proofs.lemmas.Bool.{leb-true}
use Rattle.std.proofs.lemmas.List.Elements.{All-from_recursion}
use Rattle.std.proofs.lemmas.Option.{same_Some}
use Rattle.tva_base.specs.declared.packet.Time.{Time}
use Rattle.tva_plan.specs.Names.{named_from}
use Rattle.std.proofs.lemmas.Bool.Decides.{nat_tests}
use Rattle.tva_plan.proofs.Named.{named_from-within}
use Rattle.tva_trace.specs.Rows.{◌>>=◌}
use Rattle.tva_trace.specs.declared.rows.RowKind as kinds
use Rattle.tva_trace.specs.declared.rows.TraceRule as rules
use Rattle.tva_trace.proofs.FileCounts.{files_at-append, finds_room, room_left, row_filed, times-append}
use Rattle.tva_shim.specs.declared.packets.Carried.TheVariants as carried
use Rattle.tva_shim.specs.Packets.{IsWithinWidths}
use Rattle.tva_trace.specs.Packed.{AnswersPacked}
use Rattle.tva_trace.specs.declared.rows.TraceError.{TraceError}
use Rattle.tva_trace.specs.declared.rows.TraceRule.TheVariants as rule
use Rattle.tva_trace.proofs.ShimsValid.{decimal_fits, shim_fits}
use Rattle.tva_trace.proofs.OneList.{one_said}

-- ## steps that gave something

ok_one : {A : Type 0} (x y : A) → ◌≡◌ {A = Ruled A} (Ok x) (Ok y) → x ≡ y
ok_one x y e = cc

-- a chain of steps: each value is a variable where the next step is looked at
when_held : {A B : Type 0} (P : B → Type 0) (r : Ruled A) (next : A → Ruled B) (y : B)
    → (r >>= next) ≡ Ok y → ((x : A) → r ≡ Ok x → next x ≡ Ok y → P y) → P y
when_held P r next y gave go = grind (arith, nat_tests)

demanded : {A : Type 0} (r : rules.TraceRule) (o : Option A) (x : A) → demand r o ≡ Ok x → o ≡ Some x
demanded r o x gave = grind (arith, nat_tests, ok_one)

held : (r : rules.TraceRule) (b : Bool) (u : Unit {0}) → hold r b ≡ Ok u → b ≡ true
held r b u gave = grind (arith, nat_tests)

-- ## what a row says

sending_said : (at_host room : Bool) (fields : List (List ℕ)) (w : SaidWhat) → at_host ≡ true → sending_of fields ≡ Ok w → IsSaidWhat at_host room w
unfolding sending_of
sending_said at_host room fields w host gave = grind (arith, nat_tests, when_held, decimal_fits, demanded, ok_one)

injection_said : (at_host room : Bool) (plans : List NodePlan) (k : kinds.RowKind) (fields : List (List ℕ)) (w : SaidWhat)
    → injection_of plans k fields ≡ Ok w → IsSaidWhat at_host room w
unfolding injection_of
injection_said at_host room plans k fields w gave = grind (arith, nat_tests, when_held, decimal_fits, demanded, shim_fits, ok_one)

positive_is : (o : Option ℕ) (n : ℕ) → positive o ≡ Some n → (o ≡ Some n) × (1 ≤ n)
positive_is o n e = grind (arith, nat_tests)

filing_said : (at_host room : Bool) (fields : List (List ℕ)) (w : SaidWhat) → at_host ≡ true → room ≡ true → filing_of fields ≡ Ok w → IsSaidWhat at_host room w
unfolding filing_of
filing_said at_host room fields w host some gave = grind (arith, nat_tests, when_held, positive_is, demanded, decimal_fits, ok_one)

ticking_said : (at_host room : Bool) (fields : List (List ℕ)) (w : SaidWhat) → at_host ≡ true → ticking_of fields ≡ Ok w → IsSaidWhat at_host room w
unfolding ticking_of
ticking_said at_host room fields w host gave = grind (arith, nat_tests, when_held, ok_one)

what_said : (at_host room : Bool) (plans : List NodePlan) (k : kinds.RowKind) (fields : List (List ℕ)) (w : SaidWhat)
    → IsAllowed at_host room k → what_of plans k fields ≡ Ok w → IsSaidWhat at_host room w
what_said at_host room plans k fields w a gave = grind (arith, nat_tests, sending_said, injection_said, filing_said, ticking_said)

-- ## where it may stand

kind_by : (at_host room : Bool) (o : Option kinds.RowKind) (k : kinds.RowKind) → option_and_then (allowed at_host room) o ≡ Some k → IsAllowed at_host room k
kind_by at_host room o k e = grind (arith, nat_tests)

kind_allowed : (plans : List NodePlan) (files : ℕ → ℕ) (node : ℕ) (word : List ℕ) (k : kinds.RowKind) → kind_at plans files node word ≡ Some k
    → IsAllowed (is_host plans node) (has_room files node) k
unfolding kind_at
kind_allowed plans files node word k e = kind_by (is_host plans node) (has_room files node) (row_kind word) k e

node_there : (plans : List NodePlan) (o : Option ℕ) (n : ℕ) → IfSome o (λ k. k < 0 + length plans) → o ≡ Some n → n < length plans
node_there plans o n k e = grind (arith, nat_tests, same_Some)

node_within : (plans : List NodePlan) (name : List ℕ) (n : ℕ) → node_named plans name ≡ Some n → n < length plans
unfolding node_named
node_within plans name n e = node_there plans (named_from name 0 plans) n (named_from-within name 0 plans) e

-- a row of a number that is no greater than the greatest
abbrev IsSaidRow : Config → ℕ → ℕ → (ℕ → ℕ) → SaidRow → Type 0
IsSaidRow config number last files said = (number ≤ 1000001) × IsSaid config last files said

row_said : (config : Config) (number last : ℕ) (files : ℕ → ℕ) (fields : List (List ℕ)) (said : SaidRow) → row_of config number last files fields ≡ Ok said
    → IsSaidRow config number last files said
unfolding row_of
row_said config number last files fields said gave = search (arith, nat_tests, when_held, leb-true, held, decimal_fits, demanded, node_within, what_said, kind_allowed, ok_one)

-- ## all rows

abbrev AreSaid : Config → ℕ → ℕ → List ℕ → List SaidRow → Type 0
AreSaid config number last filed [] = Unit {0}
AreSaid config number last filed (said ∷ more) =
    IsSaidRow config number last (times filed) said × AreSaid config (number + 1) said.time.0 (filed ++ filed_by said.node said.what) more

then_said : (config : Config) (number last : ℕ) (filed : List ℕ) (r : Ruled SaidRow) (next : SaidRow → Result (List SaidRow) TraceFault) (said : List SaidRow)
    → ((row : SaidRow) → r ≡ Ok row → IsSaidRow config number last (times filed) row)
    → ((row : SaidRow) (rest : List SaidRow) → next row ≡ Ok rest → AreSaid config (number + 1) row.time.0 (filed ++ filed_by row.node row.what) rest)
    → then_rows number r next ≡ Ok said → AreSaid config number last filed said
then_said config number last filed r next said own more gave = grind (arith, nat_tests)

rows_said : (config : Config) (number last : ℕ) (filed : List ℕ) (records : List (List (List ℕ))) (said : List SaidRow)
    → rows_from config number last filed records ≡ Ok said → AreSaid config number last filed said
unfolding rows_from
rows_said config number last filed [] said gave = subst (AreSaid config number last filed) (one_said [] said gave) tt
rows_said config number last filed (fields ∷ records) said gave =
    then_said config number last filed (row_of config number last (times filed) fields)
    (λ row. rows_from config (number + 1) row.time.0 (filed ++ filed_by row.node row.what) records) said
    (λ row k. row_said config number last (times filed) fields row k)
    (λ row rest k. rows_said config (number + 1) row.time.0 (filed ++ filed_by row.node row.what) records rest k) gave

under_said : (config : Config) (records : List (List (List ℕ))) (said : List SaidRow) → rows_under config records ≡ Ok said
    → AreSaid config 2 0 [] said
unfolding rows_under
under_said config records said gave = grind (arith, nat_tests, rows_said)

-- ## what is said is meant

carried-fits : (shim : SaidShim) (c : Carried) → IsSaidShim shim → CarriedBy shim c → IsWithinWidths c
carried-fits (Bytes bytes) carried.Nothing h m = tt
carried-fits (Bytes bytes) (carried.Shim shim) h m = m.0
carried-fits (Bytes bytes) (carried.Malformed count) h m = omega (arith, m.2)
carried-fits (Built shim) c h m = subst IsWithinWidths (sym m) h

what_meant : (at_host room : Bool) (said : SaidWhat) (w : RowWhat) → IsSaidWhat at_host room said → MeansWhat said w → IsRowWhat at_host w
what_meant at_host room said w s m = grind (arith, nat_tests, carried-fits)

record AreMeant (config : Config) (number last : ℕ) (rows : List Row) : Type 0 where
  few : number + length rows ≤ 1000002
  each : AllByRecursion (IsRow config) rows
  order : NeverFall last rows

rows_meant : (config : Config) (number last : ℕ) (filed : List ℕ) (said : List SaidRow) (rows : List Row) → number ≤ 1000002
    → AreSaid config number last filed said → AllZip Means said rows → AreMeant config number last rows
rows_meant config number last filed [] z0 l s m = grind (arith, nat_tests)
rows_meant config number last filed (x ∷ xs) [] l s m = absurd m
rows_meant config number last filed (x ∷ xs) (y ∷ ys) l s m =
    let own = s.0.1 in
    let time : y.time.0 ≡ x.time.0 = ap (λ (t : Time). t.0) m.0.0 in
    let next : number + 1 ≤ 1000002 = (let few = s.0.0 in omega (arith, few)) in
    grind (arith, nat_tests, what_meant, rows_meant config (number + 1) x.time.0 (filed ++ filed_by x.node x.what) xs ys next s.1 m.1)

-- each node begins few transfers
files_meant : (config : Config) (number last : ℕ) (filed : List ℕ) (said : List SaidRow) (rows : List Row) (node : ℕ) → AreSaid config number last filed said
    → AllZip Means said rows → times filed node ≤ 65536 → times filed node + files_at node rows ≤ 65536
files_meant config number last filed [] [] node s m h = omega (arith, h)
files_meant config number last filed [] (y ∷ ys) node s m h = absurd m
files_meant config number last filed (x ∷ xs) [] node s m h = absurd m
files_meant config number last filed (x ∷ xs) (y ∷ ys) node s m h =
    let finds = finds_room (is_host config.nodes x.node) (times filed) x.node x.what s.0.1.what in
    let more = files_meant config (number + 1) x.time.0 (filed ++ filed_by x.node x.what) xs ys node s.1 m.1 (room_left filed x.node node x.what finds h) in
    omega (arith, more, times-append filed (filed_by x.node x.what) node, row_filed node x y m.0, files_at-append node (y ∷ []) ys)

-- the rows that a text stands for are rows of a trace
pub rows_are_valid : (config : Config) (text : List ℕ) (rows : List Row) → AreRows config text rows → AreTraceRows config rows
rows_are_valid config text rows are =
    let said = under_said config (records_in text) are.0 are.1 in
    let k = rows_meant config 2 0 [] are.0 rows (omega arith) said are.2 in
    record {
      few = (let few = k.few in omega (arith, few));
      each = All-from_recursion (IsRow config) rows k.each;
      order = k.order;
      files = λ node. omega (arith, files_meant config 2 0 [] are.0 rows node said are.2 (omega arith));
    }

-- so are those of an answer
pub answered_valid : (config : Config) (text : List ℕ) (r : Result (List Row) TraceError) → AnswersPacked config text r → IfOk r (AreTraceRows config)
answered_valid config text (Ok rows) are = rows_are_valid config text rows are
answered_valid config text (Err fault) are = tt

-- ## a row that begins a transfer

no_header : (b : Bool) (said : SaidRow) → ◌≡◌ {A = Ruled (Option SaidRow)} (cond b (Ok None) (Err rule.Header)) (Ok (Some said)) → ⊥
no_header b said e = grind (arith, nat_tests)

said_is : (r : Ruled SaidRow) (said : SaidRow) → some_row r ≡ Ok (Some said) → r ≡ Ok said
said_is r said e = grind (arith, nat_tests)

-- it finds room
pub room_said : (first : Bool) (config : Config) (number last : ℕ) (files : ℕ → ℕ) (fields : List (List ℕ)) (said : Option SaidRow)
    → said_by first config number last files fields ≡ Ok said → IfSome said (λ row. FindsRoom files row.node row.what)
room_said first config number last files fields None e = tt
room_said true config number last files fields (Some said) e = absurd (no_header (is_header fields) said e)
room_said false config number last files fields (Some said) e =
    let own = row_said config number last files fields said (said_is (row_of config number last files fields) said e) in
    finds_room (is_host config.nodes said.node) files said.node said.what own.1.what
