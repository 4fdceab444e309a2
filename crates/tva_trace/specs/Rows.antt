-- Product: the rows of a trace, or the first rule that its first bad record breaks.
use Rattle.std.specs.Prelude.{ℕ, ◌+◌, ◌==◌, ◌&&◌, nat_le, nat_lt, if◌then◌else◌, Bool, List, [], ◌∷◌, length, count_by, Result, Ok, Err, Option, Some, None, unwrap_or, codes, ◌++◌}
use Rattle.std.specs.{Option.option_and_then, Option.ok_or, Str.bytes_eq}
use Rattle.csv.specs.{Reading.records, Reading.default_config, Reading.strip_bom, Records.field_at}
use Rattle.tva_base.specs.{declared.addresses.Address.Address, declared.packet.Flow.Flow, Decimal.decimal_of}
use Rattle.tva_base.specs.Addresses.{address_of}
use Rattle.tva_plan.specs.declared.config.{Config.Config, NodePlan.NodePlan}
use Rattle.tva_trace.specs.declared.rows.RowKind as kinds
use Rattle.tva_trace.specs.declared.rows.RowKind.TheVariants as kind
use Rattle.tva_trace.specs.declared.rows.TraceRule as rules
use Rattle.tva_trace.specs.declared.rows.TraceRule.TheVariants as rule
use Rattle.tva_trace.specs.declared.{rows.TraceFault.TraceFault, said.SaidRow.SaidRow}
use Rattle.tva_trace.specs.declared.said.SaidWhat as said
use Rattle.tva_trace.specs.declared.said.SaidWhat.TheVariants as say
use Rattle.tva_plan.specs.Names.{is_host, node_named}
use Rattle.tva_trace.specs.Items.{row_shim}

-- a value, or the rule that is broken
abbrev pub Ruled : Type 0 → Type 0
Ruled A = Result A rules.TraceRule

-- a step after another: the rule that the first breaks comes before those of the second
infixl 10 ◌>>=◌
abbrev pub ◌>>=◌ : {A B : Type 0} → Ruled A → (A → Ruled B) → Ruled B
(Ok x) >>= next = next x
(Err broken) >>= next = Err broken

-- a rule that a value meets where there is one
abbrev pub demand : {A : Type 0} → rules.TraceRule → Option A → Ruled A
demand r value = ok_or value r

-- a rule that a test meets
abbrev pub hold : rules.TraceRule → Bool → Ruled (Unit {0})
hold r test = if test then Ok tt else Err r

-- the field at a place
abbrev pub field : List (List ℕ) → ℕ → List ℕ
field fields i = unwrap_or (field_at fields i) []

abbrev pub is_empty : List ℕ → Bool
is_empty text = length text == 0

-- the kind that a word names
unfoldable pub row_kind : List ℕ → Option kinds.RowKind
row_kind word =
    if bytes_eq word (codes "send") then Some kind.Send
    else if bytes_eq word (codes "raw") then Some kind.Raw
    else if bytes_eq word (codes "list") then Some kind.List
    else if bytes_eq word (codes "renew") then Some kind.Renew
    else if bytes_eq word (codes "nonce") then Some kind.Nonce
    else if bytes_eq word (codes "file") then Some kind.File
    else if bytes_eq word (codes "tick") then Some kind.Tick
    else None

-- only a host sends, and it begins a transfer only where there is room for one more
abbrev pub allowed : Bool → Bool → kinds.RowKind → Option kinds.RowKind
allowed at_host room kind.Send = if at_host then Some kind.Send else None
allowed at_host room kind.Raw = Some kind.Raw
allowed at_host room kind.List = Some kind.List
allowed at_host room kind.Renew = Some kind.Renew
allowed at_host room kind.Nonce = Some kind.Nonce
allowed at_host room kind.File = if at_host && room then Some kind.File else None
allowed at_host room kind.Tick = if at_host then Some kind.Tick else None

-- how often a number stands in a list
abbrev pub times : List ℕ → ℕ → ℕ
times nodes node = count_by (λ n. n == node) nodes

-- where as many rows before begin a transfer at each node: a node has at most 65,536 of them
abbrev pub has_room : (ℕ → ℕ) → ℕ → Bool
has_room files node = nat_lt (files node) 65536

unfoldable pub kind_at : List NodePlan → (ℕ → ℕ) → ℕ → List ℕ → Option kinds.RowKind
kind_at plans files node word = option_and_then (allowed (is_host plans node) (has_room files node)) (row_kind word)

-- what a row that sends says: its source and its shim are empty
unfoldable pub sending_of : List (List ℕ) → Ruled said.SaidWhat
sending_of fields = do
  own ← hold rule.Src (is_empty (field fields 3))
  dst ← demand rule.Dst (address_of (field fields 4))
  payload ← demand rule.Payload (decimal_of (field fields 5) 1600)
  none ← hold rule.Shim (is_empty (field fields 6))
  Ok (say.Send dst payload)

-- a number that isn't 0
abbrev pub positive : Option ℕ → Option ℕ
positive None = None
positive (Some n) = if nat_lt 0 n then Some n else None

-- what a row that begins a transfer says: the bytes of a segment stand where a payload does, those of the file
-- where a shim does
unfoldable pub filing_of : List (List ℕ) → Ruled said.SaidWhat
filing_of fields = do
  own ← hold rule.Src (is_empty (field fields 3))
  dst ← demand rule.Dst (address_of (field fields 4))
  segment ← demand rule.Payload (positive (decimal_of (field fields 5) 1500))
  size ← demand rule.Shim (positive (decimal_of (field fields 6) 100000000))
  Ok (say.File dst size segment)

-- what a tick says: its payload is 0
unfoldable pub ticking_of : List (List ℕ) → Ruled said.SaidWhat
ticking_of fields = do
  own ← hold rule.Src (is_empty (field fields 3))
  dst ← demand rule.Dst (address_of (field fields 4))
  zero ← demand rule.Payload (decimal_of (field fields 5) 0)
  none ← hold rule.Shim (is_empty (field fields 6))
  Ok (say.Tick dst)

abbrev pub flow_from : Address → Address → Flow
flow_from src dst = record { src = src; dst = dst }

-- what a row that injects a packet says
unfoldable pub injection_of : List NodePlan → kinds.RowKind → List (List ℕ) → Ruled said.SaidWhat
injection_of plans k fields = do
  src ← demand rule.Src (address_of (field fields 3))
  dst ← demand rule.Dst (address_of (field fields 4))
  payload ← demand rule.Payload (decimal_of (field fields 5) 1600)
  shim ← demand rule.Shim (row_shim plans k (flow_from src dst) (field fields 6))
  Ok (say.Inject (flow_from src dst) payload shim)

abbrev pub what_of : List NodePlan → kinds.RowKind → List (List ℕ) → Ruled said.SaidWhat
what_of plans kind.Send fields = sending_of fields
what_of plans kind.Raw fields = injection_of plans kind.Raw fields
what_of plans kind.List fields = injection_of plans kind.List fields
what_of plans kind.Renew fields = injection_of plans kind.Renew fields
what_of plans kind.Nonce fields = injection_of plans kind.Nonce fields
what_of plans kind.File fields = filing_of fields
what_of plans kind.Tick fields = ticking_of fields

-- what the record of that number says, behind a row of that time, and behind rows of which as many begin a transfer
-- at each node
unfoldable pub row_of : Config → ℕ → ℕ → (ℕ → ℕ) → List (List ℕ) → Ruled SaidRow
row_of config number last files fields = do
  few ← hold rule.Rows (nat_le number 1000001)
  seven ← hold rule.Fields (length fields == 7)
  time ← demand rule.Time (decimal_of (field fields 0) config.horizon.0)
  later ← hold rule.Order (nat_le last time)
  node ← demand rule.Node (node_named config.nodes (field fields 1))
  k ← demand rule.Kind (kind_at config.nodes files node (field fields 2))
  what ← what_of config.nodes k fields
  Ok (record { time = record { 0 = time }; node = node; what = what })

-- the rule that a record breaks, with the record's number
abbrev pub row_fault : ℕ → rules.TraceRule → TraceFault
row_fault number r = record { row = number; rule = r }

-- rows behind others
abbrev pub behind : List SaidRow → Result (List SaidRow) TraceFault → Result (List SaidRow) TraceFault
behind rows (Ok more) = Ok (rows ++ more)
behind rows (Err fault) = Err fault

-- the node of a row that begins a transfer
abbrev pub filed_by : ℕ → said.SaidWhat → List ℕ
filed_by node (say.Send dst payload) = []
filed_by node (say.Inject flow payload shim) = []
filed_by node (say.File dst size segment) = node ∷ []
filed_by node (say.Tick dst) = []

-- a row and those behind it, or the rule that it breaks
abbrev pub then_rows : ℕ → Ruled SaidRow → (SaidRow → Result (List SaidRow) TraceFault)
    → Result (List SaidRow) TraceFault
then_rows number (Err broken) more = Err (row_fault number broken)
then_rows number (Ok row) more = behind (row ∷ []) (more row)

-- the rows of records of which the first has that number, behind a row of that time, and behind rows of those nodes
-- that begin a transfer
unfoldable pub rows_from : Config → ℕ → ℕ → List ℕ → List (List (List ℕ)) → Result (List SaidRow) TraceFault
rows_from config number last filed [] = Ok []
rows_from config number last filed (fields ∷ records) =
    then_rows number (row_of config number last (times filed) fields)
    (λ row. rows_from config (number + 1) row.time.0 (filed ++ filed_by row.node row.what) records)

-- the first record names the fields
abbrev pub is_header : List (List ℕ) → Bool
is_header fields =
    (length fields == 7) && bytes_eq (field fields 0) (codes "time") && bytes_eq (field fields 1) (codes "node")
    && bytes_eq (field fields 2) (codes "kind") && bytes_eq (field fields 3) (codes "src")
    && bytes_eq (field fields 4) (codes "dst") && bytes_eq (field fields 5) (codes "payload")
    && bytes_eq (field fields 6) (codes "shim")

-- the first record says nothing, where it names the fields
abbrev pub header_of : List (List ℕ) → Ruled (Option SaidRow)
header_of fields = if is_header fields then Ok None else Err rule.Header

abbrev pub some_row : Ruled SaidRow → Ruled (Option SaidRow)
some_row (Ok row) = Ok (Some row)
some_row (Err broken) = Err broken

-- what a record says: nothing where it is the first
abbrev pub said_by : Bool → Config → ℕ → ℕ → (ℕ → ℕ) → List (List ℕ) → Ruled (Option SaidRow)
said_by first config number last files fields =
    if first then header_of fields else some_row (row_of config number last files fields)

unfoldable pub rows_under : Config → List (List (List ℕ)) → Result (List SaidRow) TraceFault
rows_under config [] = Err (row_fault 1 rule.Header)
rows_under config (fields ∷ records) =
    if is_header fields then rows_from config 2 0 [] records else Err (row_fault 1 rule.Header)

-- the records that `csv` gives for a text, without a byte order mark
abbrev pub records_in : List ℕ → List (List (List ℕ))
records_in text = records default_config (strip_bom text)

-- the rows of a text, or its first fault
abbrev pub rows_of : Config → List ℕ → Result (List SaidRow) TraceFault
rows_of config text = rows_under config (records_in text)
