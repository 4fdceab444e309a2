-- How far a trace is read.
use Rattle.tva_trace.proofs.Common.{◌≡◌, ◌∙◌, sym, ap, refl, ℕ, ◌+◌, ◌≤◌, ◌==◌, List, [], ◌∷◌, ◌++◌, ◌-◌, append_assoc, Option, Some, None, Result, Ok, Err, cond, Bool, true, false, Bor, inl, inr, arith, eqb_tells, AllZip, eqb-true, append-nil, eq-eqb, rows-end, ExplainsRead, ReadRecord, Ready, default_config, source_of, strip_bom, Reader, Config, Row, TraceRule, TraceFault, SaidRow, Counts, filed_in, Ruled, behind, row_fault, filed_by, is_header, row_of, rows_from, rows_of, rows_under, said_by, some_row, then_rows, times, AreRows, IsPut, Means}
use Rattle.csv.specs.declared.parser.State.TheVariants as st
use Rattle.csv.specs.declared.error.ErrorKind.{ErrorKind}
use Rattle.csv.specs.declared.error.ErrorKind.TheVariants as why
use Rattle.tva_trace.specs.Shortage.{IsShortage}
use Rattle.csv.specs.declared.reader.Trim.TheVariants as trim
use Rattle.tva_trace.specs.declared.rows.TraceRule.TheVariants as rule
use Rattle.tva_shim.specs.declared.packets.Carried.TheVariants as carried
use Rattle.tva_trace.specs.declared.said.SaidWhat.TheVariants as say
use Rattle.tva_trace.proofs.FileCounts.{counts_more, counts_same}
use Rattle.tva_trace.proofs.RecordsLeft.{left_of, left-none, left-read}

-- what records say of which the first has that number
abbrev pub rows_left : Bool → Config → ℕ → ℕ → List ℕ → List (List (List ℕ)) → Result (List SaidRow) TraceFault
rows_left first config number last filed records = cond first (rows_under config records) (rows_from config number last filed records)

-- a text was read as far as a reader stands: its rows are those that were pushed and those that are left; of those
-- that were pushed as many begin a transfer at each node
pub record IsReadTo (config : Config) (text : List ℕ) (reader : Reader (Bor (List ℕ))) (number last : ℕ) (files : ℕ → ℕ) (rows : List Row) : Type 0 where
  pub untrimmed : reader.trim ≡ trim.None
  pub is_ready : Ready reader
  pub by_default : reader.config ≡ default_config
  pub unread : List ℕ
  pub source : source_of (λ s. Some s.now) reader ≡ Some unread
  pub said : List SaidRow
  pub means : AllZip Means said rows
  pub filed : List ℕ
  pub rest : rows_of config text ≡ behind said (rows_left (number == 1) config number last filed (left_of default_config reader.state unread))
  pub counted : (1 ≤ number) × (number ≤ 1000002)
  pub flexible : reader.flexible ≡ true
  pub from_zero : number ≡ 1 → last ≡ 0
  pub from_none : number ≡ 1 → filed ≡ []
  pub counts : files ≡ times filed

-- what the first record says, where the test is whether it is the header
abbrev if_header : Bool → Ruled (Option SaidRow)
if_header b = cond b (Ok None) (Err rule.Header)

not_first : (n : ℕ) → 1 ≤ n → (n + 1 == 1) ≡ false
not_first n h = elim (eqb_tells (n + 1) 1) [ inl t ↦ absurd (omega arith) | inr f ↦ f.0 ]

-- what records say that stand behind that of a row
abbrev rows_behind : Config → ℕ → List ℕ → List (List (List ℕ)) → SaidRow → Result (List SaidRow) TraceFault
rows_behind config number filed records row = rows_from config (number + 1) row.time.0 (filed ++ filed_by row.node row.what) records

-- a record that breaks a rule
fault_first : (b : Bool) (rest : Result (List SaidRow) TraceFault) (broken : TraceRule) (number : ℕ) → number ≡ 1 → if_header b ≡ Err broken → cond b rest (Err (row_fault 1 rule.Header)) ≡ Err (row_fault number broken)
fault_first true rest broken number one e = cc
fault_first false rest broken number one e = cc

fault_row : (r : Result SaidRow TraceRule) (broken : TraceRule) (number : ℕ) (more : SaidRow → Result (List SaidRow) TraceFault) → some_row r ≡ Err broken → then_rows number r more ≡ Err (row_fault number broken)
fault_row (Ok row) broken number more e = cc
fault_row (Err b) broken number more e = cc

fault_by : (first : Bool) (config : Config) (number last : ℕ) (filed : List ℕ) (fields : List (List ℕ)) (records : List (List (List ℕ))) (broken : TraceRule) → (first ≡ true → number ≡ 1) → said_by first config number last (times filed) fields ≡ Err broken → rows_left first config number last filed (fields ∷ records) ≡ Err (row_fault number broken)
unfolding rows_under rows_from
fault_by true config number last filed fields records broken one e = fault_first (is_header fields) (rows_from config 2 0 [] records) broken number (one refl) e
fault_by false config number last filed fields records broken one e = fault_row (row_of config number last (times filed) fields) broken number (rows_behind config number filed records) e

-- the first record, which names the fields
header_first : (b : Bool) (rest : Result (List SaidRow) TraceFault) → if_header b ≡ Ok None → cond b rest (Err (row_fault 1 rule.Header)) ≡ rest
header_first true rest e = refl
header_first false rest e = cc

no_row : (r : Result SaidRow TraceRule) → some_row r ≡ Ok None → ⊥
no_row (Ok row) e = cc
no_row (Err b) e = cc

header_by : (first : Bool) (config : Config) (number last : ℕ) (filed : List ℕ) (fields : List (List ℕ)) (records : List (List (List ℕ))) → (first ≡ true → (number ≡ 1) × (last ≡ 0) × (filed ≡ [])) → said_by first config number last (times filed) fields ≡ Ok None → rows_left first config number last filed (fields ∷ records) ≡ rows_from config (number + 1) last filed records
unfolding rows_under
header_by true config number last filed fields records start e = header_first (is_header fields) (rows_from config 2 0 [] records) e ∙ (rw ((start refl).0, (start refl).1, (start refl).2) refl)
header_by false config number last filed fields records start e = absurd (no_row (row_of config number last (times filed) fields) e)

-- a row
row_first : (b : Bool) (said : SaidRow) → if_header b ≡ Ok (Some said) → ⊥
row_first true said e = cc
row_first false said e = cc

row_then : (r : Result SaidRow TraceRule) (said : SaidRow) (number : ℕ) (more : SaidRow → Result (List SaidRow) TraceFault) → some_row r ≡ Ok (Some said) → then_rows number r more ≡ behind (said ∷ []) (more said)
row_then (Ok row) said number more e = let same : row ≡ said = cc in ap (λ r. behind (r ∷ []) (more r)) same
row_then (Err b) said number more e = cc

row_by : (first : Bool) (config : Config) (number last : ℕ) (filed : List ℕ) (fields : List (List ℕ)) (records : List (List (List ℕ))) (said : SaidRow) → said_by first config number last (times filed) fields ≡ Ok (Some said) → rows_left first config number last filed (fields ∷ records) ≡ behind (said ∷ []) (rows_behind config number filed records said)
unfolding rows_from
row_by true config number last filed fields records said e = absurd (row_first (is_header fields) said e)
row_by false config number last filed fields records said e = row_then (row_of config number last (times filed) fields) said number (rows_behind config number filed records) e

behind-behind : (a b : List SaidRow) (r : Result (List SaidRow) TraceFault) → behind a (behind b r) ≡ behind (a ++ b) r
behind-behind a b (Ok rows) = ap Ok (sym (append_assoc a b rows))
behind-behind a b (Err fault) = refl

AllZip-push : (said : List SaidRow) (rows : List Row) (s : SaidRow) (r : Row) → AllZip Means said rows → Means s r → AllZip Means (said ++ s ∷ []) (rows ++ r ∷ [])
AllZip-push [] [] s r h m = (m, tt)
AllZip-push [] (y ∷ ys) s r h m = absurd h
AllZip-push (x ∷ xs) [] s r h m = absurd h
AllZip-push (x ∷ xs) (y ∷ ys) s r h m = (h.0, AllZip-push xs ys s r h.1 m)

behind-none : (r : Result (List SaidRow) TraceFault) → behind [] r ≡ r
behind-none (Ok rows) = refl
behind-none (Err fault) = refl

abbrev Source : Type 0
Source = Reader (Bor (List ℕ))

abbrev pub told : Bor (List ℕ) → Option (List ℕ)
told s = Some s.now

-- nothing was read
pub read-start : (config : Config) (text : List ℕ) (reader : Source) (files : ℕ → ℕ) → files ≡ times [] → reader.trim ≡ trim.None → Ready reader → reader.config ≡ default_config → source_of told reader ≡ Some (strip_bom text) → reader.state ≡ st.StartRecord → reader.flexible ≡ true → IsReadTo config text reader 1 0 files []
read-start config text reader files none t r c s st flexible = record {
  untrimmed = t;
  is_ready = r;
  by_default = c;
  unread = strip_bom text;
  source = s;
  said = [];
  means = tt;
  filed = [];
  rest = rw st (sym (behind-none (rows_of config text)));
  counted = (omega arith, omega arith);
  flexible = flexible;
  from_zero = λ _. refl;
  from_none = λ _. refl;
  counts = none;
}

-- the record that is read is the first that was left
rest-read : (config : Config) (text : List ℕ) (a b : Source) (number last : ℕ) (files : ℕ → ℕ) (rows : List Row) (fields : List (List ℕ)) (d : IsReadTo config text a number last files rows) → ReadRecord told a b true fields
    → (z : List ℕ) × (source_of told b ≡ Some z) × (rows_of config text ≡ behind d.said (rows_left (number == 1) config number last d.filed (fields ∷ left_of default_config b.state z)))
rest-read config text a b number last files rows fields d r =
    let m = left-read told a b fields default_config d.unread d.by_default d.source r in
    (m.0, m.1, d.rest ∙ ap (λ l. behind d.said (rows_left (number == 1) config number last d.filed l)) m.2)

-- what a record says behind so many rows of each node that begin a transfer
said_at : (config : Config) (number last : ℕ) (files : ℕ → ℕ) (filed : List ℕ) (fields : List (List ℕ)) (answer : Ruled (Option SaidRow)) → files ≡ times filed → said_by (number == 1) config number last files fields ≡ answer → said_by (number == 1) config number last (times filed) fields ≡ answer
said_at config number last files filed fields answer are e = ap (λ (f : ℕ → ℕ). said_by (number == 1) config number last f fields) (sym are) ∙ e

-- a record that breaks a rule
pub read-fault : (config : Config) (text : List ℕ) (a b : Source) (number last : ℕ) (files : ℕ → ℕ) (rows : List Row) (fields : List (List ℕ)) (broken : TraceRule) → IsReadTo config text a number last files rows → ReadRecord told a b true fields → said_by (number == 1) config number last files fields ≡ Err broken → rows_of config text ≡ Err (row_fault number broken)
read-fault config text a b number last files rows fields broken d r e =
    let m = rest-read config text a b number last files rows fields d r in
    m.2 ∙ ap (behind d.said) (fault_by (number == 1) config number last d.filed fields (left_of default_config b.state m.0) broken (eqb-true number 1) (said_at config number last files d.filed fields (Err broken) d.counts e))

-- the header
pub read-header : (config : Config) (text : List ℕ) (a b : Source) (number last : ℕ) (files more : ℕ → ℕ) (rows : List Row) (fields : List (List ℕ)) → IsReadTo config text a number last files rows → ReadRecord told a b true fields → Ready b → number ≤ 1000001 → said_by (number == 1) config number last files fields ≡ Ok None → Counts files more [] → b.flexible ≡ a.flexible → IsReadTo config text b (number + 1) last more rows
read-header config text a b number last files more rows fields d r ready few e count same =
    let m = rest-read config text a b number last files rows fields d r in
    let records = left_of default_config b.state m.0 in
    record {
      untrimmed = r.3 ∙ d.untrimmed;
      is_ready = ready;
      by_default = r.2 ∙ d.by_default;
      unread = m.0;
      source = m.1;
      said = d.said;
      means = d.means;
      filed = d.filed;
      rest = m.2 ∙ ap (behind d.said) (header_by (number == 1) config number last d.filed fields records (λ one. (eqb-true number 1 one, d.from_zero (eqb-true number 1 one), d.from_none (eqb-true number 1 one))) (said_at config number last files d.filed fields (Ok None) d.counts e)
          ∙ sym (ap (λ first. rows_left first config (number + 1) last d.filed records) (not_first number d.counted.0)));
      counted = (omega arith, omega arith);
      flexible = same ∙ d.flexible;
      from_zero = λ one. absurd (omega (arith, d.counted.0));
      from_none = λ one. absurd (omega (arith, d.counted.0));
      counts = counts_same files more d.filed d.counts count;
    }

-- a row
pub read-row : (config : Config) (text : List ℕ) (a b : Source) (number last : ℕ) (files more : ℕ → ℕ) (rows : List Row) (fields : List (List ℕ)) (said : SaidRow) (row : Row) → IsReadTo config text a number last files rows → ReadRecord told a b true fields → Ready b → number ≤ 1000001 → said_by (number == 1) config number last files fields ≡ Ok (Some said) → Means said row → Counts files more (filed_by said.node said.what) → b.flexible ≡ a.flexible → IsReadTo config text b (number + 1) said.time.0 more (rows ++ row ∷ [])
read-row config text a b number last files more rows fields said row d r ready few e means count same =
    let m = rest-read config text a b number last files rows fields d r in
    let records = left_of default_config b.state m.0 in
    record {
      untrimmed = r.3 ∙ d.untrimmed;
      is_ready = ready;
      by_default = r.2 ∙ d.by_default;
      unread = m.0;
      source = m.1;
      said = d.said ++ said ∷ [];
      means = AllZip-push d.said rows said row d.means means;
      filed = d.filed ++ filed_by said.node said.what;
      rest = m.2 ∙ ap (behind d.said) (row_by (number == 1) config number last d.filed fields records said (said_at config number last files d.filed fields (Ok (Some said)) d.counts e)
          ∙ sym (ap (λ first. behind (said ∷ []) (rows_left first config (number + 1) said.time.0 (d.filed ++ filed_by said.node said.what) records)) (not_first number d.counted.0)))
          ∙ behind-behind d.said (said ∷ []) (rows_left (number + 1 == 1) config (number + 1) said.time.0 (d.filed ++ filed_by said.node said.what) records);
      counted = (omega arith, omega arith);
      flexible = same ∙ d.flexible;
      from_zero = λ one. absurd (omega (arith, d.counted.0));
      from_none = λ one. absurd (omega (arith, d.counted.0));
      counts = counts_more files more d.filed (filed_by said.node said.what) d.counts count;
    }

-- no record is left
rest-none : (config : Config) (text : List ℕ) (a b : Source) (number last : ℕ) (files : ℕ → ℕ) (rows : List Row) (fields : List (List ℕ)) (d : IsReadTo config text a number last files rows) → ReadRecord told a b false fields → rows_of config text ≡ behind d.said (rows_left (number == 1) config number last d.filed [])
rest-none config text a b number last files rows fields d r =
    d.rest ∙ ap (λ l. behind d.said (rows_left (number == 1) config number last d.filed l)) (left-none default_config a.state d.unread (rows-end told a b fields default_config d.unread d.by_default d.source r))

no_header : (first : Bool) (config : Config) (number last : ℕ) (filed : List ℕ) (said : List SaidRow) → first ≡ true → behind said (rows_left first config number last filed []) ≡ Err (row_fault 1 rule.Header)
unfolding rows_under
no_header true config number last filed said e = refl
no_header false config number last filed said e = cc

pub read-nothing : (config : Config) (text : List ℕ) (a b : Source) (number last : ℕ) (files : ℕ → ℕ) (rows : List Row) (fields : List (List ℕ)) → IsReadTo config text a number last files rows → ReadRecord told a b false fields → number ≡ 1 → rows_of config text ≡ Err (row_fault 1 rule.Header)
read-nothing config text a b number last files rows fields d r one =
    rest-none config text a b number last files rows fields d r ∙ no_header (number == 1) config number last d.filed d.said (eq-eqb number 1 one)

all_rows : (first : Bool) (config : Config) (number last : ℕ) (filed : List ℕ) (said : List SaidRow) → first ≡ false → behind said (rows_left first config number last filed []) ≡ Ok said
unfolding rows_from
all_rows true config number last filed said e = cc
all_rows false config number last filed said e = ap Ok (append-nil said)

not_one : (n : ℕ) → (n ≡ 1 → ⊥) → (n == 1) ≡ false
not_one n h = elim (eqb_tells n 1) [ inl t ↦ absurd (h t.1) | inr f ↦ f.0 ]

pub read-whole : (config : Config) (text : List ℕ) (a b : Source) (number last : ℕ) (files : ℕ → ℕ) (rows : List Row) (fields : List (List ℕ)) → IsReadTo config text a number last files rows → ReadRecord told a b false fields → (number ≡ 1 → ⊥) → AreRows config text rows
read-whole config text a b number last files rows fields d r more =
    (d.said, rest-none config text a b number last files rows fields d r ∙ all_rows (number == 1) config number last d.filed d.said (not_one number more), d.means)

-- what a record says is put behind the rows
pub read-on : (said : Option SaidRow) (config : Config) (text : List ℕ) (a b : Source) (number last time : ℕ) (files more : ℕ → ℕ) (rows new : List Row) (fields : List (List ℕ)) → IsReadTo config text a number last files rows → ReadRecord told a b true fields → Ready b → number ≤ 1000001 → said_by (number == 1) config number last files fields ≡ Ok said → IsPut rows new last time said → Counts files more (filed_in said) → b.flexible ≡ a.flexible → IsReadTo config text b (number + 1) time more new
read-on None config text a b number last time files more rows new fields d r ready few e put count same =
    rw (put.0, put.1) (read-header config text a b number last files more rows fields d r ready few e count same)
read-on (Some said) config text a b number last time files more rows new fields d r ready few e put count same =
    rw (put.2, put.3) (read-row config text a b number last files more rows fields said put.0 d r ready few e put.1 count same)

-- an error of a reader that takes any number of fields is want of memory, or of the bytes below it
pub read-short : (config : Config) (text : List ℕ) (a b : Source) (number last : ℕ) (files : ℕ → ℕ) (rows : List Row) (why : ErrorKind) → IsReadTo config text a number last files rows → ExplainsRead told a b false why → IsShortage why
read-short config text a b number last files rows (why.Io e) d x = tt
read-short config text a b number last files rows why.OutOfMemory d x = tt
read-short config text a b number last files rows (why.UnequalLengths pos expected len) d x = let flexible = d.flexible in let not = x.0 in absurd (cc)
read-short config text a b number last files rows (why.Utf8 pos err) d x = let of_text = x.0 in absurd (cc)
read-short config text a b number last files rows (why.Serialize what) d x = absurd x
read-short config text a b number last files rows (why.Deserialize pos err) d x = absurd x
