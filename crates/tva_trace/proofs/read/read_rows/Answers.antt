use Rattle.tva_trace.proofs.Common.{◌==◌, ◌∙◌, sym, ap, subst, inl, inr, Bool, true, arith, ReadRecord, error_kind, with_flexible, counted}
use Rattle.csv.specs.Records.{fields_of}
use Rattle.tva_trace.specs.Left.{row_where}
use Rattle.tva_trace.proofs.FileCounts.{counts_none}
use Rattle.tva_trace.proofs.Reading.{told, read-start, read-fault, read-on, read-nothing, read-short, read-whole}
use Rattle.tva_trace.proofs.RowsValid.{room_said}
use Rattle.tva_trace.proofs.read.read_rows.Goals as goal

pub records-init : goal.records-init
records-init c =
    let fr = c.from_reader-reader.ensures in
    let e = c.flexible.ensures ∙ ap (λ b. with_flexible b true) c.has_headers.ensures in
    rw c.new-rows.ensures (read-start c.args.config.now c.args.text.now _ (counted c.new-files.result) (counts_none c.new-files.result c.new-files.ensures.empty)
    (rw (e) at fr.trim ∙ c.new.ensures.trim)
    (inr (inr (rw e at fr.has_headers, fr.headers)))
    (rw e at fr.config ∙ c.new.ensures.config)
    fr.source
    fr.state
    (rw e at fr.flexible))

pub shortage-requires : goal.shortage-requires
shortage-requires c =
    let inv = c.records.invariant in
    rw c.kind.ensures (read-short c.args.config.now c.args.text.now c.records.reader c.read_byte_record.new.self c.records.number c.records.last (counted c.records.files) c.records.rows (error_kind c.in-Err.error) inv (c.in-Err.ensures.why inv.is_ready))

pub returns-in-Err-said_into : goal.returns-in-Err-said_into
returns-in-Err-said_into c =
    let inv = c.records.invariant in
    let fields = fields_of c.read_byte_record.new.row in
    let read = subst (λ (b : Bool). ReadRecord told c.records.reader c.read_byte_record.new.self b fields) c.if-not-found.false (c.in-Ok.ensures.reads inv.untrimmed inv.is_ready) in
    read-fault c.args.config.now c.args.text.now c.records.reader c.read_byte_record.new.self c.records.number c.records.last (counted c.records.files) c.records.rows fields c.in-Err-said_into.rule inv read (sym c.in-Err-said_into.ensures.said)

pub records-preserved : goal.records-preserved
records-preserved c =
    let inv = c.records.invariant in
    let fields = fields_of c.read_byte_record.new.row in
    let read = subst (λ (b : Bool). ReadRecord told c.records.reader c.read_byte_record.new.self b fields) c.if-not-found.false (c.in-Ok.ensures.reads inv.untrimmed inv.is_ready) in
    read-on (row_where c.in-Ok-said_into.is_row c.said_into.new.said) c.args.config.now c.args.text.now c.records.reader c.read_byte_record.new.self c.records.number c.records.last c.in-Ok-put_row.time (counted c.records.files) (counted c.put_row.new.files) c.records.rows c.put_row.new.rows fields inv read
    (inl (c.in-Ok.ensures.ready inv.untrimmed)) c.in-Ok-said_into.ensures.few (sym c.in-Ok-said_into.ensures.said) c.in-Ok-put_row.ensures.put c.in-Ok-put_row.ensures.counts c.in-Ok.ensures.flexible

pub put_row-requires : goal.put_row-requires
put_row-requires c =
    let fields = fields_of c.read_byte_record.new.row in
    room_said (c.records.number == 1) c.args.config.now c.records.number c.records.last (counted c.records.files) fields (row_where c.in-Ok-said_into.is_row c.said_into.new.said) (sym c.in-Ok-said_into.ensures.said)

pub records-smaller : goal.records-smaller
records-smaller c = omega (arith, c.in-Ok-said_into.ensures.few)

pub returns-then-number-eq1 : goal.returns-then-number-eq1
returns-then-number-eq1 c =
    let inv = c.records.invariant in
    let fields = fields_of c.read_byte_record.new.row in
    let read = subst (λ (b : Bool). ReadRecord told c.records.reader c.read_byte_record.new.self b fields) c.if-not-found.true (c.in-Ok.ensures.reads inv.untrimmed inv.is_ready) in
    read-nothing c.args.config.now c.args.text.now c.records.reader c.read_byte_record.new.self c.records.number c.records.last (counted c.records.files) c.records.rows fields inv read c.if-number-eq1.true

pub returns-then-not-found : goal.returns-then-not-found
returns-then-not-found c =
    let inv = c.records.invariant in
    let fields = fields_of c.read_byte_record.new.row in
    let read = subst (λ (b : Bool). ReadRecord told c.records.reader c.read_byte_record.new.self b fields) c.if-not-found.true (c.in-Ok.ensures.reads inv.untrimmed inv.is_ready) in
    read-whole c.args.config.now c.args.text.now c.records.reader c.read_byte_record.new.self c.records.number c.records.last (counted c.records.files) c.records.rows fields inv read c.if-number-eq1.false
