use Rattle.tva_config_entries.proofs.Common.{◌∙◌, ap, drop, map, drop_all, table_view, at, table_entries, entry_step}
use Rattle.tva_config_entries.proofs.InTurn.{next_at, continues_more, continues_ends, one_longer}
use Rattle.tva_config_entries.proofs.top.entries.Goals as goal

pub loop-i-preserved : goal.loop-i-preserved
loop-i-preserved g c =
    let tables = c.args.tables.now in
    let i = c.loop-i.i in
    let done = c.loop-i.read.items in
    let table = c.index-tables-i.result in
    record {
      read = continues_more (entry_step c.args.kind (g.T.Entry.entry_of c.args.version)) done c.push.new.self.items (map (λ t. table_view t.now) (drop i tables)) _
          (map (λ t. table_view t.now) tables) (table_view table.now) c.in_ok-read.field-0
          (ap (map (λ t. table_view t.now)) (next_at tables i table c.loop-i-test.true c.index-tables-i.is))
          (ap (λ n. g.T.Entry.entry_of c.args.version (at c.args.kind n) (table_view table.now)) c.loop-i.invariant.count ∙ c.in_ok-read.ensures)
          c.in_ok-push.ensures.items c.loop-i.invariant.read;
      count = one_longer done c.push.new.self.items c.in_ok-read.field-0 i c.in_ok-push.ensures.items c.loop-i.invariant.count;
    }

pub returns-clause-answer : goal.returns-clause-answer
unfolding table_entries
returns-clause-answer g c =
    continues_ends (entry_step c.args.kind (g.T.Entry.entry_of c.args.version)) c.loop-i.read.items (map (λ t. table_view t.now) (drop c.loop-i.i c.args.tables.now))
    (map (λ t. table_view t.now) c.args.tables.now)
    (ap (map (λ t. table_view t.now)) (drop_all c.loop-i.i c.args.tables.now c.loop-i-test.false)) c.loop-i.invariant.read
