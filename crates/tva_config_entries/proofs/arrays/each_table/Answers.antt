use Rattle.tva_config_entries.proofs.Common.{◌∙◌, sym, ap, map, map_push, as_table, table_view}
use Rattle.tva_config_entries.proofs.Items.{collects_more, collects_none, collects_all}
use Rattle.tva_config_entries.proofs.arrays.each_table.Goals as goal

pub loop-value-preserved : goal.loop-value-preserved
loop-value-preserved c =
    collects_more as_table (map (λ t. table_view t.now) c.loop-value.found.items) (map (λ t. table_view t.now) c.push.new.self.items)
    c.args.array.now.items c.deref-value-items.result.now c.loop-value.value-index c.value-item.result (table_view c.in-Some.table.now)
    c.deref-value-items.ensures.value c.loop-value-test.true c.value-item.is (sym c.in-Some.ensures)
    (ap (map (λ t. table_view t.now)) c.in_ok-push-in-Some.ensures.items ∙ map_push (λ t. table_view t.now) c.loop-value.found.items c.in-Some.table)
    c.loop-value.invariant

pub returns-in-None : goal.returns-in-None
returns-in-None c =
    collects_none as_table (map (λ t. table_view t.now) c.loop-value.found.items) c.args.array.now.items c.deref-value-items.result.now
    c.loop-value.value-index c.value-item.result c.deref-value-items.ensures.value c.loop-value-test.true c.value-item.is
    (sym c.in-None.ensures) c.loop-value.invariant

pub returns : goal.returns
returns c =
    collects_all as_table (map (λ t. table_view t.now) c.loop-value.found.items) c.args.array.now.items c.deref-value-items.result.now
    c.loop-value.value-index c.deref-value-items.ensures.value c.loop-value-test.false c.loop-value.invariant
