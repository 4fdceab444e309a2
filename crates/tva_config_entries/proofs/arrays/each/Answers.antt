use Rattle.tva_config_entries.proofs.Common.{◌∙◌, sym}
use Rattle.tva_config_entries.proofs.Items.{collects_more, collects_none, collects_all}
use Rattle.tva_config_entries.proofs.arrays.each.Goals as goal

pub loop-value-preserved : goal.loop-value-preserved
loop-value-preserved g c =
    collects_more g.T.Kind.kind c.loop-value.found.items c.push.new.self.items c.args.array.now.items c.deref-value-items.result.now
    c.loop-value.value-index c.value-item.result c.in-Some.item c.deref-value-items.ensures.value c.loop-value-test.true c.value-item.is
    (sym c.of.ensures ∙ c.in-Some.is) c.in_ok-push-in-Some.ensures.items c.loop-value.invariant

pub returns-in-None : goal.returns-in-None
returns-in-None g c =
    collects_none g.T.Kind.kind c.loop-value.found.items c.args.array.now.items c.deref-value-items.result.now
    c.loop-value.value-index c.value-item.result c.deref-value-items.ensures.value c.loop-value-test.true c.value-item.is
    (sym c.of.ensures ∙ c.in-None.is) c.loop-value.invariant

pub returns : goal.returns
returns g c =
    collects_all g.T.Kind.kind c.loop-value.found.items c.args.array.now.items c.deref-value-items.result.now
    c.loop-value.value-index c.deref-value-items.ensures.value c.loop-value-test.false c.loop-value.invariant
