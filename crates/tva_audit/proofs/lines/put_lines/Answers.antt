use Rattle.tva_audit.proofs.Common.{◌∙◌}
use Rattle.tva_audit.proofs.Texts.{each_more, put_more}
use Rattle.tva_audit.proofs.lines.put_lines.Goals as goal

pub loop-event-preserved : goal.loop-event-preserved
loop-event-preserved c =
    let config = c.args.config.now in
    let list = c.args.events.now in
    let i = c.loop-event.event-index in
    record {
      lines = put_more config list i _ c.loop-event.text.items c.as_bytes.result.now c.extend_from_slice.new.self.items c.loop-event-test.true
          c.loop-event.invariant.lines (c.as_bytes.ensures.value ∙ c.deref.ensures.0 ∙ c.line_text.ensures.line) c.in_ok-extend_from_slice.ensures.items;
      printable = each_more config list i _ c.loop-event-test.true c.loop-event.invariant.printable (c.line_text.ensures.printable c.requires.config);
    }
