use Rattle.tva_audit.proofs.Common.{List, All, ◌++◌, sym, subst, Event, HasEvent}
use Rattle.tva_audit.proofs.Worked.{comes, each_shown, named}
use Rattle.tva_audit.proofs.lines.step_and_put.Goals as goal

pub step_beside-requires-clause-other : goal.step_beside-requires-clause-other
step_beside-requires-clause-other g c κs within =
    let config = c.args.config.now in
    let b = c.requires.behind in (
      c.requires.config,
      subst (λ (es : List Event). All (HasEvent config) es) (sym c.shown-list.ensures)
          (each_shown (HasEvent config) c.args.silent c.args.events.now (named config b.0 b.1 c.args.events.now c.args.net.now b.2)),
    )

pub returns-clause-known : goal.returns-clause-known
returns-clause-known g c =
    let b = c.requires.behind in
    named c.args.config.now b.0 b.1 c.args.events.now c.args.net.now b.2

pub returns-clause-comes : goal.returns-clause-comes
returns-clause-comes g c = λ rows told b.
    comes c.args.config.now rows (told ++ c.args.events.now) c.args.net.now c.step_beside.new.self c.step_beside.result.0
    c.step_beside.ensures.gives c.step_beside.ensures.refuses b.windows b.stands
