use Rattle.tva_rows.proofs.Common.{◌∙◌, ap, err_from_is_err_and, rows_in, what_in}
use Rattle.std.specs.Prelude.{refl}
use Rattle.tva_rows.proofs.Packing.{grown_same, pushed_held, pushed_same}
use Rattle.tva_rows.proofs.packed.PackedRows.push_raw.Goals as goal

pub returns-in_err-push-clause-err : goal.returns-in_err-push-clause-err
returns-in_err-push-clause-err c =
    let rows = c.self.inside.rows.items in
    let p = err_from_is_err_and c.from_residual-in_err-push.result c.from_residual-in_err-push.ensures.1 in
    rw p.1 (ap (rows_in c.brief_raw.new.layouts.items) c.in_err-push.ensures.items ∙ grown_same c.self.inside.layouts.items c.brief_raw.new.layouts.items rows c.in_ok-what.ensures.grows c.self.invariant ∙ c.self.view_is)

pub invariant_of-self-2 : goal.invariant_of-self-2
invariant_of-self-2 c =
    pushed_held c.self.inside.layouts.items c.brief_raw.new.layouts.items _ _ (record { time = c.args.time; what = c.in_ok-what.what; node = c.args.node })
    c.in_ok-what.ensures.grows c.self.invariant c.in_ok-what.ensures.held c.in_ok-push.ensures.items

pub returns-clause-ok : goal.returns-clause-ok
returns-clause-ok c =
    let new = c.brief_raw.new.layouts.items in (
      what_in new c.in_ok-what.what,
      c.in_ok-what.ensures.means,
      pushed_same c.self.inside.layouts.items new _ _ (record { time = c.args.time; what = c.in_ok-what.what; node = c.args.node })
          (what_in new c.in_ok-what.what) _ c.in_ok-what.ensures.grows c.self.invariant refl c.in_ok-push.ensures.items c.self.view_is,
    )
