use Rattle.tva_rows.proofs.Common.{◌∙◌, List, ap, subst, sym, err_from_is_err_and, BriefRow, AreHeld, rows_in}
use Rattle.tva_shim.specs.declared.packets.Carried.TheVariants as carried
use Rattle.tva_rows.specs.declared.rows.RowWhat.TheVariants as asks
use Rattle.tva_rows.proofs.Packing.{grown_hold, grown_same, pushed_held, pushed_same}
use Rattle.tva_rows.proofs.packed.PackedRows.push_shim.Goals as goal

pub invariant_of-self-in_err-push : goal.invariant_of-self-in_err-push
invariant_of-self-in_err-push c =
    let old = c.self.inside.layouts.items in
    let new = c.brief_shim.new.layouts.items in
    let rows = c.self.inside.rows.items in
    subst (λ (rs : List BriefRow). AreHeld new rs) (sym c.in_err-push.ensures.items) (grown_hold old new rows c.in_ok-what.ensures.grows c.self.invariant)

pub returns-in_err-push-clause-err : goal.returns-in_err-push-clause-err
returns-in_err-push-clause-err c =
    let rows = c.self.inside.rows.items in
    let p = err_from_is_err_and c.from_residual-in_err-push.result c.from_residual-in_err-push.ensures.1 in
    rw p.1 (ap (rows_in c.brief_shim.new.layouts.items) c.in_err-push.ensures.items ∙ grown_same c.self.inside.layouts.items c.brief_shim.new.layouts.items rows c.in_ok-what.ensures.grows c.self.invariant ∙ c.self.view_is)

pub invariant_of-self-2 : goal.invariant_of-self-2
invariant_of-self-2 c =
    pushed_held c.self.inside.layouts.items c.brief_shim.new.layouts.items _ _ (record { time = c.args.time; what = c.in_ok-what.what; node = c.args.node })
    c.in_ok-what.ensures.grows c.self.invariant c.in_ok-what.ensures.held c.in_ok-push.ensures.items

pub returns-clause-ok : goal.returns-clause-ok
returns-clause-ok c =
    pushed_same c.self.inside.layouts.items c.brief_shim.new.layouts.items _ _ (record { time = c.args.time; what = c.in_ok-what.what; node = c.args.node })
    (asks.Inject c.args.flow c.args.payload (carried.Shim c.args.shim.now)) _ c.in_ok-what.ensures.grows c.self.invariant c.in_ok-what.ensures.same c.in_ok-push.ensures.items c.self.view_is
