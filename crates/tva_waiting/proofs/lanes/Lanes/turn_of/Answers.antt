use Rattle.tva_waiting.proofs.Common.{refl, ◌∙◌, Lanes}
use Rattle.tva_waiting.proofs.Held.{waiting_grown}
use Rattle.tva_waiting.proofs.lanes.Lanes.turn_of.Goals as goal

pub returns-in_err-reserve-clause-same : goal.returns-in_err-reserve-clause-same
returns-in_err-reserve-clause-same c =
    let w = c.forget_layouts.new.self in
    let v : Lanes = record { rows = c.reserve.new.self; layouts = c.brief_at.new.layouts; list = w.list; sources = w.sources; heads = w.heads; places = w.places; alloc = w.alloc } in
    let h = waiting_grown w v c.forget_layouts.ensures.0 c.in_ok-what.ensures.grows c.in_err-reserve.ensures.items refl refl refl refl in
    (h.0, h.1 ∙ c.forget_layouts.ensures.1)

pub returns-clause-same : goal.returns-clause-same
returns-clause-same c =
    let w = c.forget_layouts.new.self in
    let v : Lanes = record { rows = c.reserve.new.self; layouts = c.brief_at.new.layouts; list = w.list; sources = w.sources; heads = w.heads; places = w.places; alloc = w.alloc } in
    let h = waiting_grown w v c.forget_layouts.ensures.0 c.in_ok-what.ensures.grows c.in_ok-reserve.ensures.items refl refl refl refl in
    (h.0, h.1 ∙ c.forget_layouts.ensures.1)
