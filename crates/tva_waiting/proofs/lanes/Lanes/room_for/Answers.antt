use Rattle.tva_waiting.proofs.Common.{◌≡◌, get_or, refl, ◌∙◌, ap, Lane, Lanes, with_item, get_or_default}
use Rattle.tva_waiting.proofs.Held.{same_flights}
use Rattle.tva_waiting.proofs.lanes.Lanes.room_for.Goals as goal

pub returns-in_err-reserve-clause-same : goal.returns-in_err-reserve-clause-same
returns-in_err-reserve-clause-same c =
    let w = c.lane_of.new.self in
    let place = c.in_ok-place.place in
    let lane : Lane = record { link = c.index_mut.result.now.link; flights = c.reserve.new.self; most = c.index_mut.result.now.most } in
    let v : Lanes = record { rows = w.rows; layouts = w.layouts; list = with_item w.list place lane; sources = w.sources; heads = w.heads; places = w.places; alloc = w.alloc } in
    let is : c.index_mut.result.now ≡ get_or w.list.items place lane = c.index_mut.ensures.value ∙ get_or_default w.list.items place c.index_mut.result.now lane c.in_ok-place.ensures.there.within in
    let h = same_flights w v place lane c.lane_of.ensures.same.0 c.in_ok-place.ensures.there.within (ap (λ l. l.link) is) refl refl refl refl refl (c.in_err-reserve.ensures.items ∙ ap (λ l. l.flights.items) is) refl in
    (h.0, h.1 ∙ c.lane_of.ensures.same.1)

pub returns-clause-same : goal.returns-clause-same
returns-clause-same c =
    let w = c.lane_of.new.self in
    let place = c.in_ok-place.place in
    let lane : Lane = record { link = c.index_mut.result.now.link; flights = c.reserve.new.self; most = c.index_mut.result.now.most } in
    let v : Lanes = record { rows = w.rows; layouts = w.layouts; list = with_item w.list place lane; sources = w.sources; heads = w.heads; places = w.places; alloc = w.alloc } in
    let is : c.index_mut.result.now ≡ get_or w.list.items place lane = c.index_mut.ensures.value ∙ get_or_default w.list.items place c.index_mut.result.now lane c.in_ok-place.ensures.there.within in
    let h = same_flights w v place lane c.lane_of.ensures.same.0 c.in_ok-place.ensures.there.within (ap (λ l. l.link) is) refl refl refl refl refl (c.in_ok-reserve.ensures.items ∙ ap (λ l. l.flights.items) is) refl in
    (h.0, h.1 ∙ c.lane_of.ensures.same.1)
