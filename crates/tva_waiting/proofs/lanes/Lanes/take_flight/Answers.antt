use Rattle.tva_waiting.proofs.Common.{nat_tests, ◌≡◌, ◌-◌, map, get_or, set, refl, sym, ◌∙◌, ap, arith, get_or-set_same, arrived, head_of, Lanes, with_item, get_or_default}
use Rattle.tva_waiting.proofs.Held.{flight_taken, lane_next}
use Rattle.tva_waiting.proofs.lanes.Lanes.take_flight.Goals as goal

pub overflow_sub-place : goal.overflow_sub-place
overflow_sub-place c = let k = lane_next c.args.self.now c.next-place.result c.requires.waiting c.next-place.ensures.some c.next-place.ensures.none c.requires.waits c.requires.flight in omega (arith, k.0)

pub index_mut-requires : goal.index_mut-requires
index_mut-requires c = grind (arith, nat_tests, lane_next)

pub take_first-flight-requires : goal.take_first-flight-requires
take_first-flight-requires c = grind (arith, nat_tests, lane_next)

pub overflow_sub-place-2 : goal.overflow_sub-place-2
overflow_sub-place-2 c = let k = lane_next c.args.self.now c.next-place.result c.requires.waiting c.next-place.ensures.some c.next-place.ensures.none c.requires.waits c.requires.flight in omega (arith, k.0)

pub index-requires : goal.index-requires
index-requires c = grind (arith, nat_tests, lane_next)

pub returns : goal.returns
returns c =
    let w = c.args.self.now in
    let p = c.next-place.result in
    let lane = c.take_first-flight.new.lane in
    let k = lane_next w p c.requires.waiting c.next-place.ensures.some c.next-place.ensures.none c.requires.waits c.requires.flight in
    let v : Lanes = record { rows = w.rows; layouts = w.layouts; list = with_item w.list (p - 1) lane; sources = w.sources; heads = c.put.new.self; places = w.places; alloc = w.alloc } in
    let is : c.index_mut.result.now ≡ get_or w.list.items (p - 1) lane = c.index_mut.ensures.value ∙ get_or_default w.list.items (p - 1) c.index_mut.result.now lane k.1 in
    let there : c.index.result.now ≡ lane = c.index.ensures ∙ get_or-set_same w.list.items (p - 1) lane c.index.result.now k.1 in
    flight_taken w v (p - 1) lane c.requires.waiting k.1 (c.take_first-flight.ensures.same ∙ ap (λ l. l.link) is) refl refl refl refl refl p c.take_first-flight.result (omega (arith, k.0)) c.next-place.ensures.some (sym (ap (λ l. l.flights.items) is) ∙ c.take_first-flight.ensures.taken)
    (c.put.ensures ∙ ap (λ n. set w.heads p n) (c.flights_head-head.ensures ∙ ap (λ l. head_of (map arrived l.flights.items)) there))
