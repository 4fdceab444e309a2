use Rattle.tva_waiting.proofs.Common.{arith, nat_tests, rules, add-one, ap₂, ◌*◌, ◌≡◌, ◌≤◌, ◌+◌, length, get_or, set, refl, subst, ◌∙◌, ap, insert, put_in, Lane, Lanes, flight_source, flight_time, with_item, get_or_default}
use Rattle.std.proofs.Common.{◌^◌}
use Rattle.tva_waiting.proofs.Held.{flight_waits, lane_in_order}
use Rattle.tva_waiting.proofs.lanes.Lanes.put_flight.Goals as goal

pub put_in_lane-at-requires-clause-order : goal.put_in_lane-at-requires-clause-order
put_in_lane-at-requires-clause-order c = grind (arith, nat_tests, lane_in_order)

pub returns-then-at-eq0 : goal.returns-then-at-eq0
returns-then-at-eq0 c =
    let w = c.args.self.now in
    let lane : Lane = c.put_in_lane-at.new.lane in
    let v : Lanes = record { rows = w.rows; layouts = w.layouts; list = with_item w.list c.args.place lane; sources = w.sources; heads = c.put.new.self; places = w.places; alloc = w.alloc } in
    let is : c.index_mut.result.now ≡ get_or w.list.items c.args.place lane = c.index_mut.ensures.value ∙ get_or_default w.list.items c.args.place c.index_mut.result.now lane c.requires.lane.within in
    flight_waits w v c.args.place lane c.requires.waiting c.requires.lane.within (c.put_in_lane-at.ensures.same ∙ ap (λ l. l.link) is) refl refl refl refl refl c.put_in_lane-at.result c.args.flight (c.requires.lane.its lane) (search rules)
    (c.put_in_lane-at.ensures.put ∙ ap (λ l. put_in flight_time flight_source c.args.flight l.flights.items) is)
    (c.put_in_lane-at.ensures.at ∙ ap (λ l. insert l.flights.items c.put_in_lane-at.result c.args.flight) is)
    (subst (λ l. c.put_in_lane-at.result ≤ length l.flights.items) is c.put_in_lane-at.ensures.within)
    (λ e. c.put.ensures ∙ ap (λ n. set w.heads (c.args.place + 1) n) (c.key_of.ensures ∙ ap₂ (λ t s. t * 2 ^ 32 + s) (ap (λ t. t.0) c.arrive-time.ensures) (ap (λ n. n + 1) (c.from.ensures ∙ c.link-link.ensures) ∙ add-one c.args.flight.link))) (λ n. absurd (n c.if-at-eq0.true))

pub returns-else-at-eq0 : goal.returns-else-at-eq0
returns-else-at-eq0 c =
    let w = c.args.self.now in
    let lane : Lane = c.put_in_lane-at.new.lane in
    let v : Lanes = record { rows = w.rows; layouts = w.layouts; list = with_item w.list c.args.place lane; sources = w.sources; heads = w.heads; places = w.places; alloc = w.alloc } in
    let is : c.index_mut.result.now ≡ get_or w.list.items c.args.place lane = c.index_mut.ensures.value ∙ get_or_default w.list.items c.args.place c.index_mut.result.now lane c.requires.lane.within in
    flight_waits w v c.args.place lane c.requires.waiting c.requires.lane.within (c.put_in_lane-at.ensures.same ∙ ap (λ l. l.link) is) refl refl refl refl refl c.put_in_lane-at.result c.args.flight (c.requires.lane.its lane) (search rules)
    (c.put_in_lane-at.ensures.put ∙ ap (λ l. put_in flight_time flight_source c.args.flight l.flights.items) is)
    (c.put_in_lane-at.ensures.at ∙ ap (λ l. insert l.flights.items c.put_in_lane-at.result c.args.flight) is)
    (subst (λ l. c.put_in_lane-at.result ≤ length l.flights.items) is c.put_in_lane-at.ensures.within)
    (λ e. absurd (c.if-at-eq0.false e)) (λ n. refl)
