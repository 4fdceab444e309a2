use Rattle.tva_waiting.proofs.Common.{arith, nat_tests, rules, ◌≡◌, ◌+◌, ◌++◌, ◌∷◌, [], None, refl, sym, ◌∙◌, ap, place_in, ring, sorted, input_source, input_time, all_in, Lane, queues_of, sources_of, Lanes}
use Rattle.tva_waiting.proofs.Held.{lane_found, lane_made}
use Rattle.tva_waiting.proofs.lanes.Lanes.lane_of.Goals as goal

pub returns-in-Some-clause-there : goal.returns-in-Some-clause-there
returns-in-Some-clause-there c = grind (arith, nat_tests, lane_found)

pub returns-clause-same : goal.returns-clause-same
returns-clause-same c =
    let w = c.make_room.new.self in
    let lane : Lane = record { link = c.args.link; flights = c.new.result; most = 0 } in
    let v : Lanes = record { rows = w.rows; layouts = w.layouts; list = c.push.new.self; sources = c.push-2.new.self; heads = w.heads; places = w.places; alloc = w.alloc } in
    let key : c.from-source.result + 1 ≡ c.args.link + 1 = ap (λ n. n + 1) c.from-source.ensures in
    let new : place_in (c.args.link + 1) (sources_of w.list.items) ≡ None =
    ap (λ ls. place_in (c.args.link + 1) (sources_of ls.items)) c.make_room.ensures.same.2
    ∙ (ap (λ n. place_in n (sources_of c.args.self.now.list.items)) (sym key) ∙ (ap (λ r. place_in (c.from-source.result + 1) r.keys) (sym c.requires.sources) ∙ (sym c.place.ensures ∙ c.in_default.is))) in
    let h = lane_made w v c.args.link lane c.make_room.ensures.waiting new (search rules) refl c.new.ensures.items c.in_ok-make_room.ensures.room refl refl c.in_ok-push.ensures.items (c.push-2.ensures ∙ ap (λ n. ring w.sources.places (w.sources.keys ++ n ∷ [])) key) refl refl in (
      h.0,
      h.1
          ∙ (ap (λ ls. sorted input_time input_source (all_in (queues_of c.make_room.new.self.layouts.items c.make_room.new.self.rows.items ls.items))) c.make_room.ensures.same.2
          ∙ (ap (λ ls. sorted input_time input_source (all_in (queues_of ls.items c.make_room.new.self.rows.items c.args.self.now.list.items))) c.make_room.ensures.same.1
          ∙ ap (λ ts. sorted input_time input_source (all_in (queues_of c.args.self.now.layouts.items ts.items c.args.self.now.list.items))) c.make_room.ensures.same.0)),
    )
