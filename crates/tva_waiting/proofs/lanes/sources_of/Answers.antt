use Rattle.tva_waiting.proofs.Common.{nat_tests, rules, ◌≡◌, ◌<◌, ◌+◌, ◌++◌, ◌∷◌, [], ℕ, List, suc, length, map, take, get_or, sym, ◌∙◌, ap, ap₂, arith, take-suc, take-length, get_or-map, length-map, place_in, ring, Lane, length-take}
use Rattle.tva_waiting.proofs.Held.{source_new}
use Rattle.tva_waiting.proofs.lanes.sources_of.Goals as goal

pub push-requires-in-loop-place-clause-new : goal.push-requires-in-loop-place-clause-new
push-requires-in-loop-place-clause-new c =
    let key : c.from.result + 1 ≡ (get_or c.args.list.now.items c.loop-place.place c.index.result.now).link + 1 = ap (λ n. n + 1) (c.from.ensures ∙ ap (λ (l : Lane). l.link) c.index.ensures) in
    ap₂ place_in key (ap (λ r. r.keys) c.loop-place.invariant) ∙ source_new c.args.list.now.items c.loop-place.place c.index.result.now c.requires.apart (search rules)

pub push-requires-in-loop-place-clause-room : goal.push-requires-in-loop-place-clause-room
push-requires-in-loop-place-clause-room c = grind (arith, nat_tests, length-take)

pub loop-place-preserved : goal.loop-place-preserved
loop-place-preserved c =
    let lanes = c.args.list.now.items in
    let links = map (λ (lane : Lane). lane.link + 1) lanes in
    let within : c.loop-place.place < length lanes = search rules in
    let many : c.loop-place.place < length links = (let m = length-map lanes (λ (lane : Lane). lane.link + 1) in omega (arith, m, within)) in
    let key : c.from.result + 1 ≡ get_or links c.loop-place.place 0 = ap (λ n. n + 1) (c.from.ensures ∙ ap (λ (l : Lane). l.link) c.index.ensures) ∙ sym (get_or-map (λ (lane : Lane). lane.link + 1) lanes c.loop-place.place c.index.result.now 0 within) in
    let next : suc c.loop-place.place ≡ c.loop-place.place + 1 = omega arith in
    c.push-in-loop-place.ensures
    ∙ ap₂ ring (ap (λ r. r.places) c.loop-place.invariant)
    (ap (λ r. r.keys ++ (c.from.result + 1) ∷ []) c.loop-place.invariant
    ∙ (ap (λ n. 0 ∷ (take c.loop-place.place links ++ n ∷ [])) key
    ∙ ap (λ (ns : List ℕ). 0 ∷ ns) (sym (take-suc links c.loop-place.place 0 many) ∙ ap (λ n. take n links) next)))

pub returns : goal.returns
returns c =
    let links = map (λ (lane : Lane). lane.link + 1) c.args.list.now.items in
    let all : c.loop-place.place ≡ length links = (let m = length-map c.args.list.now.items (λ (lane : Lane). lane.link + 1) in let k : c.loop-place.place ≡ length c.args.list.now.items = search rules in k ∙ sym m) in
    c.loop-place.invariant ∙ ap (λ (ns : List ℕ). ring c.args.places (0 ∷ ns)) (ap (λ n. take n links) all ∙ take-length links)
