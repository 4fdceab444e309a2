use Rattle.tva_audit.proofs.Common.{◌≡◌, ◌<◌, ℕ, List, ◌++◌, ◌∷◌, [], length, get_or, set, sym, subst, arith, Time, from_source, event_node, charges_in, StandsFor, AreTallied, restarts_at}
use Rattle.tva_audit.proofs.Tallied.{ready_after, told_after}
use Rattle.tva_audit.proofs.tallies.tell_one.Goals as goal

pub returns-clause-ready : goal.returns-clause-ready
returns-clause-ready c = λ more h.
    let place = c.from-place.result in
    let inside : place < length c.args.tallies.now = omega (arith, c.from-place.ensures, c.requires.known, c.requires.ready.count) in
    ready_after c.args.config.now c.args.tallies.now place c.tell.new.self more inside h c.in_ok-tell.ensures.sound
    (c.in_ok-tell.ensures.few more (h.room place c.index-tallies-place.result inside))

pub returns-clause-told : goal.returns-clause-told
returns-clause-told c = λ told h.
    let config = c.args.config.now in
    let e = c.args.event.now in
    let tallies = c.args.tallies.now in
    let d = c.index-tallies-place.result in
    let place : c.from-place.result ≡ e.node = c.from-place.ensures in
    let inside : e.node < length tallies = omega (arith, c.requires.known, c.requires.ready.count) in
    let before = from_source event_node e.node told in
    let restarts = c.restarts_at-restarts.ensures.are in
    let old : StandsFor (get_or tallies c.from-place.result d) c.restarts_at-restarts.result.now (charges_in before) =
    subst (λ (rs : List (Time × List ℕ)). StandsFor (get_or tallies c.from-place.result d) rs (charges_in before)) (sym restarts)
    (subst (λ (k : ℕ). StandsFor (get_or tallies k d) (restarts_at config e.node) (charges_in before)) (sym place) (h.each e.node d inside)) in
    let new = subst (λ (rs : List (Time × List ℕ)). StandsFor c.tell.new.self rs (charges_in (before ++ e ∷ []))) restarts (c.in_ok-tell.ensures.stands before old) in
    subst (λ (k : ℕ). AreTallied config (told ++ e ∷ []) (set tallies k c.tell.new.self)) (sym place)
    (told_after config told e tallies c.tell.new.self inside h c.in_ok-tell.ensures.sound new)
