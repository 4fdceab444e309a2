use Rattle.tva_report.proofs.Common.{◌≡◌, ◌++◌, ◌∷◌, [], List, refl, sym, ◌∙◌, Some, None, append-nil, filter_map-append, Event, Charged, charged_in, charges_in}
use Rattle.tva_report.proofs.sums.Tally.tell.Goals as goal

told_some : (events : List Event) (event : Event) (charged : Charged) → charged_in event ≡ Some charged → charges_in (events ++ event ∷ []) ≡ charges_in events ++ charged ∷ []
told_some events event charged h = filter_map-append charged_in events (event ∷ []) ∙ rw h refl

told_none : (events : List Event) (event : Event) → charged_in event ≡ None → charges_in (events ++ event ∷ []) ≡ charges_in events
told_none events event h = filter_map-append charged_in events (event ∷ []) ∙ rw (h, append-nil) refl

pub returns-in-Some-clause-stands : goal.returns-in-Some-clause-stands
returns-in-Some-clause-stands c = λ events h.
    rw (told_some events c.args.event.now c.in-Some.charged (sym c.in-Some.ensures))
    (c.add.ensures.stands c.args.restarts.now (charges_in events) c.in-Some.charged (rw (c.boot_among-boot.ensures) refl) refl h)

pub returns-in-None-clause-stands : goal.returns-in-None-clause-stands
returns-in-None-clause-stands c = λ events h.
    rw (told_none events c.args.event.now (sym c.in-None.ensures)) h
