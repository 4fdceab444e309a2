use Rattle.tva_net.proofs.Common.{◌≡◌, ℕ, ◌<◌, ◌≤◌, List, Err, length, get_or, sym, subst, searched, IsPutAmong}
use Rattle.tva_net.proofs.Places.{put_new, rises_sorted}
use Rattle.tva_net.proofs.due.put_place.Goals as goal

pub returns-in_ok-insert-in-Err : goal.returns-in_ok-insert-in-Err
returns-in_ok-insert-in-Err c =
    let items = c.args.places.now.items in
    let place = c.args.place in
    let at = c.in-Err.at in
    let value : c.deref.result.now ≡ items = c.deref.ensures.value in
    let sorted = subst (λ (xs : List ℕ). (i j : ℕ) → i ≤ j → j < length xs → get_or xs i 0 ≤ get_or xs j 0) (sym value) (rises_sorted items c.requires) in
    let found = searched c.deref.result.now place (Err at) c.in-Err.ensures.position sorted in
    let here = subst (λ (xs : List ℕ). (at ≤ length xs) × ((k : ℕ) → k < at → get_or xs k 0 < place) × ((k : ℕ) → at ≤ k → k < length xs → place < get_or xs k 0)) value found in
    subst (IsPutAmong place items) (sym c.in_ok-insert-in-Err.ensures.items) (put_new items place at c.requires here.0 here.1 here.2)
