use Rattle.tva_report.proofs.Common.{◌≡◌, ◌+◌, ◌<◌, ◌^◌, sym, ◌∙◌, ap, arith, length, rules, Some, None, place_of}
use Rattle.tva_report.proofs.Adding.{order_tests}
use Rattle.tva_report.proofs.Placing.{IsThere, comes_last, keeps, place-last, there}
use Rattle.tva_report.proofs.pairs.Table.add.Goals as goal
use Rattle.tva_report.proofs.pairs.Table.add.Goals.{In-Some, In-None}

stands : (c : In-Some) → place_of c.args.pair c.args.self.now.sums.items ≡ Some c.in-Some.place
stands c = sym (c.requires.placed c.args.pair) ∙ sym c.get.ensures.value ∙ sym c.copied.ensures ∙ c.in-Some.is

stands_there : (c : In-Some) → IsThere 0 c.in-Some.place c.args.pair c.args.bytes c.args.self.now.sums.items c.in-Some.place
stands_there c = there c.in-Some.place c.args.pair c.args.bytes c.args.self.now.sums.items (stands c)

stands_nowhere : (c : In-None) → place_of c.args.pair c.args.self.now.sums.items ≡ None
stands_nowhere c = sym (c.requires.placed c.args.pair) ∙ sym c.get.ensures.value ∙ sym c.copied.ensures ∙ c.in-None.is

pub index_mut-requires : goal.index_mut-requires
index_mut-requires c =
    let inside = (stands_there (goal.at.index_mut-requires c).In-Some).inside in
    let len = c.args.self.now.sums.ok.0 in
    omega arith

pub overflow_add-index_mut : goal.overflow_add-index_mut
overflow_add-index_mut c =
    let inside = (stands_there (goal.at.overflow_add-index_mut c).In-Some).inside in
    let room = c.requires.room c.in-Some.place c.index_mut.result.now inside in
    let fits : c.index_mut.result.now.1 + c.from.result < 2 ^ 64 = rw (c.from.ensures) (rw (← c.index_mut.ensures.value) at room) in
    search rules

pub returns-in-Some-clause-sums : goal.returns-in-Some-clause-sums
returns-in-Some-clause-sums c =
    let grown = (stands_there (goal.at.returns-in-Some-clause-sums c).In-Some).grown c.index_mut.result.now in
    rw (c.from.ensures) (sym (rw (← c.index_mut.ensures.value) at grown))

pub returns-in-Some-clause-placed : goal.returns-in-Some-clause-placed
returns-in-Some-clause-placed c = λ pair.
    let at = (goal.at.returns-in-Some-clause-placed c).In-Some in
    let grown = (stands_there at).grown c.index_mut.result.now in
    let same = rw (← c.index_mut.ensures.value) at grown in
    c.requires.placed pair
    ∙ sym (keeps 0 c.in-Some.place c.args.pair pair c.args.bytes c.args.self.now.sums.items (stands at))
    ∙ rw (c.from.ensures) (ap (place_of pair) same)

pub returns-in_ok-push-in-None-clause-sums : goal.returns-in_ok-push-in-None-clause-sums
returns-in_ok-push-in-None-clause-sums c =
    let none = stands_nowhere (goal.at.returns-in_ok-push-in-None-clause-sums c).In-None in
    c.in_ok-push-in-None.ensures.items
    ∙ rw (c.from-in-None.ensures) (sym (comes_last 0 c.args.pair c.args.bytes c.args.self.now.sums.items none))

pub returns-in_ok-push-in-None-clause-placed : goal.returns-in_ok-push-in-None-clause-placed
returns-in_ok-push-in-None-clause-placed c = λ pair.
    let sums = c.args.self.now.sums.items in
    let none = stands_nowhere (goal.at.returns-in_ok-push-in-None-clause-placed c).In-None in
    let last = place-last 0 c.args.pair pair c.from-in-None.result sums none in
    let len : c.len.result ≡ 0 + length sums = let k = c.args.self.now.sums.ok.0 in let l = c.len.ensures in omega arith in
    c.in_ok-insert-in-None.ensures.updates.0 pair
    ∙ rw (order_tests c.args.pair pair, c.requires.placed pair, len) (sym last)
    ∙ ap (place_of pair) (sym c.in_ok-push-in-None.ensures.items)
