use Rattle.tva_node.proofs.Common.{rules, ◌≡◌, ℕ, ◌<◌, ◌≤◌, List, Option, Some, length, map, sym, subst, ◌∙◌, ap, arith, get_or_default, links_of, AreRising, Link, asked_by, with_next, link_pair}
use Rattle.tva_node.proofs.Asked.{asked_no_rank, asked_nothing, asked_rank}
use Rattle.tva_node.proofs.links.Links.ask.Goals as goal
use Rattle.tva_node.proofs.links.Links.ask.Goals.{else-place-len-via-then-place-len+else-index-number, else-place-len-via-else-place-len}

pub returns-in_default : goal.returns-in_default
returns-in_default c = subst (λ (o : Option ℕ). c.args.self.now ≡ map (asked_by o c.args.now) c.args.self.now) (sym c.in_default.is) (sym (asked_nothing c.args.now c.args.self.now))

pub returns-then-index-number : goal.returns-then-index-number
returns-then-index-number c =
    let items = c.self.inside.items.items in
    let place = c.rank_of-place.result in
    let x = c.index.result.now in
    let rising = subst (λ (ls : List Link). AreRising (links_of (map link_pair ls))) (sym c.self.view_is) c.requires in
    let within : place < length items = search (rules, c.if-place-len.true, c.len.ensures) in
    let queued = sym c.in-Some.is in
    c.put.ensures x
    ∙ subst (λ (o : Option ℕ). with_next place (Some c.args.now) c.args.self.now x ≡ map (asked_by o c.args.now) c.args.self.now) queued
    (subst (λ (ls : List Link). with_next place (Some c.args.now) ls x ≡ map (asked_by (Some c.in-Some.number) c.args.now) ls) c.self.view_is
    (asked_rank c.in-Some.number c.args.now items place x within rising c.index.ensures c.if-index-number.true x))

pub returns-else-place-len : goal.returns-else-place-len
returns-else-place-len c =
    let items = c.self.inside.items.items in
    let place = c.rank_of-place.result in
    let rising = subst (λ (ls : List Link). AreRising (links_of (map link_pair ls))) (sym c.self.view_is) c.requires in
    subst (λ (o : Option ℕ). c.args.self.now ≡ map (asked_by o c.args.now) c.args.self.now) (sym c.in-Some.is)
    (subst (λ (ls : List Link). ls ≡ map (asked_by (Some c.in-Some.number) c.args.now) ls) c.self.view_is
    (asked_no_rank c.in-Some.number c.args.now items place c.rank_of-place.ensures rising
    (λ d l e. elim c.else-place-len.branch [
      | else-place-len-via-then-place-len+else-index-number w ↦
          w.if-index-number.false (ap (λ (y : Link). y.number) (w.index.ensures ∙ get_or_default items place w.index.result.now d l) ∙ e)
      | else-place-len-via-else-place-len w ↦
          let short : length items ≤ place = search (rules, w.if-place-len.false, c.len.ensures) in
          absurd (omega (arith, l, short))
    ])))
