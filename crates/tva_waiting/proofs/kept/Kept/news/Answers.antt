use Rattle.tva_waiting.proofs.Common.{◌≡◌, ◌+◌, ◌-◌, ◌++◌, drop, length, sym, ap, ◌∙◌, arith, take_all, length-drop, drop-append-add}
use Rattle.tva_waiting.specs.Behind.{all_behind}
use Rattle.tva_waiting.proofs.kept.Kept.news.Goals as goal

pub returns : goal.returns
returns g c =
    let past = all_behind c.self.inside.past.value in
    let held = c.deref.result.now in
    let here = c.self.inside.told - c.self.inside.gone in
    let counted = c.self.invariant.0 in
    let late = c.self.invariant.2 in
    let whole : c.args.self.now.all ≡ past ++ held =
    ap (λ k. k.all) (sym c.self.view_is) ∙ ap (λ xs. past ++ xs) (sym c.deref.ensures.value) in
    let seam : c.self.inside.told ≡ length past + here = omega arith in
    let all_of_it = length-drop here held in
    take_all (length held - here) (drop here held) (omega arith)
    ∙ sym (ap (drop c.args.self.now.told) whole ∙ (ap (λ n. drop n (past ++ held)) (sym (ap (λ k. k.told) c.self.view_is) ∙ seam) ∙ drop-append-add past held here))
