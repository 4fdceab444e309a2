use Rattle.tva_report.proofs.Common.{◌≡◌, ℕ, List, ◌++◌, drop, length, sym, refl, ap, ◌∙◌, starts_is}
use Rattle.std.proofs.lemmas.Bool.Decides.{Decides-eqb}
use Rattle.tva_report.proofs.Cuts.{slice_from}
use Rattle.tva_report.proofs.pieces.Pieces.pass.Goals as goal

pub returns-then-begins_with-clause-passed : goal.returns-then-begins_with-clause-passed
returns-then-begins_with-clause-passed c =
    let rest = c.self.inside.rest.now in
    let text = c.args.text.now in
    let begins : rest ≡ text ++ drop (length text) rest = (starts_is Decides-eqb rest text c.begins_with.result c.begins_with.ensures).0 c.if-begins_with.true in
    λ e. rw (← c.self.view_is) (record { bytes = begins ∙ ap (λ (t : List ℕ). text ++ t) (sym (slice_from rest (length text))); number = refl })
