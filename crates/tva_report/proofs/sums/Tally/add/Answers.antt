use Rattle.tva_report.proofs.Common.{◌<◌, ◌^◌, sym, ◌∙◌, arith, rules, length-append, ◌∷◌, [], sum_by_push}
use Rattle.tva_report.proofs.Adding.{parts-add, sums_more}
use Rattle.tva_report.proofs.sums.Tally.add.Goals as goal

pub returns-clause-sound : goal.returns-clause-sound
returns-clause-sound c =
    let length_is = c.from.ensures in
    let before = c.requires.sound.bounded in
    let short : c.args.length < 2 ^ 32 = search rules in
    let grown = parts-add c.args.pair c.args.length c.args.self.now.bytes c.args.self.now.table.sums.items c.requires.sound.parts in
    record {
      placed = c.in_ok-add.ensures.placed;
      parts = rw (c.in_ok-add.ensures.sums, c.from.ensures) grown;
      bounded = omega arith;
    }

pub returns-clause-stands : goal.returns-clause-stands
returns-clause-stands c = λ restarts cs charged pair length h. record {
  sums = c.in_ok-add.ensures.sums ∙ rw (← pair, ← length, h.sums) (sym (sums_more restarts cs charged));
  charges = let l = h.charges in omega (arith, length-append cs (charged ∷ []));
  bytes = rw (h.bytes, c.from.ensures, ← length) (sym (sum_by_push (λ x. x.length) cs charged));
}
