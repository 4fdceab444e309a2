use Rattle.tva_gen.proofs.Common.{◌∙◌, ap, arith, hosts_in, generator_of}
use Rattle.std.proofs.lemmas.Grind.{common_steps}
use Rattle.tva_gen.proofs.Whole.{header_alone, header_and_rows}
use Rattle.tva_gen.proofs.text.generate.Goals as goal

pub returns-then-is_empty : goal.returns-then-is_empty
returns-then-is_empty c = header_alone (λ h. h.now) c.in_ok-hosts.hosts.items c.args.config.now c.args.seed c.args.count _ (c.in_ok-hosts.ensures ∙ ap hosts_in c.as_slice.ensures) (grind (arith, common_steps)) c.in_ok-text.ensures.items

pub returns : goal.returns
unfolding generator_of
returns c = header_and_rows (λ h. h.now) c.in_ok-hosts.hosts.items c.args.config.now c.args.seed c.args.count _ _ _ (c.in_ok-hosts.ensures ∙ ap hosts_in c.as_slice.ensures) (grind (arith, common_steps)) c.in_ok-text.ensures.items c.new-words.ensures (rw c.as_slice-2.ensures.value at c.in_ok-put_rows.ensures)
