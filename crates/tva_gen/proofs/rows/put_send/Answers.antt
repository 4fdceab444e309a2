use Rattle.tva_gen.proofs.Common.{decimal, on_ok_weaker, address_text}
use Rattle.tva_gen.proofs.Lines.{on_ok_put, sent}
use Rattle.tva_gen.proofs.rows.put_send.Goals as goal

pub returns : goal.returns
returns c = on_ok_weaker c.extend_from_slice-2.result (λ e. sent c.args.text.now.items (decimal c.args.time) c.args.from.now.name (address_text c.args.to.now.address) (decimal c.args.payload) _ _ _ _ c.in_ok-put_head.ensures c.in_ok-extend_from_slice.ensures.items c.in_ok-put_goal.ensures e) (on_ok_put c.extend_from_slice-2.result _ _ _ c.extend_from_slice-2.ensures.items)
