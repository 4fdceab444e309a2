use Rattle.tva_shim_text.proofs.Common.{codes, string_bytes, digits_of}
use Rattle.tva_shim_text.proofs.Joins.{put_words}
use Rattle.tva_shim_text.proofs.texts.put_caps.Goals as goal

pub returns : goal.returns
returns c = put_words (digits_of 8) c.args.caps.now 0 _ (string_bytes c.args.text.now) (codes " caps=") _ _ _ c.in-len1-up.len_at_least c.loop-cap-test.false c.in_ok-push_str.ensures.bytes c.in_ok-put_cap.ensures c.loop-cap.invariant
