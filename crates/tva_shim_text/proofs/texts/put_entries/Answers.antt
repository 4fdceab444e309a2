use Rattle.tva_shim_text.proofs.Common.{codes, string_bytes, entry_word}
use Rattle.tva_shim_text.proofs.Joins.{put_words}
use Rattle.tva_shim_text.proofs.texts.put_entries.Goals as goal

pub returns : goal.returns
returns c = put_words entry_word c.args.entries.now _ _ (string_bytes c.args.text.now) (codes " entries=") _ _ _ c.in-len1-up.len_at_least c.loop-entry-test.false c.in_ok-push_str.ensures.bytes c.in_ok-put_entry.ensures c.loop-entry.invariant
