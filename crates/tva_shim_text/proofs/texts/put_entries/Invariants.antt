use Rattle.tva_shim_text.proofs.Common.{◌≡◌, ◌∷◌, ◌++◌, take, string_bytes, flat_map, entry_word}
use Rattle.tva_shim_text.proofs.texts.put_entries.Given as goal

abbrev pub invariant-loop-entry : goal.invariant-loop-entry
invariant-loop-entry l = string_bytes l.text ≡ string_bytes l.initial.text ++ flat_map (λ x. 44 ∷ entry_word x) (take l.entry-index l.rest)
