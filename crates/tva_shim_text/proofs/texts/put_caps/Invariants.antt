use Rattle.tva_shim_text.proofs.Common.{◌≡◌, ◌∷◌, ◌++◌, take, string_bytes, flat_map, digits_of}
use Rattle.tva_shim_text.proofs.texts.put_caps.Given as goal

abbrev pub invariant-loop-cap : goal.invariant-loop-cap
invariant-loop-cap l = string_bytes l.text ≡ string_bytes l.initial.text ++ flat_map (λ x. 44 ∷ digits_of 8 x) (take l.cap-index l.rest)
