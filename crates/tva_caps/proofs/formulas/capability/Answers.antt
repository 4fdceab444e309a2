-- The value is stamped over what was hashed, piece by piece.
use Rattle.tva_caps.proofs.Common.{◌∙◌, refl, capability_of}
use Rattle.tva_caps.proofs.formulas.capability.Goals as goal

pub returns : goal.returns
unfolding capability_of
returns c =
    let held = c.update-2.ensures _ (c.hash_units.ensures _ (c.update.ensures _ c.new-hasher.ensures)) in
    c.stamped_value.ensures _ held ∙ rw (c.write_u64.ensures, c.stamp_shown.ensures) refl
