-- Bytes have one text.
use Rattle.tva_shim_text.proofs.Common.{◌≡◌, ◌⊎◌, inl, inr, ℕ, List, refl, sym, ap, ◌∙◌, IsTextOf, shim_line}
use Rattle.std.specs.Prelude.{codes}
use Rattle.tva_shim.specs.Shims.{ShimData, IsShim}
use Rattle.tva_shim.specs.Layout.{HaveNoShim, layout}
use Rattle.tva_shim.proofs.Readable.{one_shim, shim_or_none}

pub text_is_one : (bytes text other : List ℕ) → IsTextOf bytes text → IsTextOf bytes other → text ≡ other
text_is_one bytes text other (inl s) (inl t) = s.3 ∙ ap shim_line (one_shim s.0 t.0 s.1 t.1 (s.2 ∙ sym t.2)) ∙ sym t.3
text_is_one bytes text other (inl s) (inr n) = absurd (n.0 s.0 s.1 s.2)
text_is_one bytes text other (inr n) (inl t) = absurd (n.0 t.0 t.1 t.2)
text_is_one bytes text other (inr n) (inr m) = n.1 ∙ sym m.1

text_if : (bytes : List ℕ) → ((s : ShimData) × IsShim s × (layout s ≡ bytes)) ⊎ HaveNoShim bytes → (text : List ℕ) × IsTextOf bytes text
text_if bytes (inl s) = (shim_line s.0, inl (s.0, s.1, s.2, refl))
text_if bytes (inr none) = (codes "malformed", inr (none, refl))

pub text_there : (bytes : List ℕ) → (text : List ℕ) × IsTextOf bytes text
text_there bytes = text_if bytes (shim_or_none bytes)
