-- A run has one list of windows.
use Rattle.tva_run.proofs.Common.{◌≡◌, ℕ, ◌+◌, List, [], ◌∷◌, refl, sym, ◌∙◌, ap, ap₂, arith, inl, inr, min, cases_lt, Config, Row, Logs, Window, IsNextWindow, AreWindows, window_length}

module _ (config : Config) (rows : List Row) (logs : Logs) where
  starts_same : (from : ℕ) (a b : Window) → IsNextWindow config rows logs from a → IsNextWindow config rows logs from b → a.0 ≡ b.0
  starts_same from a b h k =
      elim (cases_lt a.0 b.0) [
        | inl l ↦ absurd (k.first a.0 h.later l h.work)
        | inr l ↦ elim (cases_lt b.0 a.0) [
          | inl m ↦ absurd (h.first b.0 k.later m k.work)
          | inr m ↦ omega arith
        ]
      ]

  window_same : (from : ℕ) (a b : Window) → IsNextWindow config rows logs from a → IsNextWindow config rows logs from b → a ≡ b
  window_same from a b h k =
      let start = starts_same from a b h k in
      let end : a.1 ≡ b.1 = h.ends ∙ (ap (λ t. min (t + window_length config) (config.horizon.0 + 1)) start ∙ sym k.ends) in
      ap₂ (λ (s : ℕ) (e : ℕ). (let w : Window = (s, e) in w)) start end

  pub windows_same : (from : ℕ) (xs ys : List Window) → AreWindows config rows logs from xs → AreWindows config rows logs from ys → xs ≡ ys
  windows_same from [] [] h k = refl
  windows_same from [] (b ∷ ys) h k = absurd (h b.0 k.0.later k.0.within k.0.work)
  windows_same from (a ∷ xs) [] h k = absurd (k a.0 h.0.later h.0.within h.0.work)
  windows_same from (a ∷ xs) (b ∷ ys) h k =
      let same = window_same from a b h.0 k.0 in
      ap₂ ◌∷◌ same (windows_same a.1 xs ys h.1 (rw same k.1))
