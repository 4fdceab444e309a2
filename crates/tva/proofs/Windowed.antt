-- The replay of rows, window by window.
use Rattle.tva.proofs.Common.{◌≡◌, ◌≤◌, ℕ, List, ◌++◌, length, Result, Ok, Err, refl, sym, ap, ◌∙◌, subst, inl, inr, take-length, flat_map-append, Rose, Event, Config, Row, line_of, summary_of, IsReport, lines_of, report_of, totals_of, HasReport, IsBegun, NetError, IsNext, IsReplayed, IsWritten, ended_by, Done, WriteFault, OutOfMemory}
use Rattle.tva_base.specs.declared.event.Totals.{Totals}
use Rattle.tva_net.specs.Nets.{NetState}
use Rattle.tva_net.specs.declared.kinds.NetError.TheVariants as error
use Rattle.tva_net.specs.declared.kinds.Window.{Window}
use Rattle.tva_net.specs.declared.kinds.Window.TheVariants.{Ended}
use Rattle.tva_audit.specs.Worked.{Comes}
use Rattle.tva.specs.declared.status.Status as status
use Rattle.tva.proofs.Pieces.{written_both}

module _ (plan : Config) (rows : List Row) where
  -- the lines of what was told are written
  abbrev pub Wrote : List ℕ → List ℕ → List Event → Type 0
  Wrote old now told = now ≡ old ++ lines_of plan told

  -- writing them ends so
  abbrev pub Writes : List ℕ → List ℕ → Type 0 → status.Status → List Event → Type 0
  Writes old now rose s told = IsWritten old now rose (lines_of plan told) s

  pub writes_more : (old mid after : List ℕ) (first between now : ℕ) (list : List Event) (s : status.Status) → first ≤ between
      → IsWritten mid after (Rose between now) (lines_of plan list) s → (told : List Event) → Wrote old mid told → Writes old after (Rose first now) s (told ++ list)
  writes_more old mid after first between now list s later w told written =
      subst (λ (t : List ℕ). IsWritten old after (Rose first now) t s) (sym (flat_map-append (line_of plan) told list))
      (written_both old mid after first between now (lines_of plan told) (lines_of plan list) s written later w)

  -- they are written whole
  pub wrote : (old now : List ℕ) (rose : Type 0) (s : status.Status) (step : Result Window NetError) (before net : NetState) → s ≡ Done
      → IsNext plan rows (Writes old now rose s) step before net → IsNext plan rows (Wrote old now) step before net
  wrote old now rose s step before net done n = record {
    told = n.told;
    holds = subst (λ (t : status.Status). Writes old now rose t n.told) done n.holds;
    lines = n.lines;
    comes = n.comes;
  }

  -- how writing the first bytes of what is begun ends a replay
  begun_ends : (old now : List ℕ) (rose : Type 0) (text : List ℕ) (s : status.Status) → IsBegun plan rows text → (s ≡ Done → IsReplayed plan rows old now rose s)
      → IsWritten old now rose text s → IsReplayed plan rows old now rose s
  begun_ends old now rose text Done b done w = done refl
  begun_ends old now rose text WriteFault b done w = (w.0, (text, b, w.1))
  begun_ends old now rose text OutOfMemory b done w = inr (text, b, w)
  begun_ends old now rose text _ b done w = absurd w

  -- or they aren't
  pub stops_in_window : (old now : List ℕ) (rose : Type 0) (s : status.Status) (step : Result Window NetError) (before net : NetState) → (s ≡ Done → ⊥)
      → IsNext plan rows (Writes old now rose s) step before net → IsReplayed plan rows old now rose s
  stops_in_window old now rose s step before net not_done n = begun_ends old now rose (lines_of plan n.told) s (inr n.lines) (λ e. absurd (not_done e)) n.holds

  -- the total line comes last
  pub ends_with_total : (old mid after : List ℕ) (first between now : ℕ) (totals : Totals) (s : status.Status) (step : Result Window NetError) (before net : NetState) → step ≡ Ok Ended
      → totals ≡ net.totals → first ≤ between → IsWritten mid after (Rose between now) (summary_of totals) s
      → IsNext plan rows (Wrote old mid) step before net → IsReplayed plan rows old after (Rose first now) s
  unfolding report_of
  ends_with_total old mid after first between now totals s step before net is same later w n =
      let ended = subst (λ (r : Result Window NetError). Comes plan rows n.told r before net) is n.comes in
      let last : IsWritten mid after (Rose between now) (summary_of (totals_of n.told)) s = subst (λ (t : Totals). IsWritten mid after (Rose between now) (summary_of t) s) (same ∙ ended.sums) w in
      let both = written_both old mid after first between now (lines_of plan n.told) (summary_of (totals_of n.told)) s n.holds later last in
      let text : List ℕ = report_of plan n.told in
      let report : IsReport plan rows text = record { told = n.told; events = ended.events; whole = refl } in
      let has : HasReport plan rows text = record { report = report; few = ended.few } in
      begun_ends old after (Rose first now) text s (inl report)
      (λ e. subst (λ (t : status.Status). IsReplayed plan rows old after (Rose first now) t) (sym e)
      (text, has, subst (λ (t : status.Status). IsWritten old after (Rose first now) text t) e both))
      both

  at_error : (old mid : List ℕ) (told : List Event) (before net : NetState) (rose : Type 0) (e : NetError) → mid ≡ old ++ lines_of plan told
      → Comes plan rows told (Err e) before net → IsReplayed plan rows old mid rose (ended_by e)
  at_error old mid told before net rose (error.EventLimit most) written c = (c.0, (lines_of plan told, c.1, written))
  at_error old mid told before net rose error.OutOfMemory written c =
      let text : List ℕ = lines_of plan told in
      inr (text, inr c, (length text, written ∙ ap (λ (xs : List ℕ). old ++ xs) (sym (take-length text))))

  -- the network comes to an error
  pub ends_refused : (old mid : List ℕ) (rose : Type 0) (s : status.Status) (step : Result Window NetError) (before net : NetState) (e : NetError) → step ≡ Err e → s ≡ ended_by e
      → IsNext plan rows (Wrote old mid) step before net → IsReplayed plan rows old mid rose s
  ends_refused old mid rose s step before net e is same n =
      subst (λ (t : status.Status). IsReplayed plan rows old mid rose t) (sym same)
      (at_error old mid n.told before net rose e n.holds (subst (λ (r : Result Window NetError). Comes plan rows n.told r before net) is n.comes))
