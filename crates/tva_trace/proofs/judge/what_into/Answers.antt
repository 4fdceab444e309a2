use Rattle.tva_trace.proofs.Common.{◌≡◌, List, ℕ, refl, sym, ◌∙◌, NodePlan, injection_of, what_of}
use Rattle.tva_trace.specs.declared.rows.RowKind.{RowKind}
use Rattle.tva_trace.specs.declared.rows.RowKind.TheVariants as kind
use Rattle.tva_trace.proofs.judge.what_into.Goals as goal

-- all kinds but three inject a packet
injects : (k : RowKind) (plans : List NodePlan) (fields : List (List ℕ)) → (k ≡ kind.Send → ⊥) → (k ≡ kind.File → ⊥) → (k ≡ kind.Tick → ⊥) → what_of plans k fields ≡ injection_of plans k fields
injects kind.Send plans fields send file tick = absurd (send refl)
injects kind.Raw plans fields send file tick = refl
injects kind.List plans fields send file tick = refl
injects kind.Renew plans fields send file tick = refl
injects kind.Nonce plans fields send file tick = refl
injects kind.File plans fields send file tick = absurd (file refl)
injects kind.Tick plans fields send file tick = absurd (tick refl)

pub returns-in_default : goal.returns-in_default
returns-in_default c =
    c.injection_into.ensures ∙ sym (injects c.args.kind c.args.plans.now _ c.in_default.not-Send c.in_default.not-File c.in_default.not-Tick)
