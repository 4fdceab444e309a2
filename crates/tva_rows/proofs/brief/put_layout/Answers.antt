use Rattle.tva_rows.proofs.Common.{rules, ◌≡◌, ◌++◌, List, ℕ, length, ◌∙◌, ap, layout}
use Rattle.tva_rows.proofs.Packing.{last_shim}
use Rattle.tva_rows.proofs.brief.put_layout.Goals as goal

pub returns-clause-same : goal.returns-clause-same
returns-clause-same c =
    let s = c.args.shim.now in
    let old = c.args.layouts.now.items in
    let new = c.put_bytes.new.layouts.items in
    let bytes : c.as_slice.result.now ≡ layout s = c.as_slice.ensures.value ∙ c.encode.ensures.layout in
    let e : new ≡ old ++ layout s = c.in_ok-start.ensures.grows ∙ ap (λ (b : List ℕ). old ++ b) bytes in
    let many : c.len.result ≡ length (layout s) = search (rules, c.encode.ensures.layout) in
    last_shim old new s c.in_ok-start.start c.len.result e c.in_ok-start.ensures.start many c.encode.ensures.widths
