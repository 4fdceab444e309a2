-- Which rows brief forms stand for, and that layouts put behind others change none of them.
use Rattle.tva_rows.proofs.Common.{◌≡◌, ℕ, ◌+◌, ◌≤◌, List, [], ◌∷◌, ◌++◌, length, take, drop, get_or, refl, sym, ap, subst, ◌∙◌, inl, inr, arith, length-append, length-drop, ◌⊎◌, HaveNoShim, layout, BriefRow, AreHeld, Grows, IsLayoutAt, IsWhatHeld, part, row_in, rows_in, shim_in, told_by, what_in}
use Rattle.std.proofs.Math.Seq.{drop-append_seam, take-length}
use Rattle.std.proofs.lemmas.List.{drop-append-le, take-append-le, map-append}
use Rattle.std.proofs.lemmas.List.Elements.{All-head, All-tail, All-push}
use Rattle.tva_shim.specs.declared.packets.Carried.TheVariants as carried
use Rattle.tva_shim.specs.Shims.{ShimData, IsShim}
use Rattle.tva_shim.proofs.Readable.{one_shim, shim_or_none}
use Rattle.tva_rows.specs.declared.brief.BriefWhat.{BriefWhat}
use Rattle.tva_rows.specs.declared.brief.BriefWhat.TheVariants as brief
use Rattle.tva_rows.specs.declared.rows.Row.{Row}
use Rattle.tva_rows.specs.declared.rows.RowWhat.{RowWhat}
use Rattle.tva_rows.specs.declared.rows.RowWhat.TheVariants as what

-- ---- the shim of a layout

told_is : (bytes : List ℕ) (s : ShimData) → IsShim s → layout s ≡ bytes → (d : ((t : ShimData) × IsShim t × (layout t ≡ bytes)) ⊎ HaveNoShim bytes) → told_by d ≡ carried.Shim s
told_is bytes s is e (inl t) = ap carried.Shim (one_shim t.0 s t.1 is (t.2 ∙ sym e))
told_is bytes s is e (inr none) = absurd (none s is e)

pub shim_found : (bytes : List ℕ) (s : ShimData) → IsShim s → layout s ≡ bytes → shim_in bytes ≡ carried.Shim s
shim_found bytes s is e = told_is bytes s is e (shim_or_none bytes)

-- ---- layouts behind others

pub part-grown : (bytes more : List ℕ) (start count : ℕ) → start + count ≤ length bytes → part (bytes ++ more) start count ≡ part bytes start count
part-grown bytes more start count within =
    ap (take count) (drop-append-le start bytes more (omega arith))
    ∙ take-append-le count (drop start bytes) more (omega (arith, length-drop start bytes))

layout-grown : (bytes more : List ℕ) (start count : ℕ) → IsLayoutAt bytes start count → IsLayoutAt (bytes ++ more) start count
layout-grown bytes more start count there = record {
  within = omega (arith, there.within, length-append bytes more);
  shim = there.shim;
  widths = there.widths;
  same = there.same ∙ sym (part-grown bytes more start count there.within);
}

pub held-grown : (bytes more : List ℕ) (w : BriefWhat) → IsWhatHeld bytes w → IsWhatHeld (bytes ++ more) w
held-grown bytes more (brief.Send payload dst) h = tt
held-grown bytes more (brief.File segment dst size) h = tt
held-grown bytes more (brief.Tick dst) h = tt
held-grown bytes more (brief.Bare payload flow) h = tt
held-grown bytes more (brief.Malformed payload count flow) h = tt
held-grown bytes more (brief.Shim payload count flow start) h = layout-grown bytes more start count h

pub what-grown : (bytes more : List ℕ) (w : BriefWhat) → IsWhatHeld bytes w → what_in (bytes ++ more) w ≡ what_in bytes w
what-grown bytes more (brief.Send payload dst) h = refl
what-grown bytes more (brief.File segment dst size) h = refl
what-grown bytes more (brief.Tick dst) h = refl
what-grown bytes more (brief.Bare payload flow) h = refl
what-grown bytes more (brief.Malformed payload count flow) h = refl
what-grown bytes more (brief.Shim payload count flow start) h = ap (λ (b : List ℕ). what.Inject flow payload (shim_in b)) (part-grown bytes more start count h.within)

abbrev pub row_of : BriefRow → RowWhat → Row
row_of b w = record { time = b.time; node = b.node; what = w }

rows-grown : (bytes more : List ℕ) (rows : List BriefRow) → AreHeld bytes rows → rows_in (bytes ++ more) rows ≡ rows_in bytes rows
rows-grown bytes more [] h = refl
rows-grown bytes more (b ∷ rows) h =
    let P : BriefRow → Type 0 = λ r. IsWhatHeld bytes r.what in
    let first : row_in (bytes ++ more) b ≡ row_in bytes b = ap (row_of b) (what-grown bytes more b.what (All-head P b rows h)) in
    let rest : rows_in (bytes ++ more) rows ≡ rows_in bytes rows = rows-grown bytes more rows (All-tail P b rows h) in
    ap (λ (r : Row). r ∷ rows_in (bytes ++ more) rows) first ∙ ap (λ (rs : List Row). row_in bytes b ∷ rs) rest

all-grown : (bytes more : List ℕ) (rows : List BriefRow) → AreHeld bytes rows → AreHeld (bytes ++ more) rows
all-grown bytes more rows h = λ k d below. held-grown bytes more (get_or rows k d).what (h k d below)

-- layouts that grew hold the same rows
pub grown_hold : (old new : List ℕ) (rows : List BriefRow) → Grows old new → AreHeld old rows → AreHeld new rows
grown_hold old new rows g h = subst (λ (bytes : List ℕ). AreHeld bytes rows) (sym g.1) (all-grown old g.0 rows h)

pub grown_same : (old new : List ℕ) (rows : List BriefRow) → Grows old new → AreHeld old rows → rows_in new rows ≡ rows_in old rows
grown_same old new rows g h = ap (λ (bytes : List ℕ). rows_in bytes rows) g.1 ∙ rows-grown old g.0 rows h

-- ---- one row more, with its layout

pub pushed_held : (old new : List ℕ) (rows all : List BriefRow) (b : BriefRow) → Grows old new → AreHeld old rows → IsWhatHeld new b.what → all ≡ rows ++ b ∷ [] → AreHeld new all
pushed_held old new rows all b g h w e = subst (λ (rs : List BriefRow). AreHeld new rs) (sym e) (All-push (λ r. IsWhatHeld new r.what) rows b (grown_hold old new rows g h) w)

pub pushed_same : (old new : List ℕ) (rows all : List BriefRow) (b : BriefRow) (w : RowWhat) (told : List Row) → Grows old new → AreHeld old rows → what_in new b.what ≡ w
    → all ≡ rows ++ b ∷ [] → rows_in old rows ≡ told → rows_in new all ≡ told ++ row_of b w ∷ []
pushed_same old new rows all b w told g h is e view =
    ap (rows_in new) e
    ∙ map-append (row_in new) rows (b ∷ [])
    ∙ ap (λ (rs : List Row). rs ++ row_in new b ∷ []) (grown_same old new rows g h ∙ view)
    ∙ ap (λ (x : RowWhat). told ++ row_of b x ∷ []) is

-- ---- a layout at the end

pub last_part : (old more : List ℕ) → part (old ++ more) (length old) (length more) ≡ more
last_part old more = ap (take (length more)) (drop-append_seam old more) ∙ take-length more

pub last_shim : (old new : List ℕ) (s : ShimData) (start count : ℕ) → new ≡ old ++ layout s → start ≡ length old → count ≡ length (layout s) → IsShim s → shim_in (part new start count) ≡ carried.Shim s
last_shim old new s start count e at many is = rw (e, at, many) (shim_found (part (old ++ layout s) (length old) (length (layout s))) s is (sym (last_part old (layout s))))
