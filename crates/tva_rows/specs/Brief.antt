-- Kit: how rows are held in little memory.
use Rattle.std.specs.Prelude.{◌≡◌, ◌⊎◌, ◌≤◌, ◌+◌, ℕ, List, ◌++◌, length, map, take, drop, All}
use Rattle.std.proofs.Common.{inl, inr}
use Rattle.tva_shim.specs.declared.packets.Carried as carries
use Rattle.tva_shim.specs.declared.packets.Carried.TheVariants as carried
use Rattle.tva_shim.specs.{Shims.ShimData, Shims.IsShim, Layout.HaveNoShim, Layout.layout}
use Rattle.tva_shim.proofs.Readable.{shim_or_none}
use Rattle.tva_rows.specs.declared.{brief.BriefRow.BriefRow, rows.Row.Row}
use Rattle.tva_rows.specs.declared.brief.BriefWhat as briefs
use Rattle.tva_rows.specs.declared.brief.BriefWhat.TheVariants as brief
use Rattle.tva_rows.specs.declared.rows.RowWhat as whats
use Rattle.tva_rows.specs.declared.rows.RowWhat.TheVariants as what

-- so many bytes from a place on
abbrev pub part : List ℕ → ℕ → ℕ → List ℕ
part bytes start count = take count (drop start bytes)

abbrev pub told_by : {bytes : List ℕ} → ((s : ShimData) × IsShim s × (layout s ≡ bytes)) ⊎ HaveNoShim bytes
    → carries.Carried
told_by (inl s) = carried.Shim s.0
told_by (inr none) = carried.Nothing

-- the shim that bytes are the layout of; bytes that are none's stand for nothing. Which of the two they are is told by
-- the proof of the law `layouts_are_distinct`, whose answer is the only one
abbrev pub shim_in : List ℕ → carries.Carried
shim_in bytes = told_by (shim_or_none bytes)

-- what a brief form says over the layouts of all shims
abbrev pub what_in : List ℕ → briefs.BriefWhat → whats.RowWhat
what_in layouts (brief.Send payload dst) = what.Send dst payload
what_in layouts (brief.File segment dst size) = what.File dst size segment
what_in layouts (brief.Tick dst) = what.Tick dst
what_in layouts (brief.Bare payload flow) = what.Inject flow payload carried.Nothing
what_in layouts (brief.Malformed payload count flow) = what.Inject flow payload (carried.Malformed count)
what_in layouts (brief.Shim payload count flow start) = what.Inject flow payload (shim_in (part layouts start count))

abbrev pub row_in : List ℕ → BriefRow → Row
row_in layouts row = record { time = row.time; node = row.node; what = what_in layouts row.what }

abbrev pub rows_in : List ℕ → List BriefRow → List Row
rows_in layouts rows = map (row_in layouts) rows

-- the layout of a shim stands there
pub record IsLayoutAt (layouts : List ℕ) (start count : ℕ) : Type 0 where
  pub within : start + count ≤ length layouts
  pub shim : ShimData
  pub widths : IsShim shim
  pub same : layout shim ≡ part layouts start count

abbrev pub IsWhatHeld : List ℕ → briefs.BriefWhat → Type 0
IsWhatHeld layouts (brief.Send payload dst) = Unit {0}
IsWhatHeld layouts (brief.File segment dst size) = Unit {0}
IsWhatHeld layouts (brief.Tick dst) = Unit {0}
IsWhatHeld layouts (brief.Bare payload flow) = Unit {0}
IsWhatHeld layouts (brief.Malformed payload count flow) = Unit {0}
IsWhatHeld layouts (brief.Shim payload count flow start) = IsLayoutAt layouts start count

abbrev pub AreHeld : List ℕ → List BriefRow → Type 0
AreHeld layouts rows = All (λ row. IsWhatHeld layouts row.what) rows

-- layouts are put behind others
abbrev pub Grows : List ℕ → List ℕ → Type 0
Grows old new = (more : List ℕ) × (new ≡ old ++ more)
