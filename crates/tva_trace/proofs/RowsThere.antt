-- A text that is read has rows.
use Rattle.tva_trace.proofs.Common.{◌≡◌, ◌⊎◌, inl, inr, ℕ, List, [], ◌∷◌, length, refl, Ok, AllZip, Carried, shim_or_none, Config, Row, RowWhat, SaidRow, SaidShim, Bytes, Built, SaidWhat, rows_of, CarriedByBytes, AreRows, CarriedBy, Means, MeansWhat}
use Rattle.tva_shim.specs.declared.packets.Carried.TheVariants as carried
use Rattle.tva_shim.specs.Shims.{ShimData, IsShim}
use Rattle.tva_shim.specs.Layout.{HaveNoShim, layout}
use Rattle.tva_rows.specs.declared.rows.RowWhat.TheVariants as what
use Rattle.tva_trace.specs.declared.said.SaidWhat.TheVariants as say

carried_if : (b : ℕ) (bs : List ℕ) → ((s : ShimData) × IsShim s × (layout s ≡ b ∷ bs)) ⊎ HaveNoShim (b ∷ bs)
    → (c : Carried) × CarriedByBytes (b ∷ bs) c
carried_if b bs (inl s) = (carried.Shim s.0, (s.1, s.2))
carried_if b bs (inr none) = (carried.Malformed (length (b ∷ bs)), ((λ e. absurd (cc)), none, refl))

bytes_carried : (bytes : List ℕ) → (c : Carried) × CarriedByBytes bytes c
bytes_carried [] = (carried.Nothing, refl)
bytes_carried (b ∷ bs) = carried_if b bs (shim_or_none (b ∷ bs))

shim_carried : (shim : SaidShim) → (c : Carried) × CarriedBy shim c
shim_carried (Bytes bytes) = bytes_carried bytes
shim_carried (Built shim) = (carried.Shim shim, refl)

what_meant : (said : SaidWhat) → (w : RowWhat) × MeansWhat said w
what_meant (say.Send dst payload) = (what.Send dst payload, refl)
what_meant (say.File dst size segment) = (what.File dst size segment, refl)
what_meant (say.Tick dst) = (what.Tick dst, refl)
what_meant (say.Inject flow payload shim) =
    let c = shim_carried shim in
    (what.Inject flow payload c.0, (c.0, c.1, refl))

row_meant : (said : SaidRow) → (row : Row) × Means said row
row_meant said =
    let w = what_meant said.what in
    (record { time = said.time; node = said.node; what = w.0 }, (refl, refl, w.1))

rows_meant : (said : List SaidRow) → (rows : List Row) × AllZip Means said rows
rows_meant [] = ([], tt)
rows_meant (s ∷ said) =
    let row = row_meant s in
    let rows = rows_meant said in
    (row.0 ∷ rows.0, (row.1, rows.1))

-- what is read of a text is meant by rows
pub rows_there : (config : Config) (text : List ℕ) (said : List SaidRow) → rows_of config text ≡ Ok said → (rows : List Row) × AreRows config text rows
rows_there config text said is =
    let rows = rows_meant said in
    (rows.0, (said, is, rows.1))
