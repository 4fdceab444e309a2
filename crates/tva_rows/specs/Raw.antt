-- Product: what the bytes of a raw row carry.
use Rattle.std.specs.Prelude.{◌≡◌, ◌≢◌, ℕ, List, [], length}
use Rattle.tva_base.specs.declared.packet.Flow.{Flow}
use Rattle.tva_shim.specs.declared.packets.Carried as carries
use Rattle.tva_shim.specs.declared.packets.Carried.TheVariants as carried
use Rattle.tva_shim.specs.{Shims.IsShim, Layout.HaveNoShim, Layout.layout}
use Rattle.tva_rows.specs.declared.rows.RowWhat as whats
use Rattle.tva_rows.specs.declared.rows.RowWhat.TheVariants as what

-- what bytes carry: no bytes nothing, the layout of a shim that shim, all others so many bytes that are
-- none
abbrev pub CarriedByBytes : List ℕ → carries.Carried → Type 0
CarriedByBytes bytes carried.Nothing = bytes ≡ []
CarriedByBytes bytes (carried.Shim shim) = IsShim shim × (layout shim ≡ bytes)
CarriedByBytes bytes (carried.Malformed count) = (bytes ≢ []) × HaveNoShim bytes × (count ≡ length bytes)

-- a row injects a packet with what the bytes carry
abbrev pub IsRaw : Flow → ℕ → List ℕ → whats.RowWhat → Type 0
IsRaw flow payload bytes w = (c : carries.Carried) × CarriedByBytes bytes c × (w ≡ what.Inject flow payload c)
