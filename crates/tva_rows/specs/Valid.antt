-- Crate: what every row keeps that was read under a configuration.
use Rattle.std.specs.Prelude.{◌≡◌, ◌≤◌, ◌<◌, ◌==◌, ◌&&◌, ℕ, Bool, true, false, List, [], ◌∷◌, length, count_by, All}
use Rattle.tva_shim.specs.Packets.{IsWithinWidths}
use Rattle.tva_plan.specs.{declared.config.Config.Config, Names.is_host}
use Rattle.tva_rows.specs.declared.rows.Row.{Row}
use Rattle.tva_rows.specs.declared.rows.RowWhat as whats
use Rattle.tva_rows.specs.declared.rows.RowWhat.TheVariants as what

-- a file has 1 to 100,000,000 bytes, and each of its segments 1 to 1,500
pub record IsFile (size segment : ℕ) : Type 0 where
  pub some : 1 ≤ size
  pub most : size ≤ 100000000
  pub bytes : 1 ≤ segment
  pub few : segment ≤ 1500

-- what may stand at a node, which is a host or not
abbrev pub IsRowWhat : Bool → whats.RowWhat → Type 0
IsRowWhat at_host (what.Send dst payload) = (at_host ≡ true) × (payload ≤ 1600)
IsRowWhat at_host (what.Inject flow payload carries) = (payload ≤ 1600) × IsWithinWidths carries
IsRowWhat at_host (what.File dst size segment) = (at_host ≡ true) × IsFile size segment
IsRowWhat at_host (what.Tick dst) = at_host ≡ true

-- a row of a node, up to the horizon
pub record IsRow (config : Config) (row : Row) : Type 0 where
  pub time : row.time.0 ≤ config.horizon.0
  pub node : row.node < length config.nodes
  pub what : IsRowWhat (is_host config.nodes row.node) row.what

-- times that never fall, behind a time
abbrev pub NeverFall : ℕ → List Row → Type 0
NeverFall last [] = Unit {0}
NeverFall last (row ∷ rows) = (last ≤ row.time.0) × NeverFall row.time.0 rows

abbrev pub begins : whats.RowWhat → Bool
begins (what.Send dst payload) = false
begins (what.Inject flow payload carries) = false
begins (what.File dst size segment) = true
begins (what.Tick dst) = false

-- how many rows of a node begin a transfer
abbrev pub files_at : ℕ → List Row → ℕ
files_at node rows = count_by (λ row. (row.node == node) && begins row.what) rows

-- rows that a network can be given
pub record AreTraceRows (config : Config) (rows : List Row) : Type 0 where
  pub few : length rows ≤ 1000000
  pub each : All (IsRow config) rows
  pub order : NeverFall 0 rows
  pub files : (node : ℕ) → files_at node rows ≤ 65536
