-- What every record keeps that says a row, before the bytes of a raw shim are taken for what they are.
use Rattle.std.specs.Prelude.{◌≡◌, ◌≤◌, ◌<◌, ℕ, Bool, true, length}
use Rattle.tva_shim.specs.Shims.{IsShim}
use Rattle.tva_plan.specs.declared.config.Config.{Config}
use Rattle.tva_plan.specs.Names.{is_host}
use Rattle.tva_rows.specs.Valid.{IsFile}
use Rattle.tva_trace.specs.declared.rows.RowKind as kinds
use Rattle.tva_trace.specs.declared.rows.RowKind.TheVariants as kind
use Rattle.tva_trace.specs.declared.said.SaidShim as says
use Rattle.tva_trace.specs.declared.said.SaidShim.TheVariants.{Bytes, Built}
use Rattle.tva_trace.specs.declared.said.SaidWhat as saids
use Rattle.tva_trace.specs.declared.said.SaidWhat.TheVariants as say
use Rattle.tva_trace.specs.declared.said.SaidRow.{SaidRow}
use Rattle.tva_trace.specs.Rows.{has_room}

abbrev pub IsSaidShim : says.SaidShim → Type 0
IsSaidShim (Bytes bytes) = length bytes ≤ 400
IsSaidShim (Built shim) = IsShim shim

-- what may stand at a node, which is a host or not, and has room for one transfer more or not
abbrev pub IsAllowed : Bool → Bool → kinds.RowKind → Type 0
IsAllowed at_host room kind.Send = at_host ≡ true
IsAllowed at_host room kind.Raw = Unit {0}
IsAllowed at_host room kind.List = Unit {0}
IsAllowed at_host room kind.Renew = Unit {0}
IsAllowed at_host room kind.Nonce = Unit {0}
IsAllowed at_host room kind.File = (at_host ≡ true) × (room ≡ true)
IsAllowed at_host room kind.Tick = at_host ≡ true

abbrev pub IsSaidWhat : Bool → Bool → saids.SaidWhat → Type 0
IsSaidWhat at_host room (say.Send dst payload) = (at_host ≡ true) × (payload ≤ 1600)
IsSaidWhat at_host room (say.Inject flow payload shim) = (payload ≤ 1600) × IsSaidShim shim
IsSaidWhat at_host room (say.File dst size segment) = (at_host ≡ true) × (room ≡ true) × IsFile size segment
IsSaidWhat at_host room (say.Tick dst) = at_host ≡ true

pub record IsSaid (config : Config) (last : ℕ) (files : ℕ → ℕ) (said : SaidRow) : Type 0 where
  pub later : last ≤ said.time.0
  pub time : said.time.0 ≤ config.horizon.0
  pub node : said.node < length config.nodes
  pub what : IsSaidWhat (is_host config.nodes said.node) (has_room files said.node) said.what
