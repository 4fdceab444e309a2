-- Crate: what is within the sizes of a network: payloads, shims, files, and what reaches a node.
use Rattle.std.specs.Prelude.{◌≤◌}
use Rattle.tva_shim.specs.Packets.{IsWithinWidths, IsSizedPacket}
use Rattle.tva_rows.specs.declared.rows.RowWhat.{RowWhat}
use Rattle.tva_rows.specs.declared.rows.RowWhat.TheVariants.{Send, Inject, File, Tick}
use Rattle.tva_run.specs.declared.kinds.Input.{Input}
use Rattle.tva_run.specs.declared.kinds.Input.TheVariants.{FromTrace, Arrival}
use Rattle.tva_run.specs.Entries.{Entry, Took, Started}

-- a payload has at most 1,600 bytes, a shim its widths, a file at most 100,000,000 bytes, and a segment at most 1,500
abbrev pub IsSizedWhat : RowWhat → Type 0
IsSizedWhat (Send dst payload) = payload ≤ 1600
IsSizedWhat (Inject flow payload carried) = (payload ≤ 1600) × IsWithinWidths carried
IsSizedWhat (File dst size segment) = (size ≤ 100000000) × (segment ≤ 1500)
IsSizedWhat (Tick dst) = Unit {0}

-- what reaches a node
abbrev pub IsSizedInput : Input → Type 0
IsSizedInput (FromTrace row) = IsSizedWhat row.what
IsSizedInput (Arrival time link packet) = IsSizedPacket packet

-- what a link starts
abbrev pub IsSizedEntry : Entry → Type 0
IsSizedEntry (Took input content) = Unit {0}
IsSizedEntry (Started time link class packet) = IsSizedPacket packet
