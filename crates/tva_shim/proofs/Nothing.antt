-- Lists of nothing are within all sizes.
use Rattle.std.proofs.Common.{[], arith}
use Rattle.std.proofs.lemmas.List.Elements.{All-nil}
use Rattle.tva_shim.specs.Widths.{IsEntry, IsCap, AreEntries, AreCaps}

pub no_entries : AreEntries []
no_entries = record { few = omega arith; each = All-nil IsEntry }

pub no_caps : AreCaps []
no_caps = record { few = omega arith; each = All-nil IsCap }
