-- Product: which entries and capabilities have room in a shim.
use Rattle.std.specs.Prelude.{ℕ, ◌^◌, ◌<◌, ◌≤◌, List, length, All}
use Rattle.tva_shim.specs.declared.entries.Entry.{Entry}

-- a tag of 16 bits and a pre-capability of 64
pub record IsEntry (e : Entry) : Type 0 where
  pub tag : e.tag < 2 ^ 16
  pub precap : e.precap < 2 ^ 64

-- a capability of 64 bits
abbrev pub IsCap : ℕ → Type 0
IsCap cap = cap < 2 ^ 64

pub record AreEntries (entries : List Entry) : Type 0 where
  pub few : length entries ≤ 16
  pub each : All IsEntry entries

pub record AreCaps (caps : List ℕ) : Type 0 where
  pub few : length caps ≤ 16
  pub each : All IsCap caps
