-- Crate: what a shelf in memory answers, exactly.
use Rattle.std.specs.Prelude.{if◌then◌else◌, ◌≡◌, ◌⊎◌, ℕ, Bool, true, false, List, [], ◌∷◌, ◌++◌, None}
use Rattle.tva_outside.specs.{declared.shelf.Loaded.Loaded, Calls.is_due, Faults.one_more, Held.bytes_at, Loads.load_of}
use Rattle.tva_outside.specs.declared.shelf.Loaded.TheVariants.{Bytes, Failed, TooLarge, OutOfMemory}
use Rattle.tva_outside.specs.{HeldFiles.IsCopy, ShelfState.ShelfState}

-- the next load is to fail
abbrev pub next_load_fails : ShelfState → Bool
next_load_fails shelf = is_due shelf.failing (one_more shelf.loads)

-- a shelf after its next load: one load more, and one fault more at a load that was to fail; want of
-- memory changes no count
abbrev pub counted : ShelfState → Loaded → ShelfState
counted shelf (Bytes bytes) = record shelf { loads = one_more shelf.loads }
counted shelf Failed = record shelf {
  loads = one_more shelf.loads;
  faults = if next_load_fails shelf then one_more shelf.faults else shelf.faults;
}
counted shelf (TooLarge k) = record shelf { loads = one_more shelf.loads }
counted shelf OutOfMemory = shelf

-- and with what was asked for and given
abbrev pub after_load : ShelfState → List ℕ → Loaded → ShelfState
after_load shelf name loaded = record (counted shelf loaded) { gave = shelf.gave ++ load_of name loaded ∷ [] }

-- a load of the name fails: it is to, or nothing is held there
abbrev pub FailsToLoad : ShelfState → List ℕ → Type 0
FailsToLoad shelf name = (next_load_fails shelf ≡ true) ⊎ (bytes_at shelf.files name ≡ None)

-- any load that is not to fail answers with a copy
abbrev pub CopiesUnlessDue : ShelfState → List ℕ → ℕ → Loaded → Type 0
CopiesUnlessDue shelf name max loaded = next_load_fails shelf ≡ false → IsCopy shelf.files name max loaded
