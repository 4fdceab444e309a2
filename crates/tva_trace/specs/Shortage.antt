-- Kit: which errors of `csv` say that memory ran out, or that the bytes below couldn't be had.
use Rattle.csv.specs.declared.error.ErrorKind.{ErrorKind}
use Rattle.csv.specs.declared.error.ErrorKind.TheVariants as why

abbrev pub IsShortage : ErrorKind → Type 0
IsShortage (why.Io error) = Unit {0}
IsShortage why.OutOfMemory = Unit {0}
IsShortage (why.UnequalLengths pos expected len) = ⊥
IsShortage (why.Utf8 pos error) = ⊥
IsShortage (why.Serialize text) = ⊥
IsShortage (why.Deserialize pos error) = ⊥
