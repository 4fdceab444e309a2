-- Crate: the number and the text of each status.
use Rattle.std.specs.Prelude.{ℕ, List, [], ◌∷◌, ◌++◌, codes, decimal}
use Rattle.std.specs.List.{join_with_byte}
use Rattle.tva_config_entries.specs.declared.faults.ConfigFault.{ConfigFault}
use Rattle.tva_config_entries.specs.Words.{rule_word, table_word}
use Rattle.tva_trace.specs.Words as trace
use Rattle.tva.specs.declared.status.Status as status
use Rattle.tva.specs.declared.status.Status.TheVariants.{Done, Found, Usage, ReadFault, WriteFault, TooLarge}
use Rattle.tva.specs.declared.status.Status.TheVariants.{BadConfig, BadTrace, EventLimit, OutOfMemory, BadReport}

abbrev pub number_of : status.Status → ℕ
number_of Done = 0
number_of (Found f) = 1
number_of Usage = 2
number_of ReadFault = 3
number_of WriteFault = 4
number_of (TooLarge k) = 5
number_of (BadConfig fault) = 6
number_of (BadTrace fault) = 7
number_of (EventLimit m) = 8
number_of OutOfMemory = 9
number_of (BadReport k) = 10

-- the words of a fault, joined by blanks
abbrev pub config_fault_words : ConfigFault → List ℕ
config_fault_words f = join_with_byte 32 (rule_word f.rule ∷ table_word f.table ∷ decimal f.entry ∷ f.key ∷ [])

abbrev pub text_of_status : status.Status → List ℕ
text_of_status Done = []
text_of_status (Found f) = codes "found: line " ++ decimal f.line
text_of_status Usage = codes "usage: tva replay CONFIG TRACE, check CONFIG, shim HEX, gen SEED COUNT CONFIG, audit CONFIG TRACE REPORT"
text_of_status ReadFault = codes "read fault"
text_of_status WriteFault = codes "write fault"
text_of_status (TooLarge k) = codes "too large: " ++ decimal k
text_of_status (BadConfig fault) = codes "bad config: " ++ config_fault_words fault
text_of_status (BadTrace fault) =
    codes "bad trace: record " ++ decimal fault.row ++ codes ": " ++ trace.rule_word fault.rule
text_of_status (EventLimit m) = codes "more than " ++ decimal m ++ codes " events"
text_of_status OutOfMemory = codes "out of memory"
text_of_status (BadReport k) = codes "bad report: line " ++ decimal k
