use Rattle.tva_report.proofs.Differing.{added, is_first, missing, none_of_same, same_of_none}
use Rattle.tva_report.proofs.laws.difference_is_the_first.Goals as goal

pub returns-clause-none : goal.returns-clause-none
returns-clause-none c = λ expected found. (same_of_none 1 expected found, λ e. rw e (none_of_same 1 found))

pub returns-clause-first : goal.returns-clause-first
returns-clause-first c = is_first

pub returns-clause-missing : goal.returns-clause-missing
returns-clause-missing c = λ lines more line. missing 1 lines line more

pub returns-clause-added : goal.returns-clause-added
returns-clause-added c = λ lines more line. added 1 lines line more
