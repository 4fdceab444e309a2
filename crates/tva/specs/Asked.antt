-- Kit: a command of the code as the command that it is, for the contracts of the functions that take one.
use Rattle.tva.specs.declared.command.Command as parsed
use Rattle.tva.specs.declared.command.Command.TheVariants.{Replay, Check, Shim, Gen, Audit}
use Rattle.tva.specs.Command.{Command, replay, check, shim, gen, audit}

abbrev pub asked : parsed.Command → Command
asked (Replay config trace) = replay config.now trace.now
asked (Check config) = check config.now
asked (Shim bytes) = shim bytes
asked (Gen seed count config) = gen seed count config.now
asked (Audit config trace report) = audit config.now trace.now report.now
