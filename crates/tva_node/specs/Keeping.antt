-- Kit: what memory keeps of a node's past, by its parts.
use Rattle.tva_node.specs.declared.parts.Parts.{Parts}
use Rattle.tva_node.specs.States.{Holds, state_of}

-- memory holds what is to be kept
abbrev pub HoldsSome : Parts → Type 0
HoldsSome p = Holds p.outbox.keeps (state_of p)
