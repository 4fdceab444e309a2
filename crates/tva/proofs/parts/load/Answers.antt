use Rattle.tva.proofs.Common.{refl, Rose, bytes, failure, no_memory, too_many}
use Rattle.tva.proofs.Found.{found_bytes, found_none, found_past, held_bytes, held_no_memory, held_none, held_past}
use Rattle.tva.proofs.parts.load.Goals as goal

pub returns-in-Bytes-clause-asked : goal.returns-in-Bytes-clause-asked
returns-in-Bytes-clause-asked g c =
    (bytes c.in-Bytes.bytes.items, c.in-Bytes.ensures.gave)

pub returns-in-Bytes-clause-told : goal.returns-in-Bytes-clause-told
returns-in-Bytes-clause-told g c =
    held_bytes (g.S.Shelf.gave c.args.shelf.now) (g.S.Shelf.gave c.load.new.self) c.args.name.now c.args.max (g.S.Shelf.held c.args.shelf.now) c.in-Bytes.bytes.items c.in-Bytes.ensures.gave c.in-Bytes.ensures.answer.0

pub returns-in-Bytes-clause-ok : goal.returns-in-Bytes-clause-ok
returns-in-Bytes-clause-ok g c =
    found_bytes (g.S.Shelf.gave c.args.shelf.now) (g.S.Shelf.gave c.load.new.self) c.args.name.now c.args.max c.in-Bytes.bytes.items c.in-Bytes.ensures.gave c.in-Bytes.ensures.answer.1

pub returns-in-Failed-clause-asked : goal.returns-in-Failed-clause-asked
returns-in-Failed-clause-asked g c =
    (failure, c.in-Failed.ensures.gave)

pub returns-in-Failed-clause-told : goal.returns-in-Failed-clause-told
returns-in-Failed-clause-told g c =
    (λ apart. absurd (apart refl), λ same. held_none (g.S.Shelf.gave c.args.shelf.now) (g.S.Shelf.gave c.load.new.self) c.args.name.now c.args.max (g.S.Shelf.held c.args.shelf.now) (Rose (g.S.Shelf.faults c.args.shelf.now) (g.S.Shelf.faults c.load.new.self)) c.in-Failed.ensures.gave c.in-Failed.ensures.answer)

pub returns-in-Failed-clause-err : goal.returns-in-Failed-clause-err
returns-in-Failed-clause-err g c =
    found_none (g.S.Shelf.gave c.args.shelf.now) (g.S.Shelf.gave c.load.new.self) c.args.name.now c.args.max c.in-Failed.ensures.gave

pub returns-in-TooLarge-clause-asked : goal.returns-in-TooLarge-clause-asked
returns-in-TooLarge-clause-asked g c =
    (too_many c.in-TooLarge.size, c.in-TooLarge.ensures.gave)

pub returns-in-TooLarge-clause-told : goal.returns-in-TooLarge-clause-told
returns-in-TooLarge-clause-told g c =
    (λ apart. held_past _ _ _ _ _ c.in-TooLarge.size c.in-TooLarge.ensures.gave c.in-TooLarge.ensures.answer.0 c.in-TooLarge.ensures.answer.1, λ same. absurd cc)

pub returns-in-TooLarge-clause-err : goal.returns-in-TooLarge-clause-err
returns-in-TooLarge-clause-err g c =
    found_past (g.S.Shelf.gave c.args.shelf.now) (g.S.Shelf.gave c.load.new.self) c.args.name.now c.args.max c.in-TooLarge.size c.in-TooLarge.ensures.gave c.in-TooLarge.ensures.answer.1

pub returns-in-OutOfMemory-clause-asked : goal.returns-in-OutOfMemory-clause-asked
returns-in-OutOfMemory-clause-asked g c =
    (no_memory, c.in-OutOfMemory.ensures.gave)

pub returns-in-OutOfMemory-clause-told : goal.returns-in-OutOfMemory-clause-told
returns-in-OutOfMemory-clause-told g c =
    let S = g.S.Shelf in
    let old = S.gave c.args.shelf.now in
    let new = S.gave c.load.new.self in
    let name = c.args.name.now in
    let max = c.args.max in
    let held = S.held c.args.shelf.now in
    (λ apart. held_no_memory old new name max held c.in-OutOfMemory.ensures.gave, λ same. absurd cc)
