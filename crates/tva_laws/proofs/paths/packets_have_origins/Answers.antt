use Rattle.tva_laws.proofs.Origins.{origin_at}
use Rattle.tva_laws.proofs.paths.packets_have_origins.Goals as goal

pub returns : goal.returns
returns c = λ config rows until logs valid run node site is before input content rest here packet comes.
    origin_at config rows until logs valid run node site is before input content rest here packet comes
