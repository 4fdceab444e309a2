use Rattle.tva_run.proofs.Next.{window_next}
use Rattle.tva_run.proofs.laws.window_is_next.Goals as goal

pub returns : goal.returns
returns c = λ config rows from start until logs whole valid run later order within early rest short work.
    window_next config rows from start until logs whole valid run later order within rest early short work
