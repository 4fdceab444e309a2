use Rattle.tva_router.proofs.Common.{List, [], subst, arith, Entry, IsLegal, legal-front}
use Rattle.tva_port.proofs.Legality.{rate_kept, starts_apart}
use Rattle.tva_port.proofs.Limits.{stays_within}
use Rattle.tva_router.proofs.Known.{known}
use Rattle.tva_router.proofs.laws.links_keep_limits.Goals as goal

pub returns-clause-legal : goal.returns-clause-legal
returns-clause-legal c v h logs link limits s f = (known v h logs link limits v.last s f (omega arith)).legal

pub returns-clause-past : goal.returns-clause-past
returns-clause-past c v h logs link limits s f = (known v h logs link limits v.last s f (omega arith)).later

pub returns-clause-rate : goal.returns-clause-rate
returns-clause-rate c v h logs link limits s f before rest e =
    rate_kept limits before (legal-front limits [] before rest (subst (λ (z : List Entry). IsLegal limits z) e (known v h logs link limits v.last s f (omega arith)).legal))

pub returns-clause-rising : goal.returns-clause-rising
returns-clause-rising c v h logs link limits s f before rest e =
    let k = known v h logs link limits v.last s f (omega arith) in
    starts_apart limits before k.valid (legal-front limits [] before rest (subst (λ (z : List Entry). IsLegal limits z) e k.legal))

pub returns-clause-room : goal.returns-clause-room
returns-clause-room c v h logs link limits s f before rest e =
    let k = known v h logs link limits v.last s f (omega arith) in
    stays_within limits (logs link) k.valid k.legal before rest e
