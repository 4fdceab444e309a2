use Rattle.tva_host.proofs.Common.{◌≤◌, ap, sym, subst, Injected, history_of, last_time, HostData}
use Rattle.tva_host.proofs.Calls.{stands-push}
use Rattle.tva_host.proofs.host.Host.inject.Goals as goal

pub returns-clause-packet : goal.returns-clause-packet
returns-clause-packet c calls s = c.number.ensures.packet (history_of c.args.self.now.plan calls) s.keeps

pub returns-clause-stands : goal.returns-clause-stands
returns-clause-stands c calls s =
    stands-push c.args.self.now c.number.new.self calls (Injected c.args.flow c.args.payload c.args.carried) s (ap (λ (v : HostData). v.plan) c.number.ensures.rest) tt
    (subst (λ (v : HostData). last_time 0 calls ≤ v.last) (sym c.number.ensures.rest) s.past) (c.number.ensures.keeps (history_of c.args.self.now.plan calls) s.keeps)
