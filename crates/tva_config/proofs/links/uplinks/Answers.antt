use Rattle.tva_config.proofs.Common.{◌∙◌, ap, sym, drop, drop_all, uplink_step, uplink_of, uplinks_of, next_at, continues_more, continues_ends, one_longer}
use Rattle.tva_config.proofs.links.uplinks.Goals as goal

pub loop-i-preserved : goal.loop-i-preserved
loop-i-preserved c =
    let hosts = c.args.hosts.now in
    let i = c.loop-i.i in
    let done = c.loop-i.uplinks.items in
    let host = c.index-hosts-i.result in
    record {
      read = continues_more (uplink_step c.args.routers c.args.links.now) done c.push.new.self.items (drop i hosts) _ hosts host c.in_ok-uplink.field-0
          (next_at hosts i host c.loop-i-test.true c.index-hosts-i.is)
          (ap (uplink_of c.args.routers c.args.links.now) c.loop-i.invariant.count ∙ sym c.in_ok-uplink.ensures) c.in_ok-push.ensures.items c.loop-i.invariant.read;
      count = one_longer done c.push.new.self.items c.in_ok-uplink.field-0 i c.in_ok-push.ensures.items c.loop-i.invariant.count;
    }

pub returns-clause-answer : goal.returns-clause-answer
unfolding uplinks_of
returns-clause-answer c =
    continues_ends (uplink_step c.args.routers c.args.links.now) c.loop-i.uplinks.items (drop c.loop-i.i c.args.hosts.now) c.args.hosts.now
    (drop_all c.loop-i.i c.args.hosts.now c.loop-i-test.false) c.loop-i.invariant.read
