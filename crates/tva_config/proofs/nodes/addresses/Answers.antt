use Rattle.tva_config.proofs.Common.{◌≡◌, ◌∙◌, ◌<◌, ◌==◌, ap, cond, sym, true, false, map, take, length, arith, list_any, addresses_of, fault_made}
use Rattle.tva_config.proofs.Numbered.{address_continues, address_stops, seen_push, untrue, true_not}
use Rattle.tva_config.proofs.nodes.addresses.Goals as goal

pub loop-i-preserved : goal.loop-i-preserved
loop-i-preserved c =
    let hosts = c.args.hosts.now in
    let i = c.loop-i.i in
    let host = c.index-hosts-i.result in
    let within : i < length hosts = omega arith in
    let added = c.in_ok-insert.ensures.added in
    let yes : c.in_ok-insert.field-0 ≡ true = c.if-not-branch.false in
    let new : list_any (λ a. a.0 == host.address.0) (map (λ x. x.address) (take i hosts)) ≡ false =
    sym (c.loop-i.invariant.seen host.address.0) ∙ true_not _ (sym added ∙ yes) in
    record {
      read = address_continues hosts i host hosts within c.index-hosts-i.is new c.loop-i.invariant.read;
      seen = λ q. c.in_ok-insert.ensures.updates.0 q ∙ ap (λ b. cond (host.address.0 == q) true b) (c.loop-i.invariant.seen q) ∙ seen_push hosts i host q within c.index-hosts-i.is;
    }

pub returns-then-not-branch : goal.returns-then-not-branch
unfolding addresses_of
returns-then-not-branch c =
    let hosts = c.args.hosts.now in
    let i = c.loop-i.i in
    let host = c.index-hosts-i.result in
    let within : i < length hosts = omega arith in
    let added = c.in_ok-insert.ensures.added in
    let no : c.in_ok-insert.field-0 ≡ false = c.if-not-branch.true in
    let old : list_any (λ a. a.0 == host.address.0) (map (λ x. x.address) (take i hosts)) ≡ true =
    sym (c.loop-i.invariant.seen host.address.0) ∙ untrue _ (sym added ∙ no) in
    fault_made (λ (_ : Unit {0}). map (λ h. h.address) hosts) (addresses_of hosts) c.into.result c.host_fault.result _ c.into.ensures c.host_fault.ensures
    (address_stops hosts i host hosts within c.index-hosts-i.is old c.loop-i.invariant.read)
