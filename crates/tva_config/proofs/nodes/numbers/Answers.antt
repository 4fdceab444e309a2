use Rattle.tva_config.proofs.Common.{rules, ◌≡◌, ◌∙◌, ◌<◌, ◌≤◌, [], length, ap, sym, true, false, get_or, take, drop, codes, Ok, arith, drop_all, take_all, take_more, list_any, bytes_eq, fault_at, node_names, name_step, names_of, Numbers, fault_made, continues_ends}
use Rattle.tva_config_entries.specs.declared.faults.ConfigRule.TheVariants as rule
use Rattle.tva_config.proofs.Numbered.{names_push, name_is_there, name_continues, name_stops, names_long, length_taken, all_named, untrue, true_not}
use Rattle.tva_config.proofs.nodes.numbers.Goals as goal

pub loop-i-preserved : goal.loop-i-preserved
loop-i-preserved c =
    let names = node_names c.args.routers.now c.args.hosts.now in
    let i = c.loop-i.i in
    let name = c.name_of-name.result.now in
    let long = names_long c.args.routers.now c.args.hosts.now in
    let within : i < length names = omega (arith, long) in
    let few : i ≤ length names = omega arith in
    let is : name ≡ get_or names i [] = c.name_of-name.ensures in
    let new : list_any (bytes_eq name) (take i names) ≡ false =
    sym (name_is_there c.loop-i.numbers (take i names) name c.loop-i.invariant.numbers) ∙ true_not _ (sym c.in_ok-add_name.ensures.added ∙ c.if-not-branch.false) in
    let updates = rw c.if-not-branch.false at c.in_ok-add_name.ensures.numbers in
    let more = names_push c.loop-i.numbers c.add_name.new.numbers (take i names) name i c.loop-i.invariant.numbers updates new (length_taken names i few) in
    record {
      read = name_continues (length c.args.routers.now) names i within (rw is at new) c.loop-i.invariant.read;
      numbers = rw (take_more names i [] within, ← is) more;
    }

pub returns-then-not-branch-clause-answer : goal.returns-then-not-branch-clause-answer
unfolding names_of
returns-then-not-branch-clause-answer c =
    let names = node_names c.args.routers.now c.args.hosts.now in
    let i = c.loop-i.i in
    let name = c.name_of-name.result.now in
    let long = names_long c.args.routers.now c.args.hosts.now in
    let within : i < length names = omega (arith, long) in
    let is : name ≡ get_or names i [] = c.name_of-name.ensures in
    let old : list_any (bytes_eq name) (take i names) ≡ true =
    sym (name_is_there c.loop-i.numbers (take i names) name c.loop-i.invariant.numbers) ∙ untrue _ (sym c.in_ok-add_name.ensures.added ∙ c.if-not-branch.true) in
    fault_made (λ (_ : Numbers). names) (names_of c.args.routers.now c.args.hosts.now) c.into.result c.fault.result _ c.into.ensures
    (c.fault.ensures ∙ ap (λ p. fault_at p rule.Names (codes "name")) c.place.ensures)
    (name_stops (length c.args.routers.now) names i within (rw is at old) c.loop-i.invariant.read)

pub returns-clause-answer : goal.returns-clause-answer
unfolding names_of
returns-clause-answer c =
    let names = node_names c.args.routers.now c.args.hosts.now in
    let i = c.loop-i.i in
    let long = names_long c.args.routers.now c.args.hosts.now in
    let past : length names ≤ i = omega (arith, long) in
    continues_ends (name_step (length c.args.routers.now)) (take i names) (drop i names) names (drop_all i names past) c.loop-i.invariant.read
    ∙ ap Ok (take_all i names past)

pub returns-clause-numbers : goal.returns-clause-numbers
returns-clause-numbers c =
    let names = node_names c.args.routers.now c.args.hosts.now in
    let long = names_long c.args.routers.now c.args.hosts.now in
    let past : length names ≤ c.loop-i.i = omega (arith, long) in
    all_named c.loop-i.numbers names c.loop-i.i past c.loop-i.invariant.numbers

pub loop-i-init : goal.loop-i-init
loop-i-init c = search rules
