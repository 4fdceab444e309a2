use Rattle.tva_node.proofs.Common.{arith, nat_tests, [], map, sym, subst, NodePlan, IsSite, site_of, link_pair, RoleStands, Stands, role_plan}
use Rattle.tva_node.proofs.Posts.{built, pairs_first}
use Rattle.tva_node.proofs.node.Node.build_keeping.Goals as goal

pub returns-clause-site : goal.returns-clause-site
returns-clause-site c = grind (arith, nat_tests, pairs_first)

pub returns-clause-stands : goal.returns-clause-stands
returns-clause-stands c =
    let role = c.in_ok-role.role in
    let links = c.args.links.now in
    let ls = c.in_ok-of.field-0 in
    let site = subst (λ (p : NodePlan). IsSite (site_of c.args.number p links)) (sym c.in_ok-role.ensures.plan) c.requires.site in
    let stands = subst (λ (p : NodePlan). RoleStands (site_of c.args.number p links) role []) (sym c.in_ok-role.ensures.plan) c.in_ok-role.ensures.stands in
    let first = built c.args.number c.args.horizon.0 c.args.keeps role links ls c.requires.horizon c.in_ok-of.ensures site stands c.in_ok-role.ensures.last in
    subst Stands (λ i. record {
      site = site_of c.args.number (role_plan role) (map link_pair ls);
      horizon = c.args.horizon.0;
      inbox = (sym c.new.ensures i).all;
      events = (sym c.new-3.ensures i).all;
      sendings = (sym c.new-4.ensures.empty.0 i);
      worked_to = 0;
      keeps = sym c.new-4.ensures.keeps i;
      gone = record { inputs = (sym c.new.ensures i).gone; events = (sym c.new-3.ensures i).gone; sendings = (sym c.new-4.ensures.empty.1 i); told = (sym c.new-3.ensures i).told; sent = (sym c.new-4.ensures.empty.2 i) };
      role = role;
      links = ls;
      waiting = sym c.in_ok-new.ensures i;
    }) first
