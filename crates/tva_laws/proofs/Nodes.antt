-- The nodes of the network with a restart, and when a capability is valid there.
use Rattle.tva_laws.proofs.Common.{◌≡◌, ◌≤◌, ◌+◌, ◌*◌, ℕ, List, take, Some, refl, arith, in_force, router_second, credit_of, AreSomeRights, layout, two_bytes, six_bytes, eight_bytes, number_bytes, check_of, Valid, list_verdict, link_to, answer_to_shown, judged_shim, handle, Router, Host, Arrival, Site, site_of, Entry, Arrived, content, arrived, at_time, links_out, Way, walk_flow, walk_rights, walk_router, walk_host_b, walk_config, restarting_router, denying_a, a_list, first_cap, cap_in, early_router, charged_to}
use Rattle.tva_laws.proofs.EachMile.{valid}
use Rattle.tva_laws.specs.Restarts.{grant_of}

abbrev pub router_site : List ℕ → Site
router_site master = site_of 0 (Router (restarting_router master)) (links_out 0 walk_config.links)

abbrev pub a_site : Site
a_site = site_of 1 (Host denying_a) (links_out 1 walk_config.links)

abbrev pub b_site : Site
b_site = site_of 2 (Host walk_host_b) (links_out 2 walk_config.links)

abbrev way : List ℕ → Way
way master = record {
  margin = 1000000;
  retry = 2000000000;
  version = 1;
  delay = 1000520;
  flow = walk_flow;
  master = master;
  offset = 0;
  slots = 8;
}

some_rights : AreSomeRights walk_rights
some_rights = record { units = omega arith; seconds = omega arith }

-- a capability that was asked for at a time is valid for nine seconds
pub lasts : (master : List ℕ) (came at : ℕ) → came ≤ at → at + 1000000000 ≤ came + 10 * 1000000000
    → check_of master (router_second 0 at) walk_flow (cap_in master (router_second 0 came)) walk_rights ≡ Valid (grant_of (router_second 0 came))
lasts master came at from until = valid (way master) walk_rights came at some_rights from until

-- before the restart the first list passes
first_valid : check_of walk_router.master 0 walk_flow first_cap walk_rights ≡ Valid (grant_of 0)
first_valid = lasts walk_router.master 1001000 6010400 (omega arith) (omega arith)

abbrev pub before_first : List Entry
before_first = take 4 early_router

pub first_passes : (master : List ℕ) → content (router_site master) before_first (Arrival (at_time 6010400) 0 (a_list 2 2 0 0 first_cap))
    ≡ Some (Arrived (Some 0) (a_list 2 2 0 0 first_cap) (charged_to 0 2) (a_list 2 2 1 1 first_cap))
unfolding layout two_bytes six_bytes eight_bytes number_bytes credit_of list_verdict link_to answer_to_shown judged_shim handle arrived in_force
first_passes master = rw first_valid refl
