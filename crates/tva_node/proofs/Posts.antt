-- What a node stands for that is new, or that is given one more input; and when it has work.
use Rattle.tva_node.proofs.Common.{◌≡◌, ℕ, ◌+◌, ◌<◌, ◌≤◌, List, [], ◌∷◌, ◌++◌, get_or, map, All, Option, Some, None, Result, Ok, Err, refl, sym, subst, ◌∙◌, ap, arith, inl, inr, Contains, OnErr, OnOk, option_and_then, AllByRecursion, nat_tests, map-append, All-nil, All-head, All-map, All-push, Contains-append_right, Contains-get_or, LinkLimits, LinkPlan, AreLinkLimits, links_of, NodePlan, put_in, each-cut, each-weaker, cut-put_all, put_all-append, Input, Site, IsLinkOut, IsSite, limits_out, site_of, Entry, input_source, input_time, in_turn, due, next_decision, IsWorkAt, IsNodeLog-same, Link, Role, first_link, least_next, link_pair, Memory, IsBy, KnowsNext, RoleStands, AreLeft, Gone, NodeState, Fits, IsFirstWork, Stands, StandsFor, none_gone, role_plan, IsNoneBefore, first_time, work_time}
use Rattle.tva_port.proofs.Idling.{empty_idles}
use Rattle.tva_node.proofs.Works.{any_link, either, none_sooner, quiet, work_late}

-- what holds anyway holds after an error
pub on_err : {T E : Type 0} (P : Type 0) (r : Result T E) → P → OnErr r P
on_err P r h = grind (arith, nat_tests)

-- ## one more input

-- it comes behind those that are earlier
put_behind : (i : Input) (taken rest : List Input) → AllByRecursion (λ x. input_time x < input_time i) taken → put_in input_time input_source i (taken ++ rest) ≡ taken ++ put_in input_time input_source i rest
put_behind i [] rest h = refl
put_behind i (x ∷ xs) rest h = grind (arith, nat_tests, (put_behind i xs rest h.1))

in_turn_more : (inbox : List Input) (i : Input) → in_turn (inbox ++ i ∷ []) ≡ put_in input_time input_source i (in_turn inbox)
in_turn_more inbox i = put_all-append input_time input_source inbox (i ∷ []) []

-- a node that is given one more input at the time up to which it is worked, or later
posted : (v : NodeState) (i : Input) (gone : Gone) → v.worked_to ≤ input_time i → input_time i ≤ v.horizon → Fits v.site.plan i → Stands v
    → Stands (record v { inbox = v.inbox ++ i ∷ []; gone = gone; waiting = put_in input_time input_source i v.waiting })
posted v i gone late within fits (log, h) =
    let same : due v.worked_to (in_turn (v.inbox ++ i ∷ [])) ≡ due v.worked_to (in_turn v.inbox) =
    ap (due v.worked_to) (in_turn_more v.inbox i) ∙ cut-put_all input_time input_source v.worked_to (i ∷ []) (in_turn v.inbox) (late, tt) in
    let taken = due v.worked_to (in_turn v.inbox) in
    let early : AllByRecursion (λ x. input_time x < input_time i) taken = each-weaker (λ x. input_time x < v.worked_to) (λ x. input_time x < input_time i) (λ x a. omega arith) taken (each-cut input_time input_source v.worked_to (in_turn v.inbox)) in
    let left : AreLeft (v.inbox ++ i ∷ []) taken (put_in input_time input_source i v.waiting) =
    in_turn_more v.inbox i ∙ (ap (put_in input_time input_source i) h.besides.left ∙ put_behind i taken v.waiting early) in (
      log,
      record {
        site = h.site;
        horizon = h.horizon;
        whole = IsNodeLog-same v.site (in_turn v.inbox) (in_turn (v.inbox ++ i ∷ [])) v.worked_to log (sym same) h.whole;
        events = h.events;
        sendings = h.sendings;
        besides = record {
          plan = h.besides.plan;
          out = h.besides.out;
          role = h.besides.role;
          past = h.besides.past;
          links = h.besides.links;
          fits = All-push (λ x. (input_time x ≤ v.horizon) × Fits v.site.plan x) v.inbox i h.besides.fits (within, fits);
          left = subst (λ (is : List Input). AreLeft (v.inbox ++ i ∷ []) is (put_in input_time input_source i v.waiting)) (sym same) left;
        };
      },
    )

-- so it is once it has the input among those that wait, and in its inbox
pub posted_then : {T E : Type 0} (v : NodeState) (i : Input) (gone : Gone) (waiting inbox : List Input) (r : Result T E) → v.worked_to ≤ input_time i → input_time i ≤ v.horizon → Fits v.site.plan i → Stands v
    → OnOk r (waiting ≡ put_in input_time input_source i v.waiting) → OnOk r (inbox ≡ v.inbox ++ i ∷ []) → OnOk r (Stands (record v { inbox = inbox; gone = gone; waiting = waiting }))
posted_then v i gone waiting inbox (Ok x) late within fits h put noted = subst Stands (λ j. record v { inbox = sym noted j; gone = gone; waiting = sym put j }) (posted v i gone late within fits h)
posted_then v i gone waiting inbox (Err e) late within fits h put noted = tt

-- ## a new node

next_nothing : (o : Option (ℕ × LinkLimits)) → None ≡ option_and_then (λ x. next_decision x.1 [] 0) o
unfolding next_decision
next_nothing o = grind (arith, nat_tests, empty_idles)

pub pairs_first : (links : List (ℕ × LinkPlan)) → map link_pair (map first_link links) ≡ links
pairs_first [] = refl
pairs_first (o ∷ os) = ap (λ (xs : List (ℕ × LinkPlan)). o ∷ xs) (pairs_first os)

-- a node to which nothing happened
pub built : (number horizon : ℕ) (keeps : Memory) (role : Role) (links : List (ℕ × LinkPlan)) (ls : List Link) → horizon ≤ 1000000000000000 → ls ≡ map first_link links → IsSite (site_of number (role_plan role) links) → RoleStands (site_of number (role_plan role) links) role [] → IsBy 0 role
    → Stands (record { site = site_of number (role_plan role) (map link_pair ls); horizon = horizon; inbox = []; events = []; sendings = []; worked_to = 0; keeps = keeps; gone = none_gone; role = role; links = ls; waiting = [] })
built number horizon keeps role links ls h e s r b =
    subst (λ (xs : List Link). Stands (record { site = site_of number (role_plan role) (map link_pair xs); horizon = horizon; inbox = []; events = []; sendings = []; worked_to = 0; keeps = keeps; gone = none_gone; role = role; links = xs; waiting = [] })) (sym e)
    (subst (λ (os : List (ℕ × LinkPlan)). os ≡ links → Stands (record { site = site_of number (role_plan role) os; horizon = horizon; inbox = []; events = []; sendings = []; worked_to = 0; keeps = keeps; gone = none_gone; role = role; links = map first_link links; waiting = [] })) (sym (pairs_first links))
    (λ same. at_first) (pairs_first links))
  where
    site : Site
    site = site_of number (role_plan role) links

    at_first : Stands (record { site = site_of number (role_plan role) links; horizon = horizon; inbox = []; events = []; sendings = []; worked_to = 0; keeps = keeps; gone = none_gone; role = role; links = map first_link links; waiting = [] })
    at_first = (
      [],
      record {
        site = s;
        horizon = (h, omega arith);
        whole = record { in_order = tt; early = tt; steps = tt; none_left = λ time link l. absurd (omega arith) };
        events = refl;
        sendings = refl;
        besides = record {
          plan = refl;
          out = sym (pairs_first links);
          role = r;
          past = b;
          links = All-map (KnowsNext site [] 0) first_link links (λ i d l. next_nothing (limits_out site (get_or links i d).0));
          fits = All-nil (λ x. (input_time x ≤ horizon) × Fits (role_plan role) x);
          left = refl;
        };
      },
    )

-- ## when there is work

comes : (taken : List Input) (i : Input) (rest : List Input) → Contains (map input_time (taken ++ i ∷ rest)) (input_time i)
comes taken i rest = subst (λ ts. Contains ts (input_time i)) (sym (map-append input_time taken (i ∷ rest)))
    (Contains-append_right (map input_time taken) (input_time i ∷ map input_time rest) (input_time i) (Contains-get_or (input_time i ∷ map input_time rest) 0 0 (omega arith)))

next_comes : (inbox taken waiting : List Input) (t : ℕ) → AreLeft inbox taken waiting → first_time waiting ≡ Some t → Contains (map input_time (in_turn inbox)) t
next_comes inbox taken [] t left e = absurd (cc)
next_comes inbox taken (i ∷ is) t left f =
    let same : input_time i ≡ t = cc in
    subst (λ (xs : List Input). Contains (map input_time xs) t) (sym left) (subst (Contains (map input_time (taken ++ i ∷ is))) same (comes taken i is))

-- the next time is one at which there is work
pub work_some : (v : NodeState) (log : List Entry) (t : ℕ) → StandsFor v log → work_time v.waiting v.links ≡ Some t → IsWorkAt v.site (in_turn v.inbox) log v.worked_to t
work_some v log t h e = (
  work_late v log h t e,
  elim (either (first_time v.waiting) (least_next v.links) t e) [
    | inl a ↦ inl (next_comes v.inbox (due v.worked_to (in_turn v.inbox)) v.waiting t h.besides.left a)
    | inr a ↦ let l = any_link (KnowsNext v.site log v.worked_to) v.links t h.besides.links a in inr (l.0.number, sym l.1.0 ∙ l.1.1)
  ],
)

pub first_some : (v : NodeState) (log : List Entry) (t : ℕ) → StandsFor v log → work_time v.waiting v.links ≡ Some t → t < v.horizon + 1 → IsFirstWork v.site (in_turn v.inbox) log v.worked_to v.horizon (Some (record { 0 = t }))
first_some v log t h e l = (omega arith, work_some v log t h e, λ u k w. quiet v log h t (none_sooner t (work_time v.waiting v.links) e) u k w)

pub first_none : (v : NodeState) (log : List Entry) → StandsFor v log → IsNoneBefore (v.horizon + 1) (work_time v.waiting v.links) → IsFirstWork v.site (in_turn v.inbox) log v.worked_to v.horizon None
first_none v log h n = λ u k w. quiet v log h (v.horizon + 1) n u (omega arith) w

-- ## the one link of a host

pub first_valid : (number : ℕ) (links : List (ℕ × LinkPlan)) (uplink : ℕ) (d : ℕ × LinkPlan) → All (IsLinkOut number) links → links_of links ≡ uplink ∷ [] → AreLinkLimits (get_or links 0 d).1.limits
first_valid number [] uplink d a e = absurd (cc)
first_valid number (x ∷ xs) uplink d a e = (All-head (IsLinkOut number) x xs a).limits

pub first_out : (number : ℕ) (plan : NodePlan) (links : List (ℕ × LinkPlan)) (uplink : ℕ) (d : ℕ × LinkPlan) → links_of links ≡ uplink ∷ [] → limits_out (site_of number plan links) uplink ≡ Some (uplink, (get_or links 0 d).1.limits)
first_out number plan [] uplink d e = absurd (cc)
first_out number plan (x ∷ xs) uplink d e = grind (arith, nat_tests)
