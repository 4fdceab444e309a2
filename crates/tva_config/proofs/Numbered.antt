-- Maps that number names or pairs, and one more of them.
use Rattle.tva_config.proofs.Common.{◌≡◌, ◌<◌, ◌≤◌, ◌-◌, map, take, drop, get_or, Err, codes, ℕ, ◌+◌, ◌==◌, ◌||◌, Bool, true, false, not, cond, List, [], ◌∷◌, ◌++◌, length, Some, None, is_some, refl, ap, sym, subst, ◌∙◌, eqb-true, arith, length-append, list_any, position_from, bytes_eq, get, and_parts, list_any-append, take_more, drop_more, take_all, get_or-map, get_or_append_left, get_or-append_right, length-map, length-take-le, map-append, Address, RouterEntry, HostEntry, in_turn, at, fault_at, node_names, node_of, node_place, name_step, address_step, Continues, LinkPlan, get_by_text, same_from_decides, bytes_eq-Decides, joins, Numbers, IsNumbers, Pairs, same_ends, link_at, IsPairs}
use Rattle.tva_config_entries.specs.declared.faults.ConfigRule.TheVariants as rule
use Rattle.tva_config_entries.specs.declared.faults.ConfigTable.TheVariants as table
use Rattle.std.specs.Map.{update}
use Rattle.tva_config.proofs.Positions.{position_is_some, position_push, position_or_none}

-- a pair is among the links where the map has it
pub pair_is_there : (pairs : Pairs) (links : List LinkPlan) (from to : ℕ) → IsPairs pairs links → is_some (link_at pairs from to) ≡ list_any (joins from to) links
pair_is_there pairs links from to is = ap (λ o. is_some o) (is from to) ∙ position_is_some (joins from to) 0 links

pushed_at : {A : Type 0} (test : A → Bool) (xs : List A) (x : A) (n : ℕ) (b : Bool) → test x ≡ b → n ≡ length xs → (test x ≡ true → list_any test xs ≡ false)
    → cond (test x) (Some n) (position_from test 0 xs) ≡ cond (list_any test xs) (position_from test 0 xs) (cond (test x) (Some (0 + length xs)) None)
pushed_at test xs x n true is last new =
    let absent = new is in
    let zero_add : n ≡ 0 + length xs = omega arith in
    rw (is, absent, zero_add)
pushed_at test xs x n false is last new = rw is (sym (position_or_none test 0 xs))

-- what a look-up finds behind one more element, by whether it is that one
pub pushed_number : {A : Type 0} (test : A → Bool) (xs : List A) (x : A) (n : ℕ) → n ≡ length xs → (test x ≡ true → list_any test xs ≡ false)
    → cond (test x) (Some n) (position_from test 0 xs) ≡ position_from test 0 (xs ++ x ∷ [])
pushed_number test xs x n last new = pushed_at test xs x n (test x) refl last new ∙ sym (position_push test 0 xs x)

pub pairs_push : (old new : Pairs) (links : List LinkPlan) (link : LinkPlan) (n : ℕ) → IsPairs old links
    → ((q : ℕ × ℕ) → get same_ends new q ≡ cond (same_ends (link.from, link.to) q) (Some n) (get same_ends old q))
    → list_any (joins link.from link.to) links ≡ false → n ≡ length links → IsPairs new (links ++ link ∷ [])
pairs_push old new links link n is updates single last = λ from to.
    updates (from, to)
    ∙ ap (λ o. cond (joins from to link) (Some n) o) (is from to)
    ∙ pushed_number (joins from to) links link n last (λ same.
    let (begins, ends) = and_parts (link.from == from) (link.to == to) same in
    let from_is : link.from ≡ from = eqb-true link.from from begins in
    let to_is : link.to ≡ to = eqb-true link.to to ends in
    rw (← from_is, ← to_is) single)

or_last : (b any : Bool) → cond b true any ≡ (any || (b || false))
or_last b any = grind arith

-- whether one more element or one of those before it passes
pub any_push : {A : Type 0} (test : A → Bool) (xs : List A) (x : A) → cond (test x) true (list_any test xs) ≡ list_any test (xs ++ x ∷ [])
any_push test xs x = or_last (test x) (list_any test xs) ∙ sym (list_any-append test xs (x ∷ []))

-- a name is among those numbered where the map has it
pub name_is_there : (numbers : Numbers) (names : List (List ℕ)) (name : List ℕ) → IsNumbers numbers names → is_some (get_by_text numbers name) ≡ list_any (bytes_eq name) names
name_is_there numbers names name is = ap (λ o. is_some o) (is name) ∙ position_is_some (bytes_eq name) 0 names

flipped : (xs ys : List ℕ) → bytes_eq xs ys ≡ bytes_eq ys xs
flipped xs ys =
    let there = bytes_eq-Decides xs ys in
    let back = bytes_eq-Decides ys xs in
    same_from_decides (bytes_eq xs ys) (bytes_eq ys xs) there (λ h. sym (back.0 h), λ e. back.1 (sym e))

pub names_push : (old new : Numbers) (names : List (List ℕ)) (name : List ℕ) (n : ℕ) → IsNumbers old names
    → ((q : List ℕ) → get_by_text new q ≡ update bytes_eq (get_by_text old) name (Some n) q)
    → list_any (bytes_eq name) names ≡ false → n ≡ length names → IsNumbers new (names ++ name ∷ [])
names_push old new names name n is updates single last = λ q.
    updates q
    ∙ ap (λ o. cond (bytes_eq name q) (Some n) o) (is q)
    ∙ ap (λ b. cond b (Some n) (position_from (bytes_eq q) 0 names)) (flipped name q)
    ∙ pushed_number (bytes_eq q) names name n last (λ same. let e : q ≡ name = (bytes_eq-Decides q name).0 same in rw e single)

-- there are as many names as nodes
pub names_long : (routers : List RouterEntry) (hosts : List HostEntry) → length (node_names routers hosts) ≡ length routers + length hosts
names_long routers hosts = simp (length-append, length-map)

pub length_taken : (names : List (List ℕ)) (i : ℕ) → i ≤ length names → i ≡ length (take i names)
length_taken names i within = sym (length-take-le i names within)

-- the name of a router, and that of a host
pub router_name : (routers : List RouterEntry) (hosts : List HostEntry) (node : ℕ) (d : RouterEntry) → node < length routers
    → (get_or routers node d).name ≡ get_or (node_names routers hosts) node []
router_name routers hosts node d within =
    let long : node < length (map (λ (x : RouterEntry). x.name) routers) = simp length-map within in
    sym (get_or-map (λ (x : RouterEntry). x.name) routers node d [] within)
    ∙ sym (get_or_append_left (map (λ (x : RouterEntry). x.name) routers) (map (λ (x : HostEntry). x.name) hosts) [] node long)

pub host_name : (routers : List RouterEntry) (hosts : List HostEntry) (node : ℕ) (d : HostEntry) → length routers ≤ node → node - length routers < length hosts
    → (get_or hosts (node - length routers) d).name ≡ get_or (node_names routers hosts) node []
host_name routers hosts node d behind within =
    sym (get_or-map (λ (x : HostEntry). x.name) hosts (node - length routers) d [] within)
    ∙ sym (get_or-append_right (map (λ (x : RouterEntry). x.name) routers) (map (λ (x : HostEntry). x.name) hosts) (length routers) node [] (length-map routers (λ (x : RouterEntry). x.name)) behind)

-- a new name takes a step
pub name_continues : (routers : ℕ) (names : List (List ℕ)) (i : ℕ) → i < length names
    → list_any (bytes_eq (get_or names i [])) (take i names) ≡ false
    → Continues (name_step routers) (take i names) (drop i names) names → Continues (name_step routers) (take (i + 1) names) (drop (i + 1) names) names
name_continues routers names i within new before =
    let opened = rw (drop_more names i [] within, new) at before in
    rw (take_more names i [] within) opened

-- and another ends the steps
pub name_stops : (routers : ℕ) (names : List (List ℕ)) (i : ℕ) → i < length names
    → list_any (bytes_eq (get_or names i [])) (take i names) ≡ true
    → Continues (name_step routers) (take i names) (drop i names) names
    → in_turn (name_step routers) [] names ≡ Err (fault_at (node_place routers i) rule.Names (codes "name"))
name_stops routers names i within old before =
    let opened = rw (drop_more names i [] within, old) at before in
    let few : i ≤ length names = omega arith in
    sym opened ∙ ap (λ n. Err (fault_at (node_place routers n) rule.Names (codes "name"))) (sym (length_taken names i few))

-- all names are numbered
pub all_named : (numbers : Numbers) (names : List (List ℕ)) (i : ℕ) → length names ≤ i → IsNumbers numbers (take i names) → get_by_text numbers ≡ node_of names
all_named numbers names i past is = λ j q. subst (IsNumbers numbers) (take_all i names past) is q j

pub untrue : (b : Bool) → not b ≡ false → b ≡ true
untrue b is = grind arith

pub true_not : (b : Bool) → not b ≡ true → b ≡ false
true_not b is = grind arith

-- a new address takes a step
pub address_continues : (hosts : List HostEntry) (i : ℕ) (h : HostEntry) (all : List HostEntry) → i < length hosts → h ≡ get_or hosts i h
    → list_any (λ a. a.0 == h.address.0) (map (λ x. x.address) (take i hosts)) ≡ false
    → Continues address_step (map (λ x. x.address) (take i hosts)) (drop i hosts) all → Continues address_step (map (λ x. x.address) (take (i + 1) hosts)) (drop (i + 1) hosts) all
address_continues hosts i h all within is new before =
    let opened = rw (drop_more hosts i h within, ← is, new) at before in
    rw (take_more hosts i h within, map-append (λ (x : HostEntry). x.address) (take i hosts) (get_or hosts i h ∷ []), ← is) opened

pub seen_push : (hosts : List HostEntry) (i : ℕ) (h : HostEntry) (q : ℕ) → i < length hosts → h ≡ get_or hosts i h
    → cond (h.address.0 == q) true (list_any (λ a. a.0 == q) (map (λ x. x.address) (take i hosts))) ≡ list_any (λ a. a.0 == q) (map (λ x. x.address) (take (i + 1) hosts))
seen_push hosts i h q within is =
    any_push (λ (a : Address). a.0 == q) (map (λ (x : HostEntry). x.address) (take i hosts)) h.address
    ∙ sym (rw (take_more hosts i h within, map-append (λ (x : HostEntry). x.address) (take i hosts) (get_or hosts i h ∷ []), ← is))

-- and another ends the steps
pub address_stops : (hosts : List HostEntry) (i : ℕ) (h : HostEntry) (all : List HostEntry) → i < length hosts → h ≡ get_or hosts i h
    → list_any (λ a. a.0 == h.address.0) (map (λ x. x.address) (take i hosts)) ≡ true
    → Continues address_step (map (λ x. x.address) (take i hosts)) (drop i hosts) all
    → in_turn address_step [] all ≡ Err (fault_at (at table.Host i) rule.Addresses (codes "address"))
address_stops hosts i h all within is old before =
    let opened = rw (drop_more hosts i h within, ← is, old) at before in
    let few : i ≤ length hosts = omega arith in
    let long : length (map (λ (x : HostEntry). x.address) (take i hosts)) ≡ i = length-map (take i hosts) (λ (x : HostEntry). x.address) ∙ length-take-le i hosts few in
    sym opened ∙ ap (λ n. Err (fault_at (at table.Host n) rule.Addresses (codes "address"))) long
