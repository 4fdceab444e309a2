-- What the steps over links show of the links that they accept.
use Rattle.tva_config.proofs.Common.{◌≡◌, ◌<◌, ◌==◌, ℕ, ◌+◌, ◌^◌, Bool, true, false, ◌&&◌, cond, List, [], ◌∷◌, ◌++◌, length, map, Ok, Some, All, refl, ap, sym, ◌∙◌, subst, arith, list_any, position_from, bytes_eq, eq-eqb, map-append, All-nil, LinkPlan, AreDistinct, HostEntry, LinkEntry, at, fault_at, unless, found, node_of, joins, link_step, only, uplink_step, links_of, uplinks_of, links_from, IsLinkEntry, IsLinkPlan, ends_of, first_gave, unless_gave, found_gave, in_turn_keeps, in_turn_keeps_of, distinct_push, all_push}
use Rattle.tva_config_entries.specs.declared.faults.ConfigTable.TheVariants as table
use Rattle.tva_config_entries.specs.declared.faults.ConfigRule.TheVariants as rule
use Rattle.tva_config.proofs.StepsKeep.{not_in, any_of_map}

position_at : {A : Type 0} (test : A → Bool) (k : ℕ) (xs : List A) (n : ℕ) (b : Bool) → (position_from test (k + 1) xs ≡ Some n → n < (k + 1) + length xs)
    → cond b (Some k) (position_from test (k + 1) xs) ≡ Some n → n < k + (length xs + 1)
position_at test k xs n true more is = let here : k ≡ n = cc in omega arith
position_at test k xs n false more is = let below : n < (k + 1) + length xs = more is in omega arith

-- a place that was found is one of the list's
pub position_within : {A : Type 0} (test : A → Bool) (k : ℕ) (xs : List A) (n : ℕ) → position_from test k xs ≡ Some n → n < k + length xs
position_within test k [] n is = absurd (cc)
position_within test k (x ∷ xs) n is =
    let long : length xs + 1 ≡ length (x ∷ xs) = omega arith in
    let below : n < k + (length xs + 1) = position_at test k xs n (test x) (position_within test (k + 1) xs n) is in
    omega arith

pub node_within : (names : List (List ℕ)) (name : List ℕ) (n : ℕ) → node_of names name ≡ Some n → n < length names
node_within names name n is = let below : n < 0 + length names = position_within (bytes_eq name) 0 names n is in omega arith

-- the links so far are between two of so many nodes, each tag has 16 bits, and no two have the same ends
pub record AreLinks (count : ℕ) (links : List LinkPlan) : Type 0 where
  pub each : All (IsLinkPlan count) links
  pub tags : All (λ l. l.tag < 2 ^ 16) links
  pub pairs : AreDistinct (map ends_of links)

joins_itself : (from to : ℕ) → ((from == from) && (to == to)) ≡ true
joins_itself from to = let same : (from == from) ≡ true = eq-eqb from from refl in let also : (to == to) ≡ true = eq-eqb to to refl in rw (same, also)

link_more : (names : List (List ℕ)) (done : List LinkPlan) (x : LinkEntry) (y : LinkPlan) → IsLinkEntry x → AreLinks (length names) done → link_step (node_of names) done x ≡ Ok y
    → AreLinks (length names) (done ++ y ∷ [])
link_more names done x y entry links made =
    let (from, begins, made1) = first_gave (found (node_of names x.from) (fault_at (at table.Link (length done)) rule.Ends _)) _ y made in
    let (to, ends, made2) = first_gave (found (node_of names x.to) (fault_at (at table.Link (length done)) rule.Ends _)) _ y made1 in
    let (u, apart, made3) = first_gave (unless (from == to) (fault_at (at table.Link (length done)) rule.Ends _)) _ y made2 in
    let (v, single, made4) = first_gave (unless (list_any (joins from to) done) (fault_at (at table.Link (length done)) rule.Pair _)) _ y made3 in
    let plan : LinkPlan = record { from = from; to = to; delay = x.delay; tag = x.tag; limits = x.limits } in
    let is : plan ≡ y = cc in
    let two : (from == to) ≡ false = unless_gave _ _ u apart in
    let new : list_any (joins from to) done ≡ false = unless_gave _ _ v single in
    let valid : IsLinkPlan (length names) plan = record {
      from = node_within names x.from from (found_gave _ _ from begins);
      to = node_within names x.to to (found_gave _ _ to ends);
      apart = λ same. let equal : (from == to) ≡ true = eq-eqb from to same in let no : true ≡ false = sym equal ∙ two in cc;
      delay = entry.delay;
      limits = entry.limits;
    } in
    let absent : list_any (λ e. (e.0 == from) && (e.1 == to)) (map ends_of done) ≡ false = any_of_map ends_of (λ e. (e.0 == from) && (e.1 == to)) done ∙ new in
    let distinct : AreDistinct (map ends_of done ++ (from, to) ∷ []) =
    distinct_push (map ends_of done) (from, to) links.pairs (not_in (λ e. (e.0 == from) && (e.1 == to)) (from, to) (map ends_of done) absent (joins_itself from to)) in
    let all : AreLinks (length names) (done ++ plan ∷ []) = record {
      each = all_push (IsLinkPlan (length names)) done plan links.each valid;
      tags = all_push (λ (l : LinkPlan). l.tag < 2 ^ 16) done plan links.tags entry.tag;
      pairs = rw (map-append ends_of done (plan ∷ [])) distinct;
    } in
    subst (λ z. AreLinks (length names) (done ++ z ∷ [])) is all

pub links_keep : (names : List (List ℕ)) (entries : List LinkEntry) (links : List LinkPlan) → All IsLinkEntry entries → links_of (node_of names) entries ≡ Ok links → AreLinks (length names) links
unfolding links_of
links_keep names entries links known gave =
    in_turn_keeps_of IsLinkEntry (AreLinks (length names)) (link_step (node_of names)) (link_more names) [] entries links known (record { each = All-nil (IsLinkPlan (length names)); tags = All-nil (λ (l : LinkPlan). l.tag < 2 ^ 16); pairs = tt }) gave

-- each uplink is the one link of its node
abbrev pub AreUplinks : List LinkPlan → ℕ → List ℕ → Type 0
AreUplinks links n [] = Unit {0}
AreUplinks links n (u ∷ us) = (links_from n links ≡ u ∷ []) × AreUplinks links (n + 1) us

only_is : {A : Type 0} (xs : List A) (x : A) → only xs ≡ Some x → xs ≡ x ∷ []
only_is [] x is = absurd (cc)
only_is (y ∷ []) x is = let same : y ≡ x = cc in ap (λ z. z ∷ []) same
only_is (y ∷ z ∷ rest) x is = absurd (cc)

uplinks_push : (links : List LinkPlan) (n : ℕ) (us : List ℕ) (u : ℕ) → AreUplinks links n us → links_from (n + length us) links ≡ u ∷ [] → AreUplinks links n (us ++ u ∷ [])
uplinks_push links n [] u known is = let zero_more : n + 0 ≡ n = omega arith in (rw zero_more at is, tt)
uplinks_push links n (v ∷ us) u known is =
    let further : n + length (v ∷ us) ≡ (n + 1) + length us = omega arith in
    (known.0, uplinks_push links (n + 1) us u known.1 (rw further at is))

uplink_more : (routers : ℕ) (links : List LinkPlan) (done : List ℕ) (x : HostEntry) (y : ℕ) → AreUplinks links routers done → uplink_step routers links done x ≡ Ok y → AreUplinks links routers (done ++ y ∷ [])
uplink_more routers links done x y known made =
    uplinks_push links routers done y known (only_is _ y (found_gave _ _ y made))

pub uplinks_keep : (routers : ℕ) (links : List LinkPlan) (hosts : List HostEntry) (uplinks : List ℕ) → uplinks_of routers links hosts ≡ Ok uplinks → AreUplinks links routers uplinks
unfolding uplinks_of
uplinks_keep routers links hosts uplinks gave =
    in_turn_keeps (AreUplinks links routers) (uplink_step routers links) (uplink_more routers links) [] hosts uplinks tt gave
