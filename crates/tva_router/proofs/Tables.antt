-- The tables of routes and of links.
use Rattle.tva_router.proofs.Common.{◌≡◌, ℕ, ◌+◌, ◌-◌, ◌<◌, ◌≤◌, Bool, true, false, ◌&&◌, cond, eqb, List, [], ◌∷◌, length, take, drop, get_or, set, Option, Some, None, IfSome, is_some, nat_eq, refl, sym, ap, ◌∙◌, subst, inl, inr, zero, suc, arith, All, AllByRecursion, find, position, position_from, option_map, get, eqb_tells, drop_more, get_or-set_same, All-more, All-weaker, recursion_from_All, position-Some, position_from-zero, holds, kept, IsPrefix, Address, Route, longest, leads, link_to, Places, ArePlacesFrom, PrefixPlaces, has_prefix, AreRoutePlacesFrom, AreMarked, IsTableOf, RouteTable}
use Rattle.tva_router.specs.Tables.{same_prefix}
use Rattle.tva_router.proofs.Links.{is_at, at_within, find_there, find_nowhere}
use Rattle.tva_router.proofs.Ports.{same_link}
use Rattle.tva_router.proofs.Ways.{all_at, found_is, none_is, Within, greatest, reached, both, leads_is, link_none, not_true}
use Rattle.tva_base.proofs.Each.{eqb-sym}

-- ## made from the last to the first

-- an element and those behind it
drop_before : {X : Type 0} (xs : List X) (n m : ℕ) (d : X) → n ≤ length xs → m + 1 ≡ n → drop m xs ≡ get_or xs m d ∷ drop n xs
drop_before xs n m d within next = drop_more xs m d (omega (arith, within, next)) ∙ ap (λ (k : ℕ). get_or xs m d ∷ drop k xs) next

-- one link more
pub places-before : {X : Type 0} (links : List (ℕ × X)) (n m : ℕ) (d : ℕ × X) (old new : Places) → n ≤ length links → m + 1 ≡ n → ArePlacesFrom n (drop n links) old
    → ((q : ℕ) → get nat_eq new q ≡ cond (eqb (get_or links m d).0 q) (Some m) (get nat_eq old q)) → ArePlacesFrom m (drop m links) new
places-before {X} links n m d old new within next is updates = grind (arith, position_from, drop_before)

-- a place is one of the list
pub place_within : {X : Type 0} (links : List (ℕ × X)) (link : ℕ) (o : Option ℕ) → o ≡ position (λ z. eqb z.0 link) links → IfSome o (λ at. at < length links)
place_within links link None e = tt
place_within links link (Some at) e = at_within links at link (is_at links at link (sym e))

-- one route more
pub route_places-before : (routes : List Route) (n m : ℕ) (d : Route) (old new : PrefixPlaces) → n ≤ length routes → m + 1 ≡ n → AreRoutePlacesFrom n (drop n routes) old
    → ((q : ℕ × ℕ) → get same_prefix new q ≡ cond (same_prefix ((get_or routes m d).prefix.bits, (get_or routes m d).prefix.address.0) q) (Some m) (get same_prefix old q))
    → AreRoutePlacesFrom m (drop m routes) new
route_places-before routes n m d old new within next is updates = grind (arith, position_from, drop_before)

-- ## which lengths there are

marked_kept : (marks : List Bool) (i k : ℕ) → get_or marks k false ≡ true → get_or (set marks i true) k false ≡ true
marked_kept (m ∷ ms) zero zero h = refl
marked_kept (m ∷ ms) (suc i) (suc k) h = marked_kept ms i k h
marked_kept _ _ _ h = h

pub marked-more : (routes : List Route) (i : ℕ) (d : Route) (marks : List Bool) → i < length routes → (get_or routes i d).prefix.bits < length marks → AreMarked (take i routes) marks
    → AreMarked (take (i + 1) routes) (set marks (get_or routes i d).prefix.bits true)
marked-more routes i d marks within fits a =
    let bits : ℕ = (get_or routes i d).prefix.bits in
    let after : Route → Type 0 = λ r. get_or (set marks bits true) r.prefix.bits false ≡ true in
    All-more after routes i d within
    (All-weaker (λ (r : Route). get_or marks r.prefix.bits false ≡ true) after (λ r k. marked_kept marks bits r.prefix.bits k) (take i routes) a)
    (get_or-set_same marks bits true false fits)

pub all_short : (routes : List Route) → All (λ r. IsPrefix r.prefix) routes → All (λ r. r.prefix.bits ≤ 32) routes
all_short routes a = All-weaker (λ (r : Route). IsPrefix r.prefix) (λ (r : Route). r.prefix.bits ≤ 32) (λ r k. k.bits) routes a

-- ## a look-up at one length

and_true : (b : Bool) → b && true ≡ b
and_true true = refl
and_true false = refl

and_false : (b : Bool) → b && false ≡ false
and_false true = refl
and_false false = refl

-- a prefix of that length that the destination begins with is that of its first bits
has_leads : (bits : ℕ) (dst : Address) (r : Route) → has_prefix bits (kept dst bits).0 r ≡ leads bits dst r
has_leads bits dst r = grind (arith, eqb_tells, eqb-sym, and_true, and_false)

-- tests that agree find the same place
place_same : (p q : Route → Bool) (n : ℕ) (routes : List Route) → ((r : Route) → p r ≡ q r) → position_from p n routes ≡ position_from q n routes
place_same p q n routes same = grind (arith, position_from)

place_none : (p : Route → Bool) (n : ℕ) (routes : List Route) → AllByRecursion (λ r. p r ≡ false) routes → position_from p n routes ≡ None
place_none p n [] a = refl
place_none p n (r ∷ rs) a = ap (λ (b : Bool). cond b (Some n) (position_from p (n + 1) rs)) a.0 ∙ place_none p (n + 1) rs a.1

find_none : (p : Route → Bool) (routes : List Route) → AllByRecursion (λ r. p r ≡ false) routes → find p routes ≡ None
find_none p [] a = refl
find_none p (r ∷ rs) a = ap (λ (b : Bool). cond b (Some r) (find p rs)) a.0 ∙ find_none p rs a.1

all_none : (p : Route → Bool) (routes : List Route) → All (λ r. p r ≡ false) routes → find p routes ≡ None
all_none p routes a = find_none p routes (recursion_from_All (λ (r : Route). p r ≡ false) routes a)

-- the table has the place
pub place_looked : (routes : List Route) (table : RouteTable) (dst : Address) (bits : ℕ) → IsTableOf routes table
    → get same_prefix table.places (bits, (kept dst bits).0) ≡ position (leads bits dst) routes
place_looked routes table dst bits t = grind (arith, place_same, has_leads, position_from-zero)

unmarked_leads : (marks : List Bool) (dst : Address) (bits : ℕ) (r : Route) → get_or marks bits false ≡ false → get_or marks r.prefix.bits false ≡ true → leads bits dst r ≡ false
unmarked_leads marks dst bits r none some = grind (arith, eqb_tells, and_false)

-- no prefix has that length
pub place_unmarked : (routes : List Route) (marks : List Bool) (dst : Address) (bits : ℕ) → AreMarked routes marks → get_or marks bits false ≡ false → None ≡ position (leads bits dst) routes
place_unmarked routes marks dst bits a none = grind (arith, unmarked_leads, position_from-zero, place_none, recursion_from_All)

-- a place is one of the list
pub route_within : (p : Route → Bool) (routes : List Route) (o : Option ℕ) → o ≡ position p routes → IfSome o (λ at. at < length routes)
route_within p routes o e = grind (arith, position-Some)

-- the route there is the one that is found, or none is
pub link_there : (p : Route → Bool) (routes : List Route) (at : ℕ) (d : Route) → Some at ≡ position p routes → Some (get_or routes at d).link ≡ option_map (λ (r : Route). r.link) (find p routes)
link_there p routes at d e = sym (ap (λ (o : Option Route). option_map (λ (r : Route). r.link) o) (find_there p routes at d (sym e)))

pub link_nowhere : (p : Route → Bool) (routes : List Route) → None ≡ position p routes → None ≡ option_map (λ (r : Route). r.link) (find p routes)
link_nowhere p routes e = sym (ap (λ (o : Option Route). option_map (λ (r : Route). r.link) o) (find_nowhere p routes (sym e)))

-- ## from the longest length down

-- a prefix that the destination begins with is so much shorter than an address
abbrev pub IsShorter : Address → ℕ → Route → Type 0
IsShorter dst shorter r = holds r.prefix dst ≡ true → r.prefix.bits + shorter ≤ 32

pub shorter_at_first : (routes : List Route) (dst : Address) → All (λ r. r.prefix.bits ≤ 32) routes → All (IsShorter dst 0) routes
shorter_at_first routes dst a = All-weaker (λ (r : Route). r.prefix.bits ≤ 32) (IsShorter dst 0) (λ r k h. omega (arith, k)) routes a

none_some : (o : Option ℕ) → is_some o ≡ false → o ≡ None
none_some None e = refl
none_some (Some n) e = absurd (cc)

shorter_one : (dst : Address) (shorter : ℕ) (r : Route) → shorter ≤ 32 → IsShorter dst shorter r → leads (32 - shorter) dst r ≡ false → IsShorter dst (shorter + 1) r
shorter_one dst shorter r le s none h = grind (arith, eqb_tells, leads_is)

-- nothing was found at this length
pub shorter-more : (routes : List Route) (dst : Address) (shorter : ℕ) (o : Option ℕ) → shorter ≤ 32 → o ≡ option_map (λ r. r.link) (find (leads (32 - shorter) dst) routes) → is_some o ≡ false
    → All (IsShorter dst shorter) routes → All (IsShorter dst (shorter + 1)) routes
shorter-more routes dst shorter o le looked none a = grind (arith, none_is, link_none, none_some, shorter_one)

longest_found : (routes : List Route) (dst : Address) (bits : ℕ) (r : Route) → find (leads bits dst) routes ≡ Some r → All (Within dst bits) routes → longest routes dst ≡ bits
longest_found routes dst bits r e a =
    let f = found_is (leads bits dst) routes r e in
    let b = both (holds r.prefix dst) (eqb r.prefix.bits bits) f.1 in
    let same : r.prefix.bits ≡ bits = same_link r.prefix.bits bits b.1 in
    let least : r.prefix.bits ≤ longest routes dst = all_at (Within dst (longest routes dst)) routes r (greatest 0 routes dst).1 f.0 b.0 in
    elim (reached 0 routes dst) [
      | inl k ↦ omega (arith, same, least, k)
      | inr k ↦ let most : k.0.prefix.bits ≤ bits = all_at (Within dst bits) routes k.0 a k.1.0 k.1.1.0 in omega (arith, same, least, most, k.1.1.1)
    ]

found_at : (routes : List Route) (dst : Address) (bits : ℕ) (o : Option Route) → find (leads bits dst) routes ≡ o → is_some (option_map (λ (r : Route). r.link) o) ≡ true → All (Within dst bits) routes → longest routes dst ≡ bits
found_at routes dst bits None e some a = absurd (cc)
found_at routes dst bits (Some r) e some a = longest_found routes dst bits r e a

-- what is found first is at the greatest length
pub found_longest : (routes : List Route) (dst : Address) (shorter : ℕ) (o : Option ℕ) → shorter ≤ 32 → o ≡ option_map (λ r. r.link) (find (leads (32 - shorter) dst) routes) → is_some o ≡ true
    → All (IsShorter dst shorter) routes → o ≡ link_to routes dst
unfolding link_to
found_longest routes dst shorter o le looked some a =
    let within : All (Within dst (32 - shorter)) routes = All-weaker (IsShorter dst shorter) (Within dst (32 - shorter)) (λ r k h. omega (arith, k h)) routes a in
    let there : is_some (option_map (λ (r : Route). r.link) (find (leads (32 - shorter) dst) routes)) ≡ true = subst (λ (z : Option ℕ). is_some z ≡ true) looked some in
    let bits : longest routes dst ≡ 32 - shorter = found_at routes dst (32 - shorter) (find (leads (32 - shorter) dst) routes) refl there within in
    looked ∙ ap (λ (n : ℕ). option_map (λ (r : Route). r.link) (find (leads n dst) routes)) (sym bits)

holds_none : (dst : Address) (shorter : ℕ) (r : Route) → 33 ≤ shorter → IsShorter dst shorter r → (n : ℕ) → leads n dst r ≡ false
holds_none dst shorter r ge s n = grind (arith, not_true)

-- nothing was found at any length
pub found_nowhere : (routes : List Route) (dst : Address) (shorter : ℕ) → 33 ≤ shorter → All (IsShorter dst shorter) routes → None ≡ link_to routes dst
unfolding link_to
found_nowhere routes dst shorter ge a = grind (arith, all_none, holds_none)
