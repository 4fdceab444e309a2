-- What a router charges to a flow is what its unmarked packets were charged, each at its place.
use Rattle.tva_laws.proofs.Common.{◌≡◌, ◌<◌, ℕ, Bool, true, false, not, ◌&&◌, cond, leb, List, [], ◌∷◌, ◌++◌, is_some, Option, Some, None, refl, ap, ap₂, sym, ◌∙◌, arith, append_assoc, filter, option_map, AllByRecursion, filter_map, cons_option, find, le-leb, nat_tests, cond_some, same_Some, Fate, Flow, Grant, Rights, RouterPlan, in_force, Shown, Carried, PacketData, check_of, checked_at, Charge, same_flow, of_flow, flow_is, charges_at, arrival, is_marked, each-passes, each-weaker, filter-all, Input, Site, Arrived, Sent, Ticked, Received, Entry, Took, Started, input_time, charged, charge_of, charges, port_logs, NoRowRefusesShown, NoRowRefuses, IsFate, KeepsPromises, Coming, coming, came_at, comings, Deal, shows, is_charged_since, charged_since, WasCharged, those_charged}
use Rattle.tva_shim.specs.declared.packets.Carried.TheVariants as carried
use Rattle.tva_caps.specs.declared.minters.Checked.TheVariants as checks
use Rattle.tva_router.specs.declared.judged.Arrival.{Arrival}
use Rattle.tva_plan.specs.declared.config.NodePlan.TheVariants as plans
use Rattle.tva_laws.proofs.Charges.{last-of}
use Rattle.tva_laws.proofs.RisingLists.{place}

-- ## what was charged

-- the charge of what came
abbrev pub paid_of : Coming → Option Charge
paid_of x = option_map (charged x.time x.packet) x.charge

valid_is : (a b c : Bool) (m g : Grant) → cond a checks.Expired (cond b checks.BadHash (cond c (checks.Valid m) checks.BadHash))
    ≡ checks.Valid g → m ≡ g
valid_is a b c m g e = grind (arith, nat_tests)

pub valid_flow : (master : List ℕ) (second : ℕ) (flow : Flow) (cap : ℕ) (rights : Rights) (g : Grant)
    → check_of master second flow cap rights ≡ checks.Valid g → g.flow ≡ flow
unfolding check_of checked_at
valid_flow master second flow cap rights g e = sym (ap (λ (x : Grant). x.flow) (valid_is _ _ _ _ g e))

-- a grant to which a packet is charged is its flow's, and the packet is unmarked and shows a grant
pub record IsClaim (flow : Flow) (c : Carried) (g : Grant) : Type 0 where
  pub flow_is : g.flow ≡ flow
  pub unmarked : is_marked c ≡ false
  pub shown : shows c ≡ true

shown_flow : (plan : RouterPlan) (h : List Charge) (a : Arrival) (shown : Shown) (g : Grant) → NoRowRefusesShown plan h a shown g
    → g.flow ≡ a.flow
shown_flow plan h a shown g r = valid_flow plan.master _ a.flow r.cap shown.rights g r.valid

pub claim : (plan : RouterPlan) (h : List Charge) (a : Arrival) (c : Carried) (g : Grant) → NoRowRefuses plan h a c g → IsClaim a.flow c g
claim plan h a c g r = grind (arith, nat_tests, flow_is, shown_flow, last-of, each-passes)

-- ## one entry

module _ (f : Flow) where
  unpaid : (b : Bool) (x : Coming) → x.charge ≡ None → [] ≡ filter_map paid_of (cons_option (cond b (Some x) None) [])
  unpaid b x e = grind (arith, nat_tests)

  -- what an arrival is charged
  abbrev Charges : Coming → Option Grant → Type 0
  Charges x o = filter (λ (c : Charge). same_flow c.grant.flow f) (cons_option (option_map (charged x.time x.packet) o) [])
      ≡ filter_map paid_of (cons_option (cond (same_flow x.packet.flow f && not (is_marked x.packet.carried)) (Some x) None) [])

  charge_by : (x : Coming) (o : Option Grant) → x.charge ≡ o → ((g : Grant) → o ≡ Some g → IsClaim x.packet.flow x.packet.carried g)
      → Charges x o
  charge_by x o e k = grind (arith, nat_tests, unpaid, flow_is)

-- ## a router's log

module _ (site : Site) (plan : RouterPlan) (is_router : site.plan ≡ plans.Router plan) (until : ℕ) (log : List Entry)
    (keeps : KeepsPromises site until log) where
  pub fate_at : (before : List Entry) (input : Input) (from : Option ℕ) (packet : PacketData) (fate : Fate) (onward : PacketData)
      (rest : List Entry) → log ≡ before ++ Took input (Arrived from packet fate onward) ∷ rest
      → IsFate (in_force plan (input_time input)) (charges_at plan (input_time input) (charges before)) (port_logs before) (input_time input)
      from packet fate onward
  fate_at before input from packet fate onward rest here =
      keeps.fates plan is_router before input (Arrived from packet fate onward) rest here

  pub claim_at : (before : List Entry) (input : Input) (from : Option ℕ) (packet : PacketData) (fate : Fate) (onward : PacketData)
      (rest : List Entry) → log ≡ before ++ Took input (Arrived from packet fate onward) ∷ rest
      → (g : Grant) → fate.charge ≡ Some g
      → NoRowRefuses (in_force plan (input_time input)) (charges_at plan (input_time input) (charges before))
      (arrival (input_time input) from packet) packet.carried g
  claim_at before input from packet fate onward rest here g e = (((fate_at before input from packet fate onward rest here).charged g).0 e).1

  module _ (f : Flow) where
    entry_charges : (before : List Entry) (e : Entry) (rest : List Entry) → log ≡ before ++ e ∷ rest
        → of_flow f (cons_option (charge_of e) []) ≡ filter_map paid_of (cons_option (came_at f e) [])
    entry_charges before (Took input (Arrived from packet fate onward)) rest here =
        charge_by f (coming input packet fate) fate.charge refl
        (λ g e. claim (in_force plan (input_time input)) (charges_at plan (input_time input) (charges before))
        (arrival (input_time input) from packet) packet.carried g
        (claim_at before input from packet fate onward rest here g e))
    entry_charges before (Took input (Sent made outcome)) rest here = refl
    entry_charges before (Took input Ticked) rest here = refl
    entry_charges before (Took input (Received from packet receipt went range)) rest here = refl
    entry_charges before (Started time link class packet) rest here = refl

    -- what is charged to a flow
    charges_from : (before es rest : List Entry) → log ≡ before ++ (es ++ rest) → of_flow f (charges es) ≡ filter_map paid_of (comings f es)
    charges_from before [] rest here = refl
    charges_from before (e ∷ es) rest here = grind (arith, nat_tests, entry_charges, append_assoc, charges_from (before ++ e ∷ []) es rest (here ∙ sym (append_assoc before (e ∷ []) (es ++ rest))))

    pub flow_charges : (before rest : List Entry) → log ≡ before ++ rest
        → of_flow f (charges before) ≡ filter_map paid_of (comings f before)
    flow_charges before rest here = charges_from [] before rest here

    -- where what came stands
    pub record CameAt (front : List Coming) (x : Coming) : Type 0 where
      pub before : List Entry
      pub input : Input
      pub from : Option ℕ
      pub packet : PacketData
      pub fate : Fate
      pub onward : PacketData
      pub rest : List Entry
      pub here : log ≡ before ++ Took input (Arrived from packet fate onward) ∷ rest
      pub is : coming input packet fate ≡ x
      pub flow : same_flow packet.flow f ≡ true
      pub unmarked : is_marked packet.carried ≡ false
      pub front_is : comings f before ≡ front

    and_parts : (a b : Bool) → (a && not b) ≡ true → (a ≡ true) × (b ≡ false)
    and_parts a b e = grind (arith, nat_tests)

    came_by : (front : List Coming) (x : Coming) (before : List Entry) (e : Entry) (rest : List Entry) → log ≡ before ++ e ∷ rest
        → came_at f e ≡ Some x → comings f before ≡ front → CameAt front x
    came_by front x before e rest here gives front_is = grind (arith, nat_tests, cond_some, and_parts)

    pub came_place : (past after : List Entry) → log ≡ past ++ after → (front : List Coming) (x : Coming) (back : List Coming)
        → comings f past ≡ front ++ x ∷ back → CameAt front x
    came_place past after whole front x back e =
        let p = place (came_at f) past front x back e in
        grind (arith, nat_tests, came_by, append_assoc)

-- ## those that were charged

-- all that was charged was so from the first second on
from_first : (o : Option Grant) → is_charged_since 0 o ≡ is_some o
from_first o = grind (arith, nat_tests, le-leb)

pub since_first : (seen : List Coming) → charged_since 0 seen ≡ those_charged seen
since_first [] = refl
since_first (x ∷ xs) = ap₂ (λ (b : Bool) (ys : List Coming). cond b (x ∷ ys) ys) (from_first x.charge) (since_first xs)

-- what is found first of all, and passes, is found first of those that pass
find_by : (p q : Coming → Bool) (x y : Coming) (xs : List Coming) (a : Bool) → q x ≡ a → (find q xs ≡ Some y → find q (filter p xs) ≡ Some y)
    → cond a (Some x) (find q xs) ≡ Some y → p y ≡ true → find q (cond (p x) (x ∷ filter p xs) (filter p xs)) ≡ Some y
find_by p q x y xs a is rest e k = grind (arith, nat_tests, same_Some)

pub find_passing : (p q : Coming → Bool) (xs : List Coming) (y : Coming) → find q xs ≡ Some y → p y ≡ true → find q (filter p xs) ≡ Some y
find_passing p q [] y e k = absurd (cc)
find_passing p q (x ∷ xs) y e k = find_by p q x y xs (q x) refl (λ r. find_passing p q xs y r k) e k

-- what was charged is found among those that were charged
pub was_since : (seen : List Coming) (d : Deal) → WasCharged seen d → WasCharged (charged_since 0 seen) d
was_since seen d was = grind (arith, nat_tests, find_passing, from_first)

-- and its charges are those of no earlier second
pub since_paid : (second : ℕ) (seen : List Coming)
    → filter (λ (c : Charge). leb second c.grant.second) (filter_map paid_of seen) ≡ filter_map paid_of (charged_since second seen)
since_paid second [] = refl
since_paid second (x ∷ xs) = grind (arith, nat_tests, since_paid second xs)

-- of those that were charged the same are of no earlier second as of all
since_again : (second : ℕ) (x : Coming) (xs : List Coming) (o : Option Grant) → x.charge ≡ o
    → charged_since second xs ≡ charged_since second (charged_since 0 xs)
    → cond (is_charged_since second o) (x ∷ charged_since second xs) (charged_since second xs)
    ≡ charged_since second (cond (is_charged_since 0 o) (x ∷ charged_since 0 xs) (charged_since 0 xs))
since_again second x xs o e ih = grind (arith, nat_tests, from_first)

pub since_each : (second : ℕ) (seen : List Coming) → charged_since second seen ≡ charged_since second (charged_since 0 seen)
since_each second [] = refl
since_each second (x ∷ xs) = since_again second x xs x.charge refl (since_each second xs)

-- behind those that were charged to grants of earlier seconds
early_by : (second : ℕ) (x : Coming) (xs ys : List Coming) (o : Option Grant) → x.charge ≡ o
    → AllByRecursion (λ (c : Charge). c.grant.second < second) (cons_option (option_map (charged x.time x.packet) o) (filter_map paid_of xs))
    → (AllByRecursion (λ (c : Charge). c.grant.second < second) (filter_map paid_of xs) → charged_since second (xs ++ ys) ≡ charged_since second ys)
    → cond (is_charged_since second o) (x ∷ charged_since second (xs ++ ys)) (charged_since second (xs ++ ys)) ≡ charged_since second ys
early_by second x xs ys o e k ih = grind (arith, nat_tests)

pub since_early : (second : ℕ) (xs ys : List Coming) → AllByRecursion (λ (c : Charge). c.grant.second < second) (filter_map paid_of xs)
    → charged_since second (xs ++ ys) ≡ charged_since second ys
since_early second [] ys k = refl
since_early second (x ∷ xs) ys k = early_by second x xs ys x.charge refl k (λ l. since_early second xs ys l)

-- a charge of what came
pub charge_parts : (x : Coming) (o : Option Grant) (c : Charge) → x.charge ≡ o → option_map (charged x.time x.packet) o ≡ Some c
    → (g : Grant) × (x.charge ≡ Some g) × (charged x.time x.packet g ≡ c)
charge_parts x o c e k = grind (arith, nat_tests, same_Some)

pub paying : (second : ℕ) (seen : List Coming) → AllByRecursion (λ y. is_some (paid_of y) ≡ true) (charged_since second seen)
paying second seen = grind (arith, nat_tests, each-weaker, each-passes)

-- all charges are of no earlier second than the first
from_none : (cs : List Charge) → AllByRecursion (λ (c : Charge). leb 0 c.grant.second ≡ true) cs
from_none [] = tt
from_none (c ∷ cs) = (le-leb 0 c.grant.second (omega arith), from_none cs)

pub all_paid : (seen : List Coming) → filter_map paid_of seen ≡ filter_map paid_of (charged_since 0 seen)
all_paid seen =
    sym (filter-all (λ (c : Charge). leb 0 c.grant.second) (filter_map paid_of seen) (from_none (filter_map paid_of seen))) ∙ since_paid 0 seen
