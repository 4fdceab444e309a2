-- What a node makes of an input: what goes on is within the sizes of a network.
use Rattle.tva_laws.proofs.Common.{◌≡◌, ℕ, ◌≤◌, List, [], Option, Some, None, refl, sym, ap, ◌∙◌, subst, arith, option_map, IfSome, same_Some, Fate, Grant, RouterPlan, HostPlan, in_force, IsRouterPlan, IsHostPlan, PacketData, IsSizedPacket, carried_fits, Charge, NoChargeLater, IsNext, AreNext, IsWithinSeconds, AreTimely, PortLogs, handle, arrival, charges_at, force_valid, Made, history_of, NodePlan, RowWhat, Input, Site, IsSite, IsPlanned, Content, Arrived, Entry, Took, input_time, charged, charge_of, charges, calls, port_logs, files, packet_of_row, next_id, handled, arrived, routed, hosted, sent_out, content_by, content, IsReplyGood, Leaves, IsSizedWhat, IsSizedInput, IsHandled, nat_tests}
use Rattle.tva_plan.specs.declared.config.NodePlan.TheVariants as plans
use Rattle.tva_laws.proofs.Packets.{sized_length, onward_sized}
use Rattle.tva_laws.proofs.Transfers.{AreSizedFiles, answered_upper}
use Rattle.tva_laws.proofs.Made.{AreMet, IsSizedMade, made_sized, receipt_sized}
use Rattle.tva_laws.proofs.Charging.{IsReady, charge_next}
use Rattle.tva_laws.proofs.Fates.{is_fate}

-- ## at a router

-- an input at a router is a packet that came in, which is within the sizes where the input is
record Came (sizes : Type 0) (plan : RouterPlan) (before : List Entry) (now : ℕ) (made : Content) : Type 0 where
  from : Option ℕ
  packet : PacketData
  sized : sizes → IsSizedPacket packet
  is : arrived plan before now from packet ≡ made

came_row : (number : ℕ) (plan : RouterPlan) (before : List Entry) (now : ℕ) (what : RowWhat) (made : Content) → option_map (arrived plan before now None) (packet_of_row (next_id number before) what) ≡ Some made → Came (IsSizedWhat what) plan before now made
came_row number plan before now what made e = grind (arith, nat_tests, carried_fits, same_Some)

came : (number : ℕ) (plan : RouterPlan) (before : List Entry) (input : Input) (made : Content) → routed number plan before input ≡ Some made → Came (IsSizedInput input) plan before (input_time input) made
came number plan before input made e = grind (arith, nat_tests, same_Some)

-- the plan of a router that there may be, and that of a host
router_valid : (site : Site) (plan : RouterPlan) → IsSite site → site.plan ≡ plans.Router plan → IsRouterPlan plan
router_valid site plan valid e = let planned : IsPlanned (plans.Router plan) site.links = subst (λ (p : NodePlan). IsPlanned p site.links) e valid.planned in planned.0

pub host_valid : (site : Site) (plan : HostPlan) → IsSite site → site.plan ≡ plans.Host plan → IsHostPlan plan
host_valid site plan valid e = let planned : IsPlanned (plans.Host plan) site.links = subst (λ (p : NodePlan). IsPlanned p site.links) e valid.planned in planned.0

arrived_sized : (plan : RouterPlan) (before : List Entry) (now : ℕ) (from : Option ℕ) (p : PacketData) → IsRouterPlan plan → IsSizedPacket p → Leaves IsSizedPacket (arrived plan before now from p)
unfolding arrived
arrived_sized plan before now from p v s = onward_sized (in_force plan now) (charges_at plan now (charges before)) (port_logs before) now from p (force_valid plan now v) s

-- ## at a host

reply_sized : (reply : Option Made) → IfSome reply IsSizedMade → IsReplyGood IsSizedPacket reply
reply_sized reply s = grind (arith, nat_tests)

sent_sized : (site : Site) (plan : HostPlan) (before : List Entry) (made : Option Made) → IfSome made IsSizedMade → Leaves IsSizedPacket (sent_out site plan before made)
sent_sized site plan before made s = grind (arith, nat_tests)

host_sized : (site : Site) (plan : HostPlan) (before : List Entry) (input : Input) → IsHostPlan plan → AreMet plan.version (history_of plan (calls before)).contacts
    → AreSizedFiles (files plan before) → IsSizedInput input → Leaves IsSizedPacket (hosted site plan before input)
host_sized site plan before input v met known s = grind (arith, nat_tests, sent_sized, made_sized, reply_sized, receipt_sized, answered_upper)

-- ## at a node

-- what is known of a host's history
abbrev pub HasMet : Site → List Entry → Type 0
HasMet site before = (plan : HostPlan) → site.plan ≡ plans.Host plan → AreMet plan.version (history_of plan (calls before)).contacts

-- and of its files
abbrev pub HasSizedFiles : List Entry → Type 0
HasSizedFiles before = (plan : HostPlan) → AreSizedFiles (files plan before)

took_by : (site : Site) (plan : NodePlan) (before : List Entry) (input : Input) (made : Content) → IsSite site → site.plan ≡ plan → HasMet site before → HasSizedFiles before
    → IsSizedInput input → content_by site plan before input ≡ Some made → Leaves IsSizedPacket made
took_by site (plans.Router plan) before input made valid e met known s c = grind (arith, nat_tests, came, arrived_sized)
took_by site (plans.Host plan) before input made valid e met known s c = grind (arith, nat_tests, same_Some, host_sized, host_valid)

-- what goes on is within the sizes
pub took_sized : (site : Site) (before : List Entry) (input : Input) (made : Content) → IsSite site → HasMet site before → HasSizedFiles before
    → IsSizedInput input → content site before input ≡ Some made → Leaves IsSizedPacket made
took_sized site before input made valid met known s c = took_by site site.plan before input made valid refl met known s c

-- ## charges

-- a charge is the next one, in its grant's seconds
abbrev pub IsNextCharge : RouterPlan → List Charge → Charge → Type 0
IsNextCharge plan h c = IsNext plan.slots plan.clock_offset h c × IsWithinSeconds plan.clock_offset c.time c.grant

charge_by : (plan : RouterPlan) (h : List Charge) (logs : PortLogs) (now : ℕ) (from : Option ℕ) (p : PacketData) (o : Option Grant) → IsReady plan h (arrival now from p) → (handle plan h logs now from p).fate.charge ≡ o
    → IfSome (option_map (charged now p) o) (IsNextCharge plan h)
charge_by plan h logs now from p o r e = grind (arith, nat_tests, charge_next)

-- it is after those of its boot
abbrev IsCharging : RouterPlan → List Entry → Input → Content → Type 0
IsCharging plan before input made = IfSome (charge_of (Took input made)) (IsNextCharge plan (charges_at plan (input_time input) (charges before)))

arrived_charge : (plan : RouterPlan) (before : List Entry) (input : Input) (from : Option ℕ) (p : PacketData)
    → IsReady (in_force plan (input_time input)) (charges_at plan (input_time input) (charges before)) (arrival (input_time input) from p)
    → IsCharging plan before input (arrived plan before (input_time input) from p)
unfolding arrived in_force
arrived_charge plan before input from p r =
    let now : ℕ = input_time input in
    charge_by (in_force plan now) (charges_at plan now (charges before)) (port_logs before) now from p (handled plan before now from p).fate.charge r refl

-- what an input is charged to
pub took_charge : (site : Site) (plan : RouterPlan) (before : List Entry) (input : Input) (made : Content) → IsSite site → site.plan ≡ plans.Router plan → input_time input ≤ 1000000000000000 → NoChargeLater (input_time input) (charges_at plan (input_time input) (charges before))
    → AreNext plan.slots plan.clock_offset [] (charges_at plan (input_time input) (charges before)) → AreTimely plan.clock_offset (charges_at plan (input_time input) (charges before)) → IsSizedInput input → content site before input ≡ Some made → IsCharging plan before input made
unfolding in_force
took_charge site plan before input made valid e time past legal timely s c =
    let planned : IsPlanned (plans.Router plan) site.links = subst (λ (p : NodePlan). IsPlanned p site.links) e valid.planned in
    let by_plan : routed site.number plan before input ≡ Some made = sym (ap (λ (p : NodePlan). content_by site p before input) e) ∙ c in
    let k = came site.number plan before input made by_plan in
    grind (arith, nat_tests, sized_length, arrived_charge)

-- ## fates

arrived_handled : (plan : RouterPlan) (before : List Entry) (input : Input) (from : Option ℕ) (p : PacketData) → IsHandled plan before input (arrived plan before (input_time input) from p)
unfolding arrived
arrived_handled plan before input from p = grind (arith, nat_tests, is_fate)

-- a router handles each input
pub took_handled : (site : Site) (plan : RouterPlan) (before : List Entry) (input : Input) (made : Content) → site.plan ≡ plans.Router plan → content site before input ≡ Some made → IsHandled plan before input made
took_handled site plan before input made e c = grind (arith, nat_tests, came, arrived_handled)

came_is : (plan : RouterPlan) (before : List Entry) (now : ℕ) (on from : Option ℕ) (q p : PacketData) (fate : Fate) (onward : PacketData) → arrived plan before now on q ≡ Arrived from p fate onward
    → fate ≡ (handled plan before now from p).fate
unfolding arrived
came_is plan before now on from q p fate onward e = search

-- the fate of an arrival is what the router makes of it
pub fate_is : (site : Site) (plan : RouterPlan) (before : List Entry) (input : Input) (from : Option ℕ) (p : PacketData) (fate : Fate) (onward : PacketData) → site.plan ≡ plans.Router plan
    → content site before input ≡ Some (Arrived from p fate onward) → fate ≡ (handled plan before (input_time input) from p).fate
fate_is site plan before input from p fate onward e c = grind (arith, nat_tests, came, came_is)
