-- What a router hands on keeps what no router changes, and each packet of a run was made at the node of its identity.
use Rattle.tva_laws.proofs.Common.{◌≡◌, ℕ, ◌+◌, Bool, cond, List, [], ◌∷◌, ◌++◌, slice_set, Option, Some, None, refl, sym, ap, ◌∙◌, length-set, option_map, IfSome, AllByRecursion, same_Some, HostPlan, RouterPlan, Shown, Kind, Carried, ShimData, with_next_pointer, with_fresh, with_mark, PacketData, made_packet, Charge, Answer, fresh_for, judged_by, judged_request, judged_kind, judged_shim, handle, Made, Receipt, History, intended, receipt_of, Config, NodePlan, IsConfig, Row, RowWhat, Send, Inject, File, Tick, Input, FromTrace, Arrival, Site, Content, Entry, Took, arrived, content, content_by, hosted, made_for, next_id, packet_of_row, routed, sent_out, Logs, log_at, site_at, IsRunTo, site_is, KeepsShown, KeepsKind, KeepsShim, KeepsCarried, Keeps, made_in, comes_in, HasOrigin, at_place, Files, Upper, arith, nat_tests}
use Rattle.tva_shim.specs.declared.entries.Entry as entries
use Rattle.tva_shim.specs.declared.kinds.Kind.TheVariants as kinds
use Rattle.tva_shim.specs.declared.packets.Carried.TheVariants as carried
use Rattle.tva_router.specs.declared.judged.Arrival as arrivals
use Rattle.tva_router.specs.Handling as handling
use Rattle.tva_laws.proofs.PathWalks.{IsInputGood, IsEntryGood, all_good}

-- ## what stays as it is

shown_same : (a : Shown) → KeepsShown a a
shown_same a = record { nonce = refl; rights = refl; count = refl }

kind_same : (a : Kind) → KeepsKind a a
kind_same a = grind (arith, nat_tests)

shim_same : (a : ShimData) → KeepsShim a a
shim_same a = record { version = refl; mark = λ e. e; protocol = refl; kind = kind_same a.kind; back = refl }

pub carried_same : (a : Carried) → KeepsCarried a a
carried_same a = grind (arith, nat_tests, shim_same)

-- ## what a router changes

mark_keeps : (s : ShimData) → KeepsShim s (with_mark s)
mark_keeps s = record { version = refl; mark = λ e. refl; protocol = refl; kind = kind_same s.kind; back = refl }

next_keeps : (s : ShimData) → KeepsShim s (with_next_pointer s)
next_keeps s = grind (arith, nat_tests)

fresh_keeps : (precap : ℕ) (s : ShimData) → KeepsShim s (with_fresh precap s)
fresh_keeps precap s = grind (arith, nat_tests, slice_set, length-set)

abbrev Leaves : ShimData → Carried → Type 0
Leaves s c = KeepsCarried (carried.Shim s) c

by_answer : (shim changed : ShimData) (a : Answer) → KeepsShim shim changed → Leaves shim (judged_by shim changed a).carried
by_answer shim changed a k = grind (arith, nat_tests, mark_keeps)

by_request : (plan : RouterPlan) (a : arrivals.Arrival) (shim : ShimData) (es : List entries.Entry) → shim.kind ≡ kinds.Request es
    → Leaves shim (judged_request plan a shim).carried
by_request plan a shim es e = grind (arith, nat_tests, mark_keeps shim)

by_kind : (plan : RouterPlan) (h : List Charge) (a : arrivals.Arrival) (shim : ShimData) (kind : Kind) → shim.kind ≡ kind
    → Leaves shim (judged_kind plan h a shim kind).carried
by_kind plan h a shim kind e = grind (arith, nat_tests, next_keeps shim, shim_same shim, fresh_keeps (fresh_for plan a) shim)

by_shim : (plan : RouterPlan) (h : List Charge) (a : arrivals.Arrival) (shim : ShimData) → Leaves shim (judged_shim plan h a shim).carried
unfolding judged_shim
by_shim plan h a shim = grind (arith, nat_tests, shim_same, by_kind)

pub same_packet : (p : PacketData) → Keeps p p
same_packet p = record { id = refl; flow = refl; payload = refl; carried = carried_same p.carried; upper = refl }

pub keeps_on : (a b c : PacketData) → Keeps a b → Keeps b c → Keeps a c
keeps_on a b c k l = grind (arith, nat_tests)

pub onward_keeps : (plan : RouterPlan) (h : List Charge) (logs : handling.PortLogs) (now : ℕ) (from : Option ℕ) (p : PacketData)
    → Keeps p (handle plan h logs now from p).onward
unfolding handle
onward_keeps plan h logs now from p = grind (arith, nat_tests, same_packet, by_shim)

-- ## what a node makes has its number

abbrev IsOf : ℕ → Option PacketData → Type 0
IsOf number o = (p : PacketData) → o ≡ Some p → p.id.node ≡ number

none_of : (number : ℕ) → IsOf number None
none_of number p e = absurd (cc)

some_of : (number : ℕ) (q : PacketData) → q.id.node ≡ number → IsOf number (Some q)
some_of number q k p e = ap (λ (x : PacketData). x.id.node) (sym (same_Some q p e)) ∙ k

arrived_of : (number : ℕ) (plan : RouterPlan) (before : List Entry) (now : ℕ) (p : PacketData) → p.id.node ≡ number
    → IsOf number (made_in (arrived plan before now None p))
unfolding arrived
arrived_of number plan before now p k = some_of number p k

passed_of : (number : ℕ) (plan : RouterPlan) (before : List Entry) (now link : ℕ) (p : PacketData)
    → IsOf number (made_in (arrived plan before now (Some link) p))
unfolding arrived
passed_of number plan before now link p = none_of number

row_of : (number : ℕ) (plan : RouterPlan) (before : List Entry) (now : ℕ) (w : RowWhat) (c : Content)
    → option_map (arrived plan before now None) (packet_of_row (next_id number before) w) ≡ Some c
    → IsOf number (made_in c)
row_of number plan before now (Send dst payload) c e = absurd (cc)
row_of number plan before now (File dst size segment) c e = absurd (cc)
row_of number plan before now (Tick dst) c e = absurd (cc)
row_of number plan before now (Inject flow payload carries) c e =
    let p : PacketData = made_packet (next_id number before) flow payload carries in
    search (same_Some (arrived plan before now None p) c e, arrived_of number plan before now p refl)

routed_of : (number : ℕ) (plan : RouterPlan) (before : List Entry) (i : Input) (c : Content) → routed number plan before i ≡ Some c
    → IsOf number (made_in c)
routed_of number plan before (FromTrace row) c e = row_of number plan before row.time.0 row.what c e
routed_of number plan before (Arrival time link packet) c e = search (same_Some (arrived plan before time.0 (Some link) packet) c e, passed_of number plan before time.0 link packet)

sent_of : (number : ℕ) (plan : HostPlan) (h : History) (known : Files) (now : ℕ) (w : RowWhat)
    → IfSome (made_for number plan h known now w) (λ (made : Made). made.packet.id.node ≡ number)
unfolding intended
sent_of number plan h known now w = grind (arith, nat_tests)

sent_by : (number : ℕ) (site : Site) (plan : HostPlan) (before : List Entry) (made : Option Made)
    → IfSome made (λ (m : Made). m.packet.id.node ≡ number) → IsOf number (made_in (sent_out site plan before made))
sent_by number site plan before made k = grind (arith, nat_tests, none_of, some_of)

receipt_by : (number : ℕ) (b : Bool) (r s : Receipt) → IsOf number (option_map (λ (made : Made). made.packet) r.reply)
    → IsOf number (option_map (λ (made : Made). made.packet) s.reply)
    → IsOf number (option_map (λ (made : Made). made.packet) (cond b r s).reply)
receipt_by number b r s k l = grind (arith, nat_tests)

receipt_is : (number : ℕ) (plan : HostPlan) (h : History) (now : ℕ) (p : PacketData) (above : Upper)
    → IsOf number (option_map (λ (made : Made). made.packet) (receipt_of number plan h now p above).reply)
unfolding receipt_of
receipt_is number plan h now p above = grind (arith, nat_tests, none_of number)

hosted_of : (site : Site) (plan : HostPlan) (before : List Entry) (i : Input) → IsOf site.number (made_in (hosted site plan before i))
hosted_of site plan before (FromTrace row) = search (arith, nat_tests, sent_by, sent_of)
hosted_of site plan before (Arrival time link packet) = grind (arith, nat_tests, receipt_is)

made_of : (site : Site) (plan : NodePlan) (before : List Entry) (i : Input) (c : Content) → content_by site plan before i ≡ Some c
    → IsOf site.number (made_in c)
made_of site plan before i c e = grind (arith, nat_tests, routed_of, same_Some, hosted_of)

-- ## in a run

abbrev pub AnyRow : RowWhat → Type 0
AnyRow what = Unit {0}

pub any_rows : (rows : List Row) → AllByRecursion (λ (row : Row). AnyRow row.what) rows
any_rows [] = tt
any_rows (row ∷ rows) = (tt, any_rows rows)

module _ (config : Config) (rows : List Row) (until : ℕ) (logs : Logs) (valid : IsConfig config)
    (run : IsRunTo config rows until logs) where
  made_has : (node : ℕ) (site : Site) → site_at config node ≡ Some site → (before : List Entry) (input : Input) (c : Content)
      (rest : List Entry) → log_at logs node ≡ before ++ Took input c ∷ rest
      → content site before input ≡ Some c → IsInputGood (HasOrigin logs) AnyRow input → (p : PacketData) → made_in c ≡ Some p
      → HasOrigin logs p
  made_has node site is before input c rest here e given p m = grind (arith, nat_tests, made_of site site.plan before input c e p m, site_is config node site valid is, same_packet p)

  hands_on : (plan : RouterPlan) (h : List Charge) (links : handling.PortLogs) (now : ℕ) (from : Option ℕ) (p : PacketData)
      → HasOrigin logs p → HasOrigin logs (handle plan h links now from p).onward
  hands_on plan h links now from p o = grind (arith, nat_tests, onward_keeps)

  -- each packet that a node's log names
  pub origins : (node : ℕ) (site : Site) → site_at config node ≡ Some site → AllByRecursion (IsEntryGood (HasOrigin logs) AnyRow)
      (log_at logs node)
  origins node site is = all_good (HasOrigin logs) AnyRow hands_on config rows until logs valid run (any_rows rows) made_has node site is

  pub origin_at : (node : ℕ) (site : Site) → site_at config node ≡ Some site → (before : List Entry) (input : Input) (c : Content)
      (rest : List Entry) → log_at logs node ≡ before ++ Took input c ∷ rest
      → (packet : PacketData) → comes_in c ≡ Some packet → HasOrigin logs packet
  origin_at node site is before input c rest here packet e = grind (arith, nat_tests, at_place, origins)
