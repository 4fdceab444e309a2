-- What a packet brings as return info can be carried by a shim of some version, in each run of a trace.
use Rattle.tva_laws.proofs.Common.{◌≡◌, ℕ, List, ◌∷◌, ◌++◌, Option, Some, None, option_map, IfSome, AllByRecursion, same_Some, Address, Outcome, HostPlan, RouterPlan, AreSomeRights, some_rights, Carried, IsReturn, PacketData, back_in, Charge, Deed, grant_decision, Shape, handle, Made, Receipt, History, carried_by, intended, ClaimData, answer_to_claim, receipt_of, Config, NodePlan, IsConfig, Row, RowWhat, Input, FromTrace, Arrival, Site, IsPlanned, Content, Received, Entry, Took, arrived, content, content_by, hosted, made_for, next_id, packet_of_row, routed, sent_out, Logs, log_at, site_at, IsRunTo, site_is, made_in, at_place, Files, Upper, DataLine, arith, nat_tests}
use Rattle.tva_shim.specs.declared.packets.Carried.TheVariants as carried
use Rattle.tva_router.specs.Handling as handling
use Rattle.tva_laws.proofs.PathWalks.{IsInputGood, IsEntryGood, all_good}
use Rattle.tva_laws.proofs.Origins.{onward_keeps}
use Rattle.tva_laws.proofs.Given.{RowReturns, AreGiven}

abbrev pub Returns : PacketData → Type 0
Returns p = IsReturn 2 (back_in p.carried)

-- ## what is handed on

hands_on : (plan : RouterPlan) (h : List Charge) (logs : handling.PortLogs) (now : ℕ) (from : Option ℕ) (p : PacketData) → Returns p
    → Returns (handle plan h logs now from p).onward
hands_on plan h logs now from p k = grind (arith, nat_tests, onward_keeps)

-- ## what is made

abbrev Makes : Content → Type 0
Makes c = (p : PacketData) → made_in c ≡ Some p → Returns p

row_made : (number : ℕ) (plan : RouterPlan) (before : List Entry) (now : ℕ) (w : RowWhat) (c : Content) → RowReturns w
    → option_map (arrived plan before now None) (packet_of_row (next_id number before) w) ≡ Some c → Makes c
unfolding arrived
row_made number plan before now w c k e = grind (arith, nat_tests, same_Some)

came_made : (plan : RouterPlan) (before : List Entry) (now link : ℕ) (p : PacketData) → Makes (arrived plan before now (Some link) p)
unfolding arrived
came_made plan before now link p q i = absurd (cc)

routed_made : (number : ℕ) (plan : RouterPlan) (before : List Entry) (i : Input) (c : Content) → IsInputGood Returns RowReturns i
    → routed number plan before i ≡ Some c → Makes c
routed_made number plan before (FromTrace row) c k e = row_made number plan before row.time.0 row.what c k e
routed_made number plan before (Arrival time link packet) c k e = grind (arith, nat_tests, same_Some, came_made)

sent_returns : (version : ℕ) (s : Shape) → IsReturn 2 (back_in (carried_by version s))
sent_returns version s = grind (arith, nat_tests)

made_returns : (number : ℕ) (plan : HostPlan) (h : History) (known : Files) (now : ℕ) (w : RowWhat) → RowReturns w
    → IfSome (made_for number plan h known now w) (λ (made : Made). Returns made.packet)
unfolding intended
made_returns number plan h known now w k = grind (arith, nat_tests, sent_returns)

decided_rights : (plan : HostPlan) (deeds : List Deed) (src : Address) (tags : List ℕ) → AreSomeRights plan.policy.rights
    → IfSome (grant_decision plan.policy deeds src tags) AreSomeRights
decided_rights plan deeds src tags k = grind (arith, nat_tests)

answer_returns : (plan : HostPlan) (deeds : List Deed) (src : Address) (c : Carried) (claim : Option ClaimData)
    → AreSomeRights plan.policy.rights → IfSome (answer_to_claim plan deeds src c claim) (IsReturn 2)
answer_returns plan deeds src c claim k = grind (arith, nat_tests, decided_rights)

receipt_returns : (number : ℕ) (plan : HostPlan) (h : History) (now : ℕ) (p : PacketData) (above : Upper)
    → AreSomeRights plan.policy.rights → IfSome (receipt_of number plan h now p above).reply (λ (made : Made). Returns made.packet)
unfolding receipt_of
receipt_returns number plan h now p above k = grind (arith, nat_tests, answer_returns)

reply_made : (reply : Option Made) → IfSome reply (λ (made : Made). Returns made.packet) → (p : PacketData)
    → option_map (λ (made : Made). made.packet) reply ≡ Some p → Returns p
reply_made reply k p e = grind (arith, nat_tests, same_Some)

sent_made : (site : Site) (plan : HostPlan) (before : List Entry) (made : Option Made)
    → IfSome made (λ (m : Made). Returns m.packet) → Makes (sent_out site plan before made)
sent_made site plan before made k p e = grind (arith, nat_tests, same_Some)

hosted_made : (site : Site) (plan : HostPlan) (before : List Entry) (i : Input) → AreSomeRights plan.policy.rights
    → IsInputGood Returns RowReturns i → Makes (hosted site plan before i)
hosted_made site plan before (FromTrace row) rights k p e = grind (arith, nat_tests, sent_made, made_returns)
hosted_made site plan before (Arrival time link packet) rights k p e = search (arith, nat_tests, reply_made, receipt_returns)

made_by : (site : Site) (plan : NodePlan) (before : List Entry) (i : Input) (c : Content) → IsPlanned plan site.links
    → IsInputGood Returns RowReturns i → content_by site plan before i ≡ Some c → Makes c
made_by site plan before i c planned k e = grind (arith, nat_tests, routed_made, same_Some, hosted_made, some_rights)

-- ## in a run

module _ (config : Config) (rows : List Row) (until : ℕ) (logs : Logs) (valid : IsConfig config)
    (given : AreGiven config rows until logs) (run : IsRunTo config rows until logs) where
  made_in_run : (node : ℕ) (site : Site) → site_at config node ≡ Some site → (before : List Entry) (input : Input) (c : Content)
      (rest : List Entry) → log_at logs node ≡ before ++ Took input c ∷ rest
      → content site before input ≡ Some c → IsInputGood Returns RowReturns input → Makes c
  made_in_run node site is before input c rest here e k = grind (arith, nat_tests, made_by, site_is)

  pub all_return : (node : ℕ) (site : Site) → site_at config node ≡ Some site → AllByRecursion (IsEntryGood Returns RowReturns)
      (log_at logs node)
  all_return node site is = all_good Returns RowReturns hands_on config rows until logs valid run given.back made_in_run node site is

  pub received_returns : (node : ℕ) (site : Site) → site_at config node ≡ Some site → (before : List Entry) (input : Input) (from : ℕ)
      (p : PacketData) (receipt : Receipt) (went : Option Outcome) (range : Option DataLine) (rest : List Entry)
      → log_at logs node ≡ before ++ Took input (Received from p receipt went range) ∷ rest → IsReturn 2 (back_in p.carried)
  received_returns node site is before input from p receipt went range rest here = grind (arith, nat_tests, at_place, all_return)
