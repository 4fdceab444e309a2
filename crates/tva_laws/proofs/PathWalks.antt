-- What holds of each packet that is made, and of what a router hands on where it held of what came in, holds of each packet
-- of a run.
use Rattle.tva_laws.proofs.Common.{◌≡◌, ℕ, ◌+◌, List, ◌∷◌, ◌++◌, Option, Some, None, refl, option_map, AllByRecursion, same_Some, HostPlan, RouterPlan, in_force, PacketData, Charge, charges_at, handle, Config, IsConfig, Row, RowWhat, Input, FromTrace, Arrival, Site, Content, Arrived, Sent, Ticked, Received, Entry, Took, Started, charges, port_logs, arrived, content, hosted, next_id, packet_of_row, routed, IsMade, Logs, log_at, site_at, IsRunTo, IsReplyGood, LeavesAt, starts_good, holds, made_in, arith, nat_tests}
use Rattle.tva_router.specs.Handling as handling

module _ (P : PacketData → Type 0) (W : RowWhat → Type 0) where
  -- ## what a node makes, hands on and is given

  abbrev pub Goes : Content → Type 0
  Goes (Arrived from packet fate onward) = P packet × P onward
  Goes (Sent made outcome) = P made.packet
  Goes Ticked = Unit {0}
  Goes (Received from packet receipt went range) = P packet × IsReplyGood P receipt.reply

  abbrev pub IsInputGood : Input → Type 0
  IsInputGood (FromTrace row) = W row.what
  IsInputGood (Arrival time link packet) = P packet

  abbrev pub IsEntryGood : Entry → Type 0
  IsEntryGood (Took input content) = IsInputGood input × Goes content
  IsEntryGood (Started time link class packet) = P packet

  leaves : (e : Entry) → IsEntryGood e → LeavesAt P e
  leaves e k = grind (arith, nat_tests)

  -- ## what a node makes of it

  abbrev pub Makes : Content → Type 0
  Makes c = (p : PacketData) → made_in c ≡ Some p → P p

  module _ (hands_on : (plan : RouterPlan) (h : List Charge) (logs : handling.PortLogs) (now : ℕ) (from : Option ℕ) (p : PacketData) → P p
      → P (handle plan h logs now from p).onward) where
    arrived_goes : (plan : RouterPlan) (before : List Entry) (now : ℕ) (from : Option ℕ) (p : PacketData) → P p
        → Goes (arrived plan before now from p)
    unfolding arrived
    arrived_goes plan before now from p k = (k, hands_on (in_force plan now) (charges_at plan now (charges before)) (port_logs before) now from p k)

    own_packet : (plan : RouterPlan) (before : List Entry) (now : ℕ) (p : PacketData) → made_in (arrived plan before now None p) ≡ Some p
    unfolding arrived
    own_packet plan before now p = refl

    row_goes : (number : ℕ) (plan : RouterPlan) (before : List Entry) (now : ℕ) (w : RowWhat) (c : Content) → Makes c
        → option_map (arrived plan before now None) (packet_of_row (next_id number before) w) ≡ Some c → Goes c
    row_goes number plan before now w c m e = grind (arith, nat_tests, same_Some, arrived_goes, own_packet)

    routed_goes : (number : ℕ) (plan : RouterPlan) (before : List Entry) (i : Input) (c : Content) → IsInputGood i → Makes c
        → routed number plan before i ≡ Some c → Goes c
    routed_goes number plan before (FromTrace row) c k m e = row_goes number plan before row.time.0 row.what c m e
    routed_goes number plan before (Arrival time link packet) c k m e = grind (arith, nat_tests, same_Some, arrived_goes)

    hosted_goes : (site : Site) (plan : HostPlan) (before : List Entry) (i : Input) → IsInputGood i → Makes (hosted site plan before i)
        → Goes (hosted site plan before i)
    hosted_goes site plan before i k m = grind (arith, nat_tests)

    -- ## a run

    module _ (config : Config) (rows : List Row) (until : ℕ) (logs : Logs) (valid : IsConfig config)
        (run : IsRunTo config rows until logs) (each : AllByRecursion (λ row. W row.what) rows)
        (makes : (node : ℕ) (site : Site) → site_at config node ≡ Some site → (before : List Entry) (input : Input) (c : Content)
        (rest : List Entry) → log_at logs node ≡ before ++ Took input c ∷ rest → content site before input ≡ Some c → IsInputGood input
        → Makes c) where
      entry_good : (node : ℕ) (site : Site) → site_at config node ≡ Some site → (before : List Entry) (e : Entry) (rest : List Entry)
          → log_at logs node ≡ before ++ e ∷ rest → AllByRecursion IsEntryGood before → IsMade IsInputGood site before e → IsEntryGood e
      entry_good node site there before (Took i c) rest split k m = grind (arith, nat_tests, routed_goes, same_Some, hosted_goes)
      entry_good node site there before (Started u l c p) rest split k m = starts_good P IsEntryGood leaves site before u l c p k m

      pub all_good : (node : ℕ) (site : Site) → site_at config node ≡ Some site → AllByRecursion IsEntryGood (log_at logs node)
      all_good = holds config rows until logs valid run IsInputGood IsEntryGood each (λ number link here time on at class packet k. k) entry_good
