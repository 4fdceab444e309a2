-- What is told of a host by its log: its deals with a peer are its contacts, and what it makes has ordinals that rise.
use Rattle.tva_laws.proofs.Common.{◌≡◌, ◌≤◌, ◌<◌, ℕ, suc, ◌+◌, Bool, true, false, cond, List, [], ◌∷◌, ◌++◌, map, length, Option, Some, None, refl, ap, sym, subst, ◌∙◌, arith, append-nil, option_map, IfSome, AllByRecursion, filter_map, cons_option, filter_map-append, same_Some, Address, Outcome, HostPlan, AreSomeRights, ReturnInfo, IsReturn, PacketData, back_in, of_peer, Made, Receipt, History, Call, after_call, history_of, intended, after_intending, receipt_of, after_receipt, upper_of, history_of-push, each-append, each-weaker, Row, RowWhat, Input, FromTrace, Arrival, Site, Content, Received, Entry, Took, Started, call_of_row, call_of_input, call_of, calls, files, content, hosted, made_for, sent_out, GoesOn, by_place, IsMade, AnyInput, any, made_in, Deal, Prepared, Granted, Noticed, sent_for, brought, replied, dealt_in, dealt_at, deals, Files, answered, Upper, DataLine, nat_tests}
use Rattle.std.proofs.lemmas.Grind.{flat_map-append}
use Rattle.tva_base.specs.declared.event.BackKind.{BackKind}
use Rattle.tva_base.specs.Ordinals.{ordinal_behind}
use Rattle.tva_host.proofs.Shown.{answer_is_shown, nothing_is_shown}
use Rattle.tva_plan.specs.declared.config.NodePlan.TheVariants as plans
use Rattle.tva_run.proofs.LogWalks.{made_at as is_made}
use Rattle.tva_laws.proofs.RisingLists.{Rises, rises-push}
use Rattle.tva_laws.proofs.Dealt.{contact_of, row_deal, receipt_deal, map_more}
use Rattle.tva_transfer.specs.Files as transfers
use Rattle.tva_base.specs.declared.packet.Upper.TheVariants as upper

-- ## ordinals

abbrev pub ordinal_of : PacketData → ℕ
ordinal_of p = p.id.ordinal

abbrev pub made_at : Entry → Option PacketData
made_at (Took input c) = made_in c
made_at (Started time link class packet) = None

abbrev pub entry_key : Entry → Option ℕ
entry_key e = option_map ordinal_of (made_at e)

abbrev pub deal_key : Deal → Option ℕ
deal_key (Prepared time p) = Some p.id.ordinal
deal_key (Granted rights caps) = None
deal_key Noticed = None

-- how many inputs were taken
abbrev pub takes : List Entry → ℕ
takes [] = 0
takes (Took input c ∷ es) = suc (takes es)
takes (Started time link class packet ∷ es) = takes es

pub takes-append : (xs ys : List Entry) → takes (xs ++ ys) ≡ takes xs + takes ys
takes-append [] ys = omega arith
takes-append (z0 ∷ es) ys = grind (arith, nat_tests, takes-append es ys)

pub takes-all : (site : Site) (before : List Entry) (is : List Input) (es : List Entry) → GoesOn site before is es → takes es ≡ length is
takes-all site before z0 [] g = grind (arith, nat_tests)
takes-all site before [] (Took j c ∷ es) g = absurd g
takes-all site before (i ∷ is) (Took j c ∷ es) g = ap suc (takes-all site (before ++ Took j c ∷ []) is es g.2)
takes-all site before [] (Started u l c p ∷ es) g = takes-all site (before ++ Started u l c p ∷ []) [] es g.1
takes-all site before (i ∷ is) (Started u l c p ∷ es) g = takes-all site (before ++ Started u l c p ∷ []) (i ∷ is) es g.1

abbrev pub is_one : Option PacketData → ℕ
is_one None = 0
is_one (Some p) = 1

-- what is made next has the next ordinal and the node's number
abbrev IsNumbered : ℕ → ℕ → Option PacketData → Type 0
IsNumbered number m o = IfSome o (λ p. (p.id.ordinal ≡ ordinal_behind m) × (p.id.node ≡ number))

-- one call makes so much
record Makes (number : ℕ) (plan : HostPlan) (h : History) (call : Call) (o : Option PacketData) : Type 0 where
  more : (after_call plan h call).made ≡ h.made + is_one o
  numbered : IsNumbered number h.made o

row_makes : (number : ℕ) (plan : HostPlan) (h : History) (known : Files) (now : ℕ) (what : RowWhat)
    → IfSome (made_for number plan h known now what) (λ (made : Made).
    Makes number plan h (call_of_row now what made.packet) (Some made.packet))
unfolding intended after_intending
row_makes number plan h known now what = grind (arith, nat_tests)

abbrev packet_in : Option Made → Option PacketData
packet_in reply = option_map (λ (made : Made). made.packet) reply

-- a reply is the next packet
record Replies (number m after : ℕ) (o : Option PacketData) : Type 0 where
  more : after ≡ m + is_one o
  numbered : IsNumbered number m o

receipt_makes : (number : ℕ) (plan : HostPlan) (h : History) (now : ℕ) (p : PacketData) (above : Upper)
    → Replies number h.made (after_receipt plan h now p above).made (packet_in (receipt_of number plan h now p above).reply)
unfolding receipt_of after_receipt
receipt_makes number plan h now p above = grind (arith, nat_tests)

nothing_answered : (files : Files) (source : Address) → transfers.answer_to files source upper.Nothing ≡ upper.Nothing
unfolding transfers.answer_to
nothing_answered files source = refl

-- what is answered is what the reply shows
answer_shown : (number : ℕ) (plan : HostPlan) (h : History) (known : Files) (now : ℕ) (p : PacketData)
    → upper_of (receipt_of number plan h now p (answered plan.address known p)).reply ≡ answered plan.address known p
answer_shown number plan h known now p = grind (arith, nat_tests, answer_is_shown, nothing_answered, nothing_is_shown)

-- ## deals

pub record IsMadeIn (log : List Entry) (p : PacketData) : Type 0 where
  pub before : List Entry
  pub input : Input
  pub content : Content
  pub rest : List Entry
  pub here : log ≡ before ++ Took input content ∷ rest
  pub makes : made_in content ≡ Some p

abbrev pub IsTrue : List Entry → Deal → Type 0
IsTrue log (Prepared time p) = IsMadeIn log p
IsTrue log (Granted rights caps) = AreSomeRights rights
IsTrue log Noticed = Unit {0}

-- what one input adds to the deals
record Adds (log : List Entry) (ds : List Deal) (o : Option PacketData) : Type 0 where
  on : Bool
  keys : filter_map deal_key ds ≡ cons_option (cond on (option_map ordinal_of o) None) []
  each : AllByRecursion (IsTrue log) ds

adds_none : (log : List Entry) (o : Option PacketData) → Adds log [] o
adds_none log o = record { on = false; keys = refl; each = tt }

adds_one : (log : List Entry) (b : Bool) (time : ℕ) (p : PacketData) → IsMadeIn log p → Adds log (cond b (Prepared time p ∷ []) []) (Some p)
adds_one log b time p k = grind (arith, nat_tests, adds_none)

brought_keys : (was : BackKind) (back : ReturnInfo) → filter_map deal_key (brought was back) ≡ []
brought_keys was back = grind (arith, nat_tests)

replied_true : (log : List Entry) (time : ℕ) (reply : Option Made) → ((p : PacketData) → packet_in reply ≡ Some p → IsMadeIn log p)
    → AllByRecursion (IsTrue log) (replied time reply)
replied_true log time reply k = grind (arith, nat_tests)

received_adds : (log : List Entry) (b : Bool) (was : BackKind) (back : ReturnInfo) (time : ℕ) (reply : Option Made) → IsReturn 2 back
    → ((p : PacketData) → packet_in reply ≡ Some p → IsMadeIn log p)
    → Adds log (cond b (brought was back ++ replied time reply) []) (packet_in reply)
received_adds log b was back time reply r k = grind (arith, nat_tests, filter_map-append, brought_keys, each-append, replied_true, adds_none)

-- ## numbers that rise so far

record Below (m : ℕ) (ns : List ℕ) : Type 0 where
  rises : Rises ns
  most : AllByRecursion (λ n. n ≤ m) ns

same_below : (m k : ℕ) (ns : List ℕ) → m ≤ k → Below m ns → Below k (ns ++ [])
same_below m k ns l b = grind (arith, nat_tests, append-nil, each-weaker)

numbered_below : (number m : ℕ) (o : Option PacketData) (on : Bool) (ns : List ℕ) → m + 1 ≤ 18446744073709551615 → IsNumbered number m o
    → Below m ns → Below (m + is_one o) (ns ++ cons_option (cond on (option_map ordinal_of o) None) [])
numbered_below number m None z0 ns l k b = grind (arith, nat_tests, same_below m (m + 0) ns (omega arith) b)
numbered_below number m (Some p) true ns l k b = grind (arith, nat_tests, rises-push, each-weaker, each-append)
numbered_below number m (Some p) false ns l k b = same_below m (m + 1) ns (omega arith) b

-- ## along the log

module _ (site : Site) (plan : HostPlan) (is : site.plan ≡ plans.Host plan) (peer : Address) (log : List Entry)
    (few : takes log < 18446744073709551615)
    (returns : (before : List Entry) (input : Input) (from : ℕ) (p : PacketData) (receipt : Receipt) (went : Option Outcome)
    (range : Option DataLine) (rest : List Entry) → log ≡ before ++ Took input (Received from p receipt went range) ∷ rest
    → IsReturn 2 (back_in p.carried)) where
  abbrev hist : List Entry → History
  hist before = history_of plan (calls before)

  pub record Told (before : List Entry) : Type 0 where
    pub contacts : of_peer peer (history_of plan (calls before)).contacts ≡ map contact_of (deals peer before)
    pub count : (history_of plan (calls before)).made ≤ takes before
    pub entries : Rises (filter_map entry_key before)
    pub entries_most : AllByRecursion (λ n. n ≤ (history_of plan (calls before)).made) (filter_map entry_key before)
    pub dealt : Rises (filter_map deal_key (deals peer before))
    pub dealt_most : AllByRecursion (λ n. n ≤ (history_of plan (calls before)).made) (filter_map deal_key (deals peer before))
    pub numbers : AllByRecursion (λ e. IfSome (made_at e) (λ p. p.id.node ≡ site.number)) before
    pub each : AllByRecursion (IsTrue log) (deals peer before)

  begins : Told []
  begins = grind (arith, nat_tests)

  -- the history after one more call, if there is one
  abbrev with_call : History → Option Call → History
  with_call h None = h
  with_call h (Some call) = after_call plan h call

  -- what an input at its place adds
  record Step (before : List Entry) (input : Input) (c : Content) : Type 0 where
    contacts : of_peer peer (with_call (hist before)
        (call_of_input input c)).contacts ≡ of_peer peer (hist before).contacts ++ map contact_of (dealt_in peer input c)
    more : (with_call (hist before) (call_of_input input c)).made ≡ (hist before).made + is_one (made_in c)
    numbered : IsNumbered site.number (hist before).made (made_in c)
    adds : Adds log (dealt_in peer input c) (made_in c)

  made_here : (before : List Entry) (input : Input) (c : Content) (rest : List Entry) → log ≡ before ++ Took input c ∷ rest
      → (p : PacketData) → made_in c ≡ Some p → IsMadeIn log p
  made_here before input c rest here p e = record { before = before; input = input; content = c; rest = rest; here = here; makes = e }

  sent_step : (before : List Entry) (row : Row) (rest : List Entry) (made : Option Made)
      → IfSome made (λ (m : Made). Makes site.number plan (hist before) (call_of_row row.time.0 row.what m.packet) (Some m.packet))
      → IfSome made (λ (m : Made). of_peer peer (after_call plan (hist before) (call_of_row row.time.0 row.what m.packet)).contacts
      ≡ of_peer peer (hist before).contacts ++ map contact_of (sent_for peer row.time.0 row.what m.packet))
      → log ≡ before ++ Took (FromTrace row) (sent_out site plan before made) ∷ rest
      → Step before (FromTrace row) (sent_out site plan before made)
  sent_step before row rest made k d here = grind (arith, nat_tests, append-nil (of_peer peer (hist before).contacts), adds_none log None)

  hosted_step : (before : List Entry) (input : Input) (rest : List Entry)
      → log ≡ before ++ Took input (hosted site plan before input) ∷ rest → Step before input (hosted site plan before input)
  hosted_step before (FromTrace row) rest here =
      sent_step before row rest (made_for site.number plan (hist before) (files plan before) row.time.0 row.what)
      (row_makes site.number plan (hist before) (files plan before) row.time.0 row.what)
      (row_deal site.number plan (hist before) (files plan before) peer row.time.0 row.what) here
  hosted_step before (Arrival time link packet) rest here =
      let above : Upper = answered plan.address (files plan before) packet in
      let k = receipt_makes site.number plan (hist before) time.0 packet above in
      grind (arith, nat_tests, receipt_deal, received_adds, made_here, answer_is_shown, nothing_answered, nothing_is_shown)

  taken_step : (before : List Entry) (input : Input) (c : Content) (rest : List Entry) → log ≡ before ++ Took input c ∷ rest
      → content site before input ≡ Some c → Step before input c
  taken_step before input c rest here e = grind (arith, nat_tests, same_Some, hosted_step)

  few_before : (before : List Entry) (e : Entry) (rest : List Entry) → log ≡ before ++ e ∷ rest → (hist before).made ≤ takes before
      → (hist before).made + 1 ≤ 18446744073709551615
  few_before before e rest here l = let all = ap takes here ∙ takes-append before (e ∷ rest) in omega (arith, few, all, l)

  hist_took : (before : List Entry) (input : Input) (c : Content) → hist (before ++ Took input c ∷ []) ≡ with_call (hist before)
      (call_of_input input c)
  hist_took before input c = grind (arith, nat_tests, filter_map-append, append-nil, history_of-push)

  hist_started : (before : List Entry) (e : Entry) → call_of e ≡ None → hist (before ++ e ∷ []) ≡ hist before
  hist_started before e none = grind (arith, nat_tests, filter_map-append, append-nil)

  -- after one more entry, by what it adds to each
  record More (before : List Entry) (e : Entry) (h : History) : Type 0 where
    contacts : of_peer peer h.contacts ≡ of_peer peer (hist before).contacts ++ map contact_of (dealt_at peer e)
    more : h.made ≡ (hist before).made + is_one (made_at e)
    count : h.made ≤ takes (before ++ e ∷ [])
    entries : Below h.made (filter_map entry_key before ++ cons_option (entry_key e) [])
    dealt : Below h.made (filter_map deal_key (deals peer before) ++ filter_map deal_key (dealt_at peer e))
    number : IfSome (made_at e) (λ p. p.id.node ≡ site.number)
    each : AllByRecursion (IsTrue log) (dealt_at peer e)

  told_more : (before : List Entry) (e : Entry) → Told before → More before e (hist (before ++ e ∷ [])) → Told (before ++ e ∷ [])
  told_more before e t m = grind (arith, nat_tests, contact_of, map_more, filter_map-append, each-append, flat_map-append, append-nil)

  one_number : (number m : ℕ) (o : Option PacketData) → IsNumbered number m o → IfSome o (λ p. p.id.node ≡ number)
  one_number number m o k = grind (arith, nat_tests)

  one_at_most : (o : Option PacketData) → is_one o ≤ 1
  one_at_most o = grind (arith, nat_tests)

  took_more : (before : List Entry) (input : Input) (c : Content) (rest : List Entry) → log ≡ before ++ Took input c ∷ rest
      → content site before input ≡ Some c → Told before → More before (Took input c) (hist (before ++ Took input c ∷ []))
  took_more before input c rest here e t =
      let s = taken_step before input c rest here e in
      let h = hist_took before input c in
      let room = few_before before (Took input c) rest here t.count in
      let all = takes-append before (Took input c ∷ []) in
      let one = one_at_most (made_in c) in
      let number = numbered_below site.number (hist before).made (made_in c) in
      subst (More before (Took input c)) (sym h) (record {
        contacts = s.contacts;
        more = s.more;
        count = (let more = s.more in let few = t.count in omega (arith, more, all, one, few));
        entries = subst (λ n. Below n (filter_map entry_key before ++ cons_option (option_map ordinal_of (made_in c)) [])) (sym s.more)
            (number true (filter_map entry_key before) room s.numbered (record { rises = t.entries; most = t.entries_most }));
        dealt =
            subst (λ (ns : List ℕ). Below (with_call (hist before) (call_of_input input c)).made
            (filter_map deal_key (deals peer before) ++ ns)) (sym s.adds.keys)
            (subst (λ n. Below n
            (filter_map deal_key (deals peer before) ++ cons_option (cond s.adds.on (option_map ordinal_of (made_in c)) None) []))
            (sym s.more)
            (number s.adds.on (filter_map deal_key (deals peer before)) room s.numbered (record { rises = t.dealt; most = t.dealt_most })));
        number = one_number site.number (hist before).made (made_in c) s.numbered;
        each = s.adds.each;
      })

  started_more : (before : List Entry) (e : Entry) → call_of e ≡ None → made_at e ≡ None → dealt_at peer e ≡ [] → Told before
      → More before e (hist (before ++ e ∷ []))
  started_more before e call made dealt t =
      let all = takes-append before (e ∷ []) in
      let same : (hist before).made ≤ (hist before).made = omega arith in
      subst (More before e) (sym (hist_started before e call)) (record {
        contacts = sym (append-nil (of_peer peer (hist before).contacts)) ∙ ap
            (λ (ds : List Deal). of_peer peer (hist before).contacts ++ map contact_of ds) (sym dealt);
        more = (let none = ap is_one made in omega (arith, none));
        count = (let few = t.count in omega (arith, all, few));
        entries =
            subst (λ (o : Option PacketData). Below (hist before).made
            (filter_map entry_key before ++ cons_option (option_map ordinal_of o) [])) (sym made)
            (same_below (hist before).made (hist before).made (filter_map entry_key before) same
            (record { rises = t.entries; most = t.entries_most }));
        dealt =
            subst (λ (ds : List Deal). Below (hist before).made (filter_map deal_key (deals peer before) ++ filter_map deal_key ds))
            (sym dealt)
            (same_below (hist before).made (hist before).made (filter_map deal_key (deals peer before)) same
            (record { rises = t.dealt; most = t.dealt_most }));
        number = subst (λ (o : Option PacketData). IfSome o (λ p. p.id.node ≡ site.number)) (sym made) tt;
        each = subst (AllByRecursion (IsTrue log)) (sym dealt) tt;
      })

  entry_told : (before : List Entry) (e : Entry) (rest : List Entry) → log ≡ before ++ e ∷ rest → IsMade AnyInput site before e → Told before
      → Told (before ++ e ∷ [])
  entry_told before (Took j c) rest split m t = told_more before (Took j c) t (took_more before j c rest split m.0 t)
  entry_told before (Started u l c p) rest split m t = told_more before (Started u l c p) t (started_more before (Started u l c p) refl refl refl t)

  -- what the whole log tells
  pub told : (is : List Input) → GoesOn site [] is log → Told log
  told is g =
      by_place Told [] log (λ before e rest split t. entry_told before e rest split (is_made AnyInput site is log before e rest g (any is) split) t) begins
