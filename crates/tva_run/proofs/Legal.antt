-- A node's log is what the words say of it: its inputs in their turn, and on each link a legal log with no start missed.
use Rattle.tva_run.proofs.Common.{nat_tests, ◌≡◌, ℕ, suc, ◌+◌, ◌≤◌, ◌<◌, List, [], ◌∷◌, ◌++◌, Option, Some, None, All, refl, sym, ap, ◌∙◌, subst, arith, append_assoc, option_and_then, IfSome, AllByRecursion, cons_option, filter_map-append, recursion_from_All, All-from_recursion, LinkLimits, Class, PacketData, MissesNone, RestsAt, goes_on-push, legal-here, cut, Input, Site, IsSite, limits_out, Entry, Took, Started, entry_time, port_entry, port_logs, start_after, starts, due, GoesOn, IsNodeLog, Takes, IsLegalLog, IsShort, AreShort}
use Rattle.std.proofs.Common.{append-nil}
use Rattle.tva_port.specs.Log as port
use Rattle.tva_port.specs.Legal as ports
use Rattle.tva_run.proofs.Joins.{each-weaker}
use Rattle.tva_run.proofs.LogWalks.{at_place, by_place, past_at, IsMade, AnyInput, any, made_at}
use Rattle.tva_run.specs.Legal.{HasLink}
use Rattle.tva_run.proofs.Ports.{resting_starts_none}
use Rattle.tva_run.proofs.Links.{MayFollow, numbered_out, logs_past, logs-cut, misses_none, took_follows, started_follows}

-- the log of each link's port is legal, and has nothing later than a time
abbrev pub AreLegal : Site → ℕ → List Entry → Type 0
AreLegal site time log = (link : ℕ) (o : ℕ × LinkLimits) → limits_out site link ≡ Some o → ports.IsLegal o.1 (port_logs log link) × port.NoneLater time (port_logs log link)

-- ## from a node's log to its links

-- what an entry is in a link's log
abbrev IfHas : ℕ → (port.Entry → Type 0) → Entry → Type 0
IfHas link P e = IfSome (port_entry link e) P

split_option : (P : port.Entry → Type 0) (o : Option port.Entry) (xs : List port.Entry) → AllByRecursion P (cons_option o xs) → IfSome o P × AllByRecursion P xs
split_option P None xs a = (tt, a)
split_option P (Some x) xs a = (a.0, a.1)

each_has : (link : ℕ) (P : port.Entry → Type 0) (log : List Entry) → AllByRecursion P (port_logs log link) → AllByRecursion (IfHas link P) log
each_has link P [] a = tt
each_has link P (e ∷ es) a = let k = split_option P (port_entry link e) (port_logs es link) a in (k.0, each_has link P es k.1)

both_some : (l : LinkLimits) (log : List port.Entry) (o : Option port.Entry) → IfSome o (MayFollow l log) → IfSome o IsShort → IfSome o (ports.Follows l log)
both_some l log None f s = tt
both_some l log (Some x) f s = f s

legal_more : (l : LinkLimits) (log : List Entry) (e : Entry) (link : ℕ) → ports.IsLegal l (port_logs log link) → IfHas link (ports.Follows l (port_logs log link)) e → ports.IsLegal l (port_logs (log ++ e ∷ []) link)
legal_more l log e link g k = grind (arith, nat_tests, filter_map-append, append-nil, goes_on-push)

module _ (site : Site) (valid : IsSite site) (link : ℕ) (l : LinkLimits) (out : limits_out site link ≡ Some (link, l)) where
  may_follow : (before : List Entry) (e : Entry) → AllByRecursion (λ x. entry_time x ≤ entry_time e) before → IsMade AnyInput site before e → IfHas link (MayFollow l (port_logs before link)) e
  may_follow before (Took input made) past m = took_follows site link l before input made valid out (logs_past link (entry_time (Took input made)) before past) m.0
  may_follow before (Started time on class packet) past m = started_follows site link on l before time class packet out (logs_past link time before past) m

  legal_on : (inputs : List Input) (until : ℕ) (log : List Entry) → All IsShort (port_logs log link) → IsNodeLog site inputs until log → ports.IsLegal l (port_logs log link)
  legal_on inputs until log s h =
      let short = each_has link IsShort log (recursion_from_All IsShort (port_logs log link) s) in
      by_place (λ (z : List Entry). ports.IsLegal l (port_logs z link)) [] log
      (λ before e rest split k.
      legal_more l before e link k
      (both_some l (port_logs before link) (port_entry link e)
      (may_follow before e (past_at log before e rest h.in_order split)
      (made_at AnyInput site (due until inputs) log before e rest h.steps (any (due until inputs)) split))
      (at_place (IfHas link IsShort) log before e rest split short)))
      tt

-- none of a node's log is as late as its end
pub none_later : (site : Site) (inputs : List Input) (until : ℕ) (log : List Entry) (link : ℕ) → IsNodeLog site inputs until log → port.NoneLater until (port_logs log link)
none_later site inputs until log link h =
    logs_past link until log (each-weaker (λ (x : Entry). entry_time x < until) (λ (x : Entry). entry_time x ≤ until) (λ x k. omega arith) log h.early)

-- the log of each link of a node is legal, where no packet that is queued is too long
pub node_log_legal : (site : Site) (inputs : List Input) (until : ℕ) (log : List Entry) → IsSite site → AreShort site log → IsNodeLog site inputs until log → AreLegal site until log
node_log_legal site inputs until log valid s h link o e =
    (legal_on site valid link o.1 (numbered_out site link o e) inputs until log (s link o e) h, none_later site inputs until log link h)

short_follows : (l : LinkLimits) (before : List port.Entry) (e : port.Entry) → ports.Follows l before e → IsShort e
short_follows l before (port.Queued time class key packet) f = f.sized.1
short_follows l before (port.Started time class packet) f = tt

short_from : (l : LinkLimits) (before es : List port.Entry) → ports.AllFollow l before es → AllByRecursion IsShort es
short_from l before [] g = tt
short_from l before (e ∷ es) g = (short_follows l before e g.0, short_from l (before ++ e ∷ []) es g.1)

-- and in legal logs none is
pub legal_short : (site : Site) (time : ℕ) (log : List Entry) → AreLegal site time log → AreShort site log
legal_short site time log h link o e = All-from_recursion IsShort (port_logs log link) (short_from o.1 [] (port_logs log link) (h link o e).0)

module _ (site : Site) where
  link_by : (link : ℕ) (o : Option (ℕ × LinkLimits)) (log : List port.Entry) (now : ℕ) (class : Class) (p : PacketData) → limits_out site link ≡ o
      → option_and_then (λ (x : ℕ × LinkLimits). start_after x.1 log now) o ≡ Some (class, p) → HasLink site link
  link_by link None log now class p f e = absurd (cc)
  link_by link (Some x) log now class p f e = (x, f)

  takes_by : (before : List Entry) (is : List Input) (es : List Entry) → GoesOn site before is es → Takes site before is es
  takes_by before [] [] g = tt
  takes_by before (i ∷ is) (Took j c ∷ es) g = (g.0, g.1, takes_by (before ++ Took j c ∷ []) is es g.2)
  takes_by before [] (Started t k c p ∷ es) g = (link_by k (limits_out site k) (port_logs before k) t c p refl g.0, takes_by (before ++ Started t k c p ∷ []) [] es g.1)
  takes_by before (i ∷ is) (Started t k c p ∷ es) g = (link_by k (limits_out site k) (port_logs before k) t c p refl g.0, takes_by (before ++ Started t k c p ∷ []) (i ∷ is) es g.1)
  takes_by before _ _ g = absurd g

  pub log_is_legal : (inputs : List Input) (until : ℕ) (log : List Entry) → IsSite site → AreShort site log → IsNodeLog site inputs until log → IsLegalLog site inputs until log
  log_is_legal inputs until log valid s h = record {
    in_order = h.in_order;
    early = h.early;
    takes = takes_by [] (due until inputs) log h.steps;
    links = λ link o e. ((node_log_legal site inputs until log valid s h link o e).0, misses_none site until log link o.1 (numbered_out site link o e) h.none_left);
  }

  -- ## and back

  abbrev LinksLegal : List Entry → Type 0
  LinksLegal log = (link : ℕ) (o : ℕ × LinkLimits) → limits_out site link ≡ Some o → ports.IsLegal o.1 (port_logs log link)

  start_back : (before : List Entry) (t k : ℕ) (c : Class) (p : PacketData) (es : List Entry) → HasLink site k → LinksLegal (before ++ Started t k c p ∷ es) → starts site before k t ≡ Some (c, p)
  unfolding start_after
  start_back before t k c p es (o, e) g = grind (arith, nat_tests, filter_map-append, legal-here)

  goes_back : (before : List Entry) (is : List Input) (es : List Entry) → Takes site before is es → LinksLegal (before ++ es) → GoesOn site before is es
  goes_back before [] [] g h = tt
  goes_back before (i ∷ is) [] g h = absurd g
  goes_back before [] (Took j c ∷ es) g h = absurd g
  goes_back before (i ∷ is) (Took j c ∷ es) g h = (g.0, g.1, goes_back (before ++ Took j c ∷ []) is es g.2 (subst LinksLegal (sym (append_assoc before (Took j c ∷ []) es)) h))
  goes_back before [] (Started t k c p ∷ es) g h =
      (start_back before t k c p es g.0 h, goes_back (before ++ Started t k c p ∷ []) [] es g.1 (subst LinksLegal (sym (append_assoc before (Started t k c p ∷ []) es)) h))
  goes_back before (i ∷ is) (Started t k c p ∷ es) g h =
      (start_back before t k c p es g.0 h, goes_back (before ++ Started t k c p ∷ []) (i ∷ is) es g.1 (subst LinksLegal (sym (append_assoc before (Started t k c p ∷ []) es)) h))

  none_by : (until : ℕ) (log : List Entry) (time link : ℕ) (o : Option (ℕ × LinkLimits)) → limits_out site link ≡ o → ((x : ℕ × LinkLimits) → limits_out site link ≡ Some x → MissesNone x.1 until (port_logs log link)) → time < until
      → option_and_then (λ (x : ℕ × LinkLimits). start_after x.1 (port_logs (cut entry_time (suc time) log) link) time) o ≡ None
  none_by until log time link None f m l = refl
  none_by until log time link (Some x) f m l =
      let more : time + 1 ≡ suc time = omega arith in
      let rests : RestsAt x.1 (port_logs (cut entry_time (suc time) log) link) time =
      subst (λ (z : List port.Entry). RestsAt x.1 z time) (ap (λ n. port.entries_before n (port_logs log link)) more ∙ sym (logs-cut link (suc time) log)) (m x f time l) in
      resting_starts_none x.1 (port_logs (cut entry_time (suc time) log) link) time rests

  pub legal_is_log : (inputs : List Input) (until : ℕ) (log : List Entry) → IsLegalLog site inputs until log → IsNodeLog site inputs until log
  legal_is_log inputs until log h = record {
    in_order = h.in_order;
    early = h.early;
    steps = goes_back [] (due until inputs) log h.takes (λ link o e. (h.links link o e).0);
    none_left = λ time link l. none_by until log time link (limits_out site link) refl (λ x e. (h.links link x e).1) l;
  }
