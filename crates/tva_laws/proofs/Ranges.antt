-- The ranges that a host's log tells are those of what it knows of files.
use Rattle.tva_laws.proofs.Common.{◌≡◌, ℕ, ◌+◌, ◌≤◌, cond, List, [], ◌∷◌, ◌++◌, map, Option, Some, None, refl, sym, ap, subst, ◌∙◌, append_assoc, arith, fold, sum_by, option_and_then, cons_option, map-append, filter-append, filter_map-append, fold-append, sum_by-append, sum_by-cons, same_Some, Address, DataLine, Upper, HostPlan, PacketData, Made, Files, Act, Came, after_act, after_upper, delivered, heard, is_of, next_of, range_of, with_range, Follow, ranges_of, ranges_follow, RowWhat, Input, FromTrace, Arrival, Site, Content, Entry, Took, act_of, act_of_row, acts, files, content, hosted, sent_out, GoesOn, bytes_delivered, range_at, range_by, range_in, ranges, by_place, IsMade, AnyInput, any, made_at, nat_tests}
use Rattle.std.proofs.Common.{filter}
use Rattle.std.proofs.lemmas.List.{append-nil}
use Rattle.tva_plan.specs.declared.config.NodePlan.TheVariants as plans

-- ## what is known after more entries

pub files-more : (plan : HostPlan) (before more : List Entry)
    → files plan (before ++ more) ≡ fold (after_act plan.address) (files plan before) (acts more)
files-more plan before more = grind (arith, nat_tests, filter_map-append, fold-append)

-- after one more entry
pub files_act : (plan : HostPlan) (before : List Entry) (e : Entry) (act : Act) → act_of e ≡ Some act
    → files plan (before ++ e ∷ []) ≡ after_act plan.address (files plan before) act
files_act plan before e act is = grind (arith, nat_tests, files-more)

-- ## ranges

upper_ranges : (known : Files) (source : Address) (above : Upper)
    → (after_upper known source above).ranges ≡ (with_range source (range_of known source above) known).ranges
unfolding after_upper range_of
upper_ranges known source above = grind (arith, nat_tests)

bytes_of : (rs : List (Address × DataLine)) → sum_by (λ (r : Address × DataLine). r.1.bytes) rs
    ≡ sum_by (λ (r : DataLine). r.bytes) (map (λ (r : Address × DataLine). r.1) rs)
bytes_of [] = refl
bytes_of (r ∷ rs) = search (arith, nat_tests, sum_by-cons, bytes_of rs)

next_is : (known : Files) (source : Address) (transfer : ℕ)
    → next_of known source transfer ≡ sum_by (λ (r : DataLine). r.bytes) (ranges_of known source transfer)
next_is known source transfer = bytes_of (filter (is_of source transfer) known.ranges)

more_ranges : (known : Files) (source : Address) (r : DataLine) (s : Address) (t : ℕ)
    → ranges_of known s t ++ cond (is_of s t (source, r)) (r ∷ []) [] ≡ ranges_of (with_range source (Some r) known) s t
more_ranges known source r s t = grind (arith, nat_tests, filter-append, map-append)

-- those that these entries tell are those that the host knows of
abbrev pub Tells : HostPlan → List Entry → Type 0
Tells plan log = (s : Address) (t : ℕ) → ranges s t log ≡ ranges_of (files plan log) s t

ranges-more : (s : Address) (t : ℕ) (before more : List Entry) → ranges s t (before ++ more) ≡ ranges s t before ++ ranges s t more
ranges-more s t before more = filter_map-append (range_at s t) before more

none_told : (plan : HostPlan) (before : List Entry) (e : Entry) → ((s : Address) (t : ℕ) → range_at s t e ≡ None)
    → (fold (after_act plan.address) (files plan before) (acts (e ∷ []))).ranges ≡ (files plan before).ranges → Tells plan before
    → Tells plan (before ++ e ∷ [])
none_told plan before e none same h s t = grind (arith, nat_tests, ranges-more s t before (e ∷ []), append-nil (ranges s t before), files-more plan before (e ∷ []))

pub sent_none : (site : Site) (plan : HostPlan) (before : List Entry) (made : Option Made) (s : Address) (t : ℕ)
    → range_in s t (sent_out site plan before made) ≡ None
sent_none site plan before made s t = grind (arith, nat_tests)

row_ranges : (home : Address) (known : Files) (what : RowWhat)
    → (fold (after_act home) known (cons_option (act_of_row what) [])).ranges ≡ known.ranges
row_ranges home known what = grind (arith, nat_tests)

told_by : (known : Files) (p : PacketData) (s : Address) (t : ℕ) (o : Option DataLine)
    → ranges_of known s t ++ cons_option (option_and_then (range_by s t p) o) [] ≡ ranges_of (with_range p.flow.src o known) s t
told_by known p s t None = append-nil (ranges_of known s t)
told_by known p s t (Some r) = grind (arith, nat_tests, more_ranges known p.flow.src r s t)

arrival_told : (site : Site) (plan : HostPlan) (before : List Entry) (input : Input) (c : Content) (p : PacketData)
    → act_of (Took input c) ≡ Some (Came p)
    → ((s : Address) (t : ℕ) → range_in s t c ≡ option_and_then (range_by s t p) (delivered plan.address (files plan before) p))
    → Tells plan before → Tells plan (before ++ Took input c ∷ [])
arrival_told site plan before input c p is gives h s t =
    let known = files plan before in
    let o = delivered plan.address known p in
    grind (arith, nat_tests, ranges-more s t before (Took input c ∷ []), told_by known p s t o, files_act plan before (Took input c) (Came p) is, upper_ranges known p.flow.src (heard plan.address p))

took_told : (site : Site) (plan : HostPlan) (before : List Entry) (input : Input) → Tells plan before
    → Tells plan (before ++ Took input (hosted site plan before input) ∷ [])
took_told site plan before (FromTrace row) h = search (arith, nat_tests, none_told, sent_none, row_ranges)
took_told site plan before (Arrival time link packet) h =
    let input = Arrival time link packet in
    arrival_told site plan before input (hosted site plan before input) packet refl (λ s t. refl) h

module _ (site : Site) (plan : HostPlan) (host : site.plan ≡ plans.Host plan) where
  -- what a host makes of an input
  pub host_makes : (before : List Entry) (input : Input) (c : Content) → content site before input ≡ Some c
      → hosted site plan before input ≡ c
  host_makes before input c e = grind (arith, nat_tests, same_Some)

  one_told : (before : List Entry) (input : Input) (c : Content) → content site before input ≡ Some c → Tells plan before
      → Tells plan (before ++ Took input c ∷ [])
  one_told before input c e h = grind (arith, nat_tests, host_makes, took_told)

  entry_told : (before : List Entry) (e : Entry) → IsMade AnyInput site before e → Tells plan before → Tells plan (before ++ e ∷ [])
  entry_told before e m h = grind (arith, nat_tests, one_told, none_told)

  told : (is : List Input) (front back : List Entry) → GoesOn site [] is (front ++ back) → Tells plan front
  told is front back g =
      by_place (Tells plan) [] front
      (λ before e rest split h.
      entry_told before e
      (made_at AnyInput site is (front ++ back) before e (rest ++ back) g (any is)
      (ap (λ (es : List Entry). es ++ back) split ∙ append_assoc before (e ∷ rest) back)) h)
      (λ s t. refl)

  -- at each place of its log, as many bytes are delivered as the host knows of
  pub bytes_at : (is : List Input) (log front back : List Entry) → GoesOn site [] is log → log ≡ front ++ back → (s : Address) (t : ℕ)
      → bytes_delivered s t front ≡ next_of (files plan front) s t
  bytes_at is log front back g split s t = grind (arith, nat_tests, told, next_is)

  pub log_told : (is : List Input) (log : List Entry) → GoesOn site [] is log → Tells plan log
  log_told is log g s t = told is log [] (subst (GoesOn site [] is) (sym (append-nil log)) g) s t

  -- the ranges of a host's log follow one another
  pub log_follows : (is : List Input) (log : List Entry) → GoesOn site [] is log → (s : Address) (t : ℕ) → Follow 0 (ranges s t log)
  log_follows is log g s t = subst (Follow 0) (sym (log_told is log g s t)) (ranges_follow plan.address (acts log) s t)

-- more entries deliver no less
pub bytes-more : (s : Address) (t : ℕ) (before more : List Entry) → bytes_delivered s t before ≤ bytes_delivered s t (before ++ more)
bytes-more s t before more =
    let e = ap (sum_by (λ (r : DataLine). r.bytes)) (ranges-more s t before more)
    ∙ sum_by-append (λ (r : DataLine). r.bytes) (ranges s t before) (ranges s t more) in
    omega (arith, e)
