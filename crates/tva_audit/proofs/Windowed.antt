-- An audit, window by window.
use Rattle.tva_audit.proofs.Common.{◌≡◌, ◌≤◌, ℕ, ◌+◌, false, List, [], ◌∷◌, ◌++◌, length, get_or, All, Option, None, Some, Result, Ok, Err, sym, ap, ◌∙◌, subst, arith, length-append, is_err, OnOk, AllocError, Global, Vec, length-map, length_push, All-append, All-from_recursion, All-map, IsLine, IsPrintable, Event, Totals, Config, IsConfig, Row, summary_of, text_of_event, text_of_totals, first_bad, report_lines, text_of, bad_ahead, first_difference, same_of_none, good_back, printable_made, lines_of, report_of, totals_of, HasReport, all_of, NetState, NetError, RouterSum, Audited, Same, Differs, AuditError, BadReport, EventLimit, OutOfMemory, HasSums, IsAudit, Follows, HasFollowed, Comes, HasHappened, AreReady, sums_among}
use Rattle.tva_lines.proofs.Printables.{event_printable}
use Rattle.tva_net.specs.declared.kinds.NetError.TheVariants as error
use Rattle.tva_net.specs.declared.kinds.Window.{Window}
use Rattle.tva_net.specs.declared.kinds.Window.TheVariants.{Ended}
use Rattle.tva_audit.specs.declared.followed.Followed.{Followed}
use Rattle.tva_audit.specs.Deciding.{IsDecided, refusal, told_by}
use Rattle.tva_audit.proofs.Tallied.{ready_by}
use Rattle.tva_audit.proofs.Texts.{lines_same, text_of_more, texts_of}
use Rattle.tva_audit.proofs.Told.{sums_same}
use Rattle.tva_audit.proofs.Worked.{IsAfoot, IsNext}

-- a bad line comes first
pub bad_first : (config : Config) (rows : List Row) (report : List ℕ) (bad : Option ℕ) (error : AuditError) → first_bad report ≡ bad
    → (first_bad report ≡ None → IsAudit config rows report (Err error)) → IsAudit config rows report (Err (refusal bad error))
bad_first config rows report None error is h = h is
bad_first config rows report (Some line) error is h = is

on_ok : {E : Type 0} {P : Type 0} (put : Result Unit E) → is_err put ≡ false → OnOk put P → P
on_ok (Ok x) e h = h
on_ok (Err error) e h = absurd (cc)

module _ (config : Config) (rows : List Row) (report : List ℕ) where
  at_error : (told : List Event) (before net : NetState) (e : NetError) → first_bad report ≡ None
      → Comes config rows told (Err e) before net → IsAudit config rows report (Err (told_by e))
  at_error told before net (error.EventLimit most) good c =
      (good, c.0, record { until = c.1.until; told = all_of c.1.shown ++ c.1.passing; events = c.1.events; more = c.1.more })
  at_error told before net error.OutOfMemory good c = good

  -- what a run is followed by, with the events that were told
  abbrev pub FollowedBy : Followed → List Event → Type 0
  FollowedBy f told = Follows config report told f

  -- what it came to, or there was no memory
  abbrev pub Came : Result Unit AllocError → Followed → List Event → Type 0
  Came r g told = HasFollowed config report told r g

  -- there is room in the tallies for the last events
  pub ready : (f : Followed) (items list : List Event) (net : NetState) → IsAfoot config rows (FollowedBy f) items net → list ≡ items → AreReady config (length list) f.tallies.items
  ready f items list net a same =
      let few : length (a.told ++ items) ≤ config.max_events = a.behind.stands.tells.given.few in
      let most : config.max_events ≤ 4000000 = a.behind.stands.tells.way.valid.max_events.1 in
      ready_by config a.told f.tallies.items (length list) a.holds.tallied (omega (arith, few, most, length-append a.told items, ap length same))

  -- there was memory
  pub kept : (r : Result Unit AllocError) (g : Followed) (step : Result Window NetError) (before net : NetState) → is_err r ≡ false
      → IsNext config rows (Came r g) step before net → IsNext config rows (FollowedBy g) step before net
  kept r g step before net ok n = record { told = n.told; holds = on_ok r ok n.holds.follows; lines = n.lines; comes = n.comes }

  -- there is room for one more than the events of the whole run
  pub few_events : (Holds : List Event → Type 0) (step : Result Window NetError) (before net : NetState) (totals : Totals) → step ≡ Ok Ended → totals ≡ net.totals → IsConfig config
      → IsNext config rows Holds step before net → totals.events ≤ 4000000
  unfolding totals_of
  few_events Holds step before net totals is same valid n =
      let c = subst (λ (s : Result Window NetError). Comes config rows n.told s before net) is n.comes in
      let events : totals.events ≡ length n.told = ap (λ (t : Totals). t.events) (same ∙ c.sums) in
      omega (arith, events, c.few, valid.max_events.1)

  -- the network comes to an error
  pub refused : (g : Followed) (step : Result Window NetError) (before net : NetState) (e : NetError) (error told : AuditError) → step ≡ Err e → error ≡ told_by e
      → told ≡ refusal (bad_ahead g.comparison.ahead) error → IsNext config rows (FollowedBy g) step before net → IsAudit config rows report (Err told)
  refused g step before net e error told is same first n =
      let c = subst (λ (s : Result Window NetError). Comes config rows n.told s before net) is n.comes in
      subst (λ (x : AuditError). IsAudit config rows report (Err x)) (sym (first ∙ ap (refusal (bad_ahead g.comparison.ahead)) same))
      (bad_first config rows report (bad_ahead g.comparison.ahead) (told_by e) n.holds.compares.bad (λ good. at_error n.told before net e good c))

  -- the network has ended
  module _ (told : List Event) (totals : Totals) (valid : IsConfig config) (ended : HasHappened config rows told totals) where
    abbrev pub all_lines : List (List ℕ)
    all_lines = texts_of config told ++ text_of_totals totals ∷ []

    whole_text : text_of all_lines ≡ report_of config told
    unfolding report_of
    whole_text =
        text_of_more (texts_of config told) (text_of_totals totals)
        ∙ ap (λ (t : List ℕ). t ++ summary_of totals) (lines_same config told)
        ∙ ap (λ (t : Totals). lines_of config told ++ summary_of t) ended.sums

    reports : HasReport config rows (text_of all_lines)
    reports = record { report = record { told = told; events = ended.events; whole = whole_text }; few = ended.few }

    has_sums : (sums : List RouterSum) → sums ≡ sums_among config told → HasSums config rows sums
    has_sums sums same = record {
      logs = ended.events.logs;
      run = ended.events.run;
      each = same ∙ sums_same config ended.events.logs told ended.events.events;
    }

    -- the lines of the run, cut out of its report
    lines_back : IsLine (text_of_totals totals) → report_lines (text_of all_lines) ≡ all_lines
    lines_back last =
        let Printable : List ℕ → Type 0 = λ line. All IsPrintable line in
        printable_made all_lines (All-append Printable (texts_of config told) (text_of_totals totals ∷ [])
        (All-map Printable (text_of_event config) told (λ n d k. event_printable config (get_or told n d) valid))
        (All-from_recursion Printable (text_of_totals totals ∷ []) (last.printable, tt)))

    decided : (result : Result Audited AuditError) → IsLine (text_of_totals totals)
        → IsDecided all_lines report (sums_among config told) result → IsAudit config rows report result
    decided (Ok (Differs f)) last d =
        (d.0, record { text = text_of all_lines; has = reports; first = ap (λ (ls : List (List ℕ)). first_difference ls (report_lines report)) (lines_back last) ∙ d.1 })
    decided (Ok (Same sums)) last d =
        let lines : all_lines ≡ report_lines report = same_of_none 1 all_lines (report_lines report) d.1 in
        let text : text_of all_lines ≡ report = ap text_of lines ∙ good_back report d.0 in
        (d.0, subst (HasReport config rows) text reports, has_sums sums.items d.2)
    decided (Err OutOfMemory) last d = d
    decided (Err (BadReport line)) last d = d
    decided (Err (EventLimit most)) last d = absurd d

    -- a report that is the run's has a line for each event, and the total line
    counted : (result : Result Audited AuditError) → IsDecided all_lines report (sums_among config told) result
        → (sums : Vec RouterSum Global) → result ≡ Ok (Same sums) → totals.events + 1 ≡ length (report_lines report)
    unfolding totals_of
    counted result d sums is =
        let same = subst (IsDecided all_lines report (sums_among config told)) is d in
        let lines : all_lines ≡ report_lines report = same_of_none 1 all_lines (report_lines report) same.1 in
        let events : totals.events ≡ length told = ap (λ (t : Totals). t.events) ended.sums in
        omega (arith, events, length-map told (text_of_event config), length_push (texts_of config told) (text_of_totals totals), ap length lines)

  -- the network has ended
  pub ends : (g : Followed) (step : Result Window NetError) (before net : NetState) (totals : Totals) (result : Result Audited AuditError) → step ≡ Ok Ended → totals ≡ net.totals
      → IsConfig config → IsLine (text_of_totals totals)
      → ((report : List ℕ) (told : List Event) → Follows config report told g → IsDecided (texts_of config told ++ text_of_totals totals ∷ []) report (sums_among config told) result)
      → IsNext config rows (FollowedBy g) step before net
      → IsAudit config rows report result × ((sums : Vec RouterSum Global) → result ≡ Ok (Same sums) → totals.events + 1 ≡ length (report_lines report))
  ends g step before net totals result is same valid last decides n =
      let c = subst (λ (s : Result Window NetError). Comes config rows n.told s before net) is n.comes in
      let ended = subst (HasHappened config rows n.told) (sym same) c in
      let d = decides report n.told n.holds in
      (decided n.told totals valid ended result last d, counted n.told totals valid ended result d)
