-- What the steps of a window ask and leave.
use Rattle.tva_net.proofs.Common.{Vec, Global, Result, Ok, Err, IfOk, Option, ◌≡◌, ℕ, ◌+◌, ◌<◌, ◌≤◌, min, List, [], ◌∷◌, ◌++◌, length, get_or, Some, None, All, refl, sym, subst, ◌∙◌, ap, arith, flat_map, AllByRecursion, AllZip, option_map, append-nil, append_assoc, recursion_from_All, Event, Time, Config, Row, Keeps, NodeState, Stands, unsent, begins_more, begins_same, log_at, Window, given, IsPostable, KeepsWork, HasNoNews, IsFirstTime, WorksFor, GrowsFrom, IsWholeRun, WorkState, AreQuietElsewhere, IsElsewhere, AddsNothing, AddsWindow, AddsWindows, AreWorked, CanGoTo, CanWork, EndsWindow, IsThrough, OfEachRun, WorksOn, WorksUpTo, if_some, AllZip-same, AllZip-long}
use Rattle.tva_net.proofs.Lists.{zip_more, zip_weaker}
use Rattle.tva_net.proofs.Standing.{start_few, start_later, start_within, whole_run}
use Rattle.tva_net.proofs.Windows as spans

-- ## what is kept

pub grows_same : (v : NodeState) → GrowsFrom v v
grows_same v = record { site = refl; events = begins_same v.events; sendings = begins_same v.sendings; keeps = refl }

grows_more : (u v w : NodeState) → GrowsFrom u v → GrowsFrom v w → GrowsFrom u w
grows_more u v w a b = record {
  site = b.site ∙ a.site;
  events = begins_more u.events v.events w.events a.events b.events;
  sendings = begins_more u.sendings v.sendings w.sendings a.sendings b.sendings;
  keeps = b.keeps ∙ a.keeps;
}

posted_grows : (old new : NodeState) → KeepsWork old new → GrowsFrom old new
posted_grows old new k = record { site = k.site; events = ([], k.events ∙ sym (append-nil old.events)); sendings = ([], k.sendings ∙ sym (append-nil old.sendings)); keeps = k.keeps }

pub told_same : (nodes : List NodeState) → AllZip GrowsFrom nodes nodes
told_same nodes = AllZip-same GrowsFrom grows_same nodes

pub told_more : (a b c : List NodeState) → AllZip GrowsFrom a b → AllZip GrowsFrom b c → AllZip GrowsFrom a c
told_more a b c h k = zip_more GrowsFrom grows_more a b c h k

pub told_kept : (olds news : List NodeState) → AllZip Keeps olds news → AllZip GrowsFrom olds news
told_kept olds news h = zip_weaker Keeps GrowsFrom (λ x y k. record { site = k.site; events = k.events; sendings = k.sendings; keeps = k.keeps }) olds news h

pub told_posted : (olds news : List NodeState) → AllZip KeepsWork olds news → AllZip GrowsFrom olds news
told_posted olds news h = zip_weaker KeepsWork GrowsFrom posted_grows olds news h

-- ## one window

module _ (w : WorkState) (until : ℕ) (e : EndsWindow w until) where
  pub all_stand : AllByRecursion Stands w.nodes
  all_stand = recursion_from_All Stands w.nodes (λ n d l. (log_at e.works.way.run.logs n, (e.works.kept.nodes n d l).stands))

  pub few : length w.nodes ≤ 1024
  few = let few = e.works.way.valid.few_nodes in let count = e.works.kept.count in omega (arith, few, count)

  pub reach : All (CanGoTo until) w.nodes
  reach n d l =
      let a = e.works.kept.nodes n d l in
      let from = a.worked_to in
      let same = a.horizon in
      let horizon = e.works.kept.horizon in
      let ends = e.ends in
      let later = start_later e.config e.rows e.windows e.told w e.works e.start e.first in
      let within = start_within e.config e.rows e.windows e.told w e.works e.start e.first in
      (omega (arith, from, later, within, ends, horizon), omega (arith, ends, horizon, same))

  module _ (mids : List NodeState) (through : AllByRecursion (IsThrough until) mids) (kept : AllZip Keeps w.nodes mids) where
    pub mids_stand : All Stands mids
    mids_stand = spans.mids_stand e.config e.rows e.windows e.told w e.works e.start e.first until e.ends mids through kept

    pub mids_numbered : (n : ℕ) (d : NodeState) → n < length mids → (get_or mids n d).site.number ≡ n
    mids_numbered = spans.mids_numbered e.config e.rows e.windows e.told w e.works e.start e.first until e.ends mids through kept

    pub postable : All (IsPostable w.horizon w.links mids) (flat_map unsent mids)
    postable = spans.postable e.config e.rows e.windows e.told w e.works e.start e.first until e.ends mids through kept

    pub mids_few : length mids ≤ 1024
    mids_few = omega (arith, few, AllZip-long Keeps w.nodes mids kept)

    -- nodes elsewhere have no news
    pub quiet_elsewhere : (places : List ℕ) → ((place : ℕ) (d : NodeState) → place < length mids → IsElsewhere places place → get_or mids place d ≡ get_or w.nodes place d) → AreQuietElsewhere mids places
    quiet_elsewhere places others = λ n d l out.
        subst HasNoNews (sym (others n d l out)) (e.works.kept.news n d (omega (arith, l, AllZip-long Keeps w.nodes mids kept)))

-- ## the next window

pub none_left : (w : WorkState) → IsFirstTime w.nodes None → WorksOn w None w
none_left w none = (refl, λ config rows windows told h. whole_run config rows windows told w h none)

pub window_works : (w : WorkState) (start : Time) (until : ℕ) (list : List Event) (new news : List NodeState) → CanWork w → IsFirstTime w.nodes (Some start) → until ≡ min (start.0 + w.span) (w.horizon + 1)
    → AreWorked until w.horizon w.links w.nodes list new → news ≡ new
    → WorksOn w (Some list) (record { horizon = w.horizon; links = w.links; span = w.span; nodes = news; worked_to = until })
window_works w start until list new news (config, rows, before, told, h) first ends worked same =
    let later = start_later config rows before told w h start first in
    let some = spans.some config rows before told w h start first until ends worked.mids worked.through worked.kept in
    subst (λ (vs : List NodeState). WorksOn w (Some list) (record { horizon = w.horizon; links = w.links; span = w.span; nodes = vs; worked_to = until })) (sym same) (
      omega (arith, later, some),
      omega (arith, ends),
      refl,
      λ config rows before told h. record {
        window = (start.0, until);
        works = spans.works_on config rows before told w h start first until ends worked.mids worked.through worked.kept new worked.mail list worked.told worked.quiet;
        given = spans.given_on config rows before told w h start first until ends worked.mids worked.through worked.kept list worked.told;
      },
    )

pub ends_window : (w : WorkState) (start : Time) (until : ℕ) → CanWork w → IsFirstTime w.nodes (Some start) → until ≡ min (start.0 + w.span) (w.horizon + 1) → EndsWindow w until
ends_window w start until (config, rows, before, told, h) first ends = record { config = config; rows = rows; windows = before; told = told; works = h; start = start; first = first; ends = ends }

pub room_in_time : (w : WorkState) (start : Time) → CanWork w → IsFirstTime w.nodes (Some start) → start.0 + w.span ≤ 3000000000000000
room_in_time w start (config, rows, before, told, h) first = start_few config rows before told w h start first

pub can_stand : (w : WorkState) → CanWork w → AllByRecursion Stands w.nodes
can_stand w (config, rows, before, told, h) = recursion_from_All Stands w.nodes (λ n d l. (log_at h.way.run.logs n, (h.kept.nodes n d l).stands))

-- ## several windows

module _ (config : Config) (rows : List Row) (windows : List Window) (told : List Event) where
  nothing_at : (w : WorkState) → WorksFor config rows windows told w → AddsNothing config rows windows told w
  nothing_at w h = record {
    more = [];
    works = subst (λ (ws : List Window). WorksFor config rows ws told w) (sym (append-nil windows)) h;
    given = ap (given told) (append-nil windows);
  }

  -- further windows behind such in which nothing happens
  windows_then : (mid new : WorkState) (list : List Event) (a : AddsNothing config rows windows told mid) → AddsWindows config rows (windows ++ a.more) told list new → AddsWindows config rows windows told list new
  windows_then mid new list a b =
      let same : (windows ++ a.more) ++ b.more ≡ windows ++ (a.more ++ b.more) = append_assoc windows a.more b.more in
      record {
        more = a.more ++ b.more;
        works = subst (λ (ws : List Window). WorksFor config rows ws (told ++ list) new) same b.works;
        given = ap (given (told ++ list)) (sym same) ∙ (b.given ∙ ap (λ (xss : List (List Event)). xss ++ if_some list) a.given);
      }

  some_then : (mid new : WorkState) (list : List Event) → AddsNothing config rows windows told mid → OfEachRun (λ config rows windows told. AddsWindow config rows windows told list new) mid → AddsWindows config rows windows told list new
  some_then mid new list a on =
      let b = on config rows (windows ++ a.more) told a.works in
      windows_then mid new list a (record { more = b.window ∷ []; works = b.works; given = b.given })

  nothing_then : (mid new : WorkState) → AddsNothing config rows windows told mid → OfEachRun (λ config rows windows told. AddsWindow config rows windows told [] new) mid → AddsNothing config rows windows told new
  nothing_then mid new a on =
      let m = some_then mid new [] a on in
      let quiet : told ++ [] ≡ told = append-nil told in
      record {
        more = m.more;
        works = subst (λ (es : List Event). WorksFor config rows (windows ++ m.more) es new) quiet m.works;
        given = ap (λ (es : List Event). given es (windows ++ m.more)) (sym quiet) ∙ (m.given ∙ append-nil (given told windows));
      }

  end_then : (mid new : WorkState) (a : AddsNothing config rows windows told mid) (b : AddsNothing config rows (windows ++ a.more) told new) → IsWholeRun config rows ((windows ++ a.more) ++ b.more) told new.nodes
      → (passed : AddsNothing config rows windows told new) × IsWholeRun config rows (windows ++ passed.more) told new.nodes
  end_then mid new a b whole =
      let same : (windows ++ a.more) ++ b.more ≡ windows ++ (a.more ++ b.more) = append_assoc windows a.more b.more in (
        record {
          more = a.more ++ b.more;
          works = subst (λ (ws : List Window). WorksFor config rows ws told new) same b.works;
          given = ap (given told) (sym same) ∙ (b.given ∙ a.given);
        },
        subst (λ (ws : List Window). IsWholeRun config rows ws told new.nodes) same whole,
      )

-- the windows before, in which nothing happens, and those that are worked then
nothing_first : (old mid new : WorkState) (some : Option (List Event)) → OfEachRun (λ config rows windows told. AddsNothing config rows windows told mid) old → WorksUpTo mid some new → WorksUpTo old some new
nothing_first old mid new None a b = λ config rows windows told h.
    let n = a config rows windows told h in
    let m = b config rows (windows ++ n.more) told n.works in
    end_then config rows windows told mid new n m.0 m.1
nothing_first old mid new (Some list) a b = (
  b.0,
  λ config rows windows told h. let n = a config rows windows told h in
      windows_then config rows windows told mid new list n (b.1 config rows (windows ++ n.more) told n.works),
)

pub first_then : {E : Type 0} (old mid new : WorkState) (r : Result (Option (Vec Event Global)) E) → OfEachRun (λ config rows windows told. AddsNothing config rows windows told mid) old
    → IfOk r (λ some. WorksUpTo mid (option_map (λ events. events.items) some) new) → IfOk r (λ some. WorksUpTo old (option_map (λ events. events.items) some) new)
first_then old mid new (Ok some) a b = nothing_first old mid new (option_map (λ events. events.items) some) a b
first_then old mid new (Err e) a b = tt

pub passes_none : (w : WorkState) → OfEachRun (λ config rows windows told. AddsNothing config rows windows told w) w
passes_none w config rows windows told h = nothing_at config rows windows told w h

pub passes_one : (old mid new : WorkState) (list : List Event) → list ≡ [] → OfEachRun (λ config rows windows told. AddsNothing config rows windows told mid) old → WorksOn mid (Some list) new
    → OfEachRun (λ config rows windows told. AddsNothing config rows windows told new) old
passes_one old mid new list empty a b config rows windows told h =
    nothing_then config rows windows told mid new (a config rows windows told h)
    (subst (λ (es : List Event). OfEachRun (λ config rows windows told. AddsWindow config rows windows told es new) mid) empty b.3)

pub passes_to_some : (old mid new : WorkState) (list : List Event) → 0 < length list → OfEachRun (λ config rows windows told. AddsNothing config rows windows told mid) old → WorksOn mid (Some list) new → WorksUpTo old (Some list) new
passes_to_some old mid new list some a b = (some, λ config rows windows told h. some_then config rows windows told mid new list (a config rows windows told h) b.3)

pub passes_to_none : (old mid new : WorkState) → OfEachRun (λ config rows windows told. AddsNothing config rows windows told mid) old → WorksOn mid None new → WorksUpTo old None new
passes_to_none old mid new a b =
    subst (λ (w : WorkState). WorksUpTo old None w) (sym b.0) (λ config rows windows told h.
    let n = a config rows windows told h in
    (n, subst (λ (w : WorkState). IsWholeRun config rows (windows ++ n.more) told w.nodes) b.0 (b.1 config rows (windows ++ n.more) told n.works)))

pub can_still : (old new : WorkState) (list : List Event) → CanWork old → WorksOn old (Some list) new → CanWork new
can_still old new list (config, rows, windows, told, h) b =
    let a = b.3 config rows windows told h in
    (config, rows, windows ++ a.window ∷ [], told ++ list, a.works)
