-- A run that is worked window by window.
use Rattle.tva_audit.proofs.Common.{◌≡◌, ◌≤◌, ◌<◌, ◌-◌, Bool, true, false, cond, List, [], ◌∷◌, ◌++◌, length, All, Result, Ok, Err, refl, sym, ap, ◌∙◌, subst, arith, length-append, IfErr, IfOk, Global, Vec, All-from_recursion, recursion_from_All, Event, Totals, Config, Row, HasEvent, AreEventsTo, lines_of, totals_of, AreLines, IsCutShort, all_of, NetState, NetError, Comes, IsBehind}
use Rattle.tva_run.specs.Windows.{Window, given}
use Rattle.tva_run.proofs.Names.{events_named}
use Rattle.tva_net.specs.declared.kinds.NetError.TheVariants as error
use Rattle.tva_net.specs.declared.kinds.Window as answers
use Rattle.tva_net.specs.declared.kinds.Window.TheVariants as answer
use Rattle.tva_net.specs.Steps.{GoesOn, Gives, PassesLimit, Refuses, StandsFor}
use Rattle.tva_base.proofs.Each.{each-right}

pub All-right : {X : Type 0} (P : X → Type 0) (xs ys : List X) → All P (xs ++ ys) → All P ys
All-right P xs ys h = All-from_recursion P ys (each-right P xs ys (recursion_from_All P (xs ++ ys) h))

-- what holds of each of these events holds of each of those that are shown
pub each_shown : (P : Event → Type 0) (silent : Bool) (list : List Event) → All P list → All P (cond silent [] list)
each_shown P true list h = All-from_recursion P [] tt
each_shown P false list h = h

module _ (config : Config) (rows : List Row) where
  -- what the network gave is the run's
  pub events_to : (windows : List Window) (told : List Event) (net : NetState) → StandsFor config rows windows told net
      → AreEventsTo config rows net.work.worked_to told
  events_to windows told net s = record { logs = s.tells.way.run.logs; run = s.tells.way.run.run; events = s.tells.way.run.events }

  pub lines_to : (windows : List Window) (told : List Event) (net : NetState) → StandsFor config rows windows told net → AreLines config rows (lines_of config told)
  lines_to windows told net s = record { until = net.work.worked_to; told = told; events = events_to windows told net s; lines = refl }

  -- the network stands for the run, and this holds of what it gave but for these events, the last ones
  pub record IsAfoot (Holds : List Event → Type 0) (items : List Event) (net : NetState) : Type 0 where
    pub told : List Event
    pub behind : IsBehind config rows told items net
    pub holds : Holds told

  -- then this holds of them too, and this comes next
  pub record IsNext (Holds : List Event → Type 0) (step : Result answers.Window NetError) (before net : NetState) : Type 0 where
    pub told : List Event
    pub holds : Holds told
    pub lines : AreLines config rows (lines_of config told)
    pub comes : Comes config rows told step before net

  -- nothing was given yet
  pub begun : (Holds : List Event → Type 0) (items : List Event) (net : NetState) → items ≡ [] → StandsFor config rows [] [] net → Holds [] → IsAfoot Holds items net
  begun Holds items net none stands holds = record {
    told = [];
    behind = record { windows = []; stands = subst (λ (es : List Event). StandsFor config rows [] es net) (sym none) stands };
    holds = holds;
  }

  pub goes_on : (Holds Then : List Event → Type 0) (items list : List Event) (before net : NetState) (step : Result answers.Window NetError) → IsAfoot Holds items before → list ≡ items
      → ((rows : List Row) (told : List Event) → IsBehind config rows told list before → Comes config rows (told ++ list) step before net)
      → ((told : List Event) → Holds told → Then (told ++ list)) → IsNext Then step before net
  goes_on Holds Then items list before net step a same comes more =
      let behind = subst (λ (es : List Event). IsBehind config rows a.told es before) (sym same) a.behind in
      record {
        told = a.told ++ list;
        holds = more a.told a.holds;
        lines = lines_to behind.windows (a.told ++ list) before behind.stands;
        comes = comes rows a.told behind;
      }

  -- a window comes
  pub on : (Holds : List Event → Type 0) (step : Result answers.Window NetError) (before net : NetState) (next : Vec Event Global) → step ≡ Ok (answer.Events next) → IsNext Holds step before net
      → IsAfoot Holds next.items net × (net.limit - net.totals.events < before.limit - before.totals.events)
  on Holds step before net next is n =
      let c = subst (λ (s : Result answers.Window NetError). Comes config rows n.told s before net) is n.comes in
      (record { told = n.told; behind = c.0; holds = n.holds }, c.1)

  -- the nodes and links of the events are the configuration's
  pub named : (told list : List Event) (net : NetState) → IsBehind config rows told list net → All (HasEvent config) list
  named told list net b =
      All-right (HasEvent config) told list
      (events_named config rows net.work.worked_to (told ++ list) b.stands.tells.way.valid (events_to b.windows (told ++ list) net b.stands))

  -- each window that is given leaves room for fewer events
  fewer_left : (windows : List Window) (told list : List Event) (before net : NetState) → StandsFor config rows windows told before
      → GoesOn config rows windows told list net → 0 < length list → net.limit - net.totals.events < before.limit - before.totals.events
  unfolding totals_of
  fewer_left windows told list before net s g some =
      let first : before.totals.events ≡ length told = ap (λ (t : Totals). t.events) s.tells.given.sums in
      let last : net.totals.events ≡ length (told ++ list) = ap (λ (t : Totals). t.events) g.stands.tells.given.sums in
      let same : net.limit ≡ before.limit = g.stands.tells.given.most ∙ sym s.tells.given.most in
      let limit : net.limit ≡ config.max_events = g.stands.tells.given.most in
      let few : length (told ++ list) ≤ config.max_events = g.stands.tells.given.few in
      omega (arith, length-append told list)

  -- a window passes the number of events
  cut_short : (windows : List Window) (told : List Event) (before net : NetState) → StandsFor config rows windows told before
      → PassesLimit config rows windows told net → IsCutShort config rows (lines_of config told)
  cut_short windows told before net s p =
      let shown : List (List Event) = given told windows in
      let held : told ≡ all_of shown = sym s.tells.way.held in
      let all : AreEventsTo config rows net.work.worked_to (told ++ p.list) = record { logs = p.run.logs; run = p.run.run; events = p.run.events } in
      record {
        windows = windows ++ p.more;
        until = net.work.worked_to;
        first = p.run.begins;
        shown = shown;
        passing = p.list;
        events = subst (λ (es : List Event). AreEventsTo config rows net.work.worked_to (es ++ p.list)) held all;
        last = subst (λ (es : List Event). given (es ++ p.list) (windows ++ p.more) ≡ shown ++ p.list ∷ []) held p.given;
        few = subst (λ (es : List Event). length es ≤ config.max_events) held s.tells.given.few;
        more = subst (λ (es : List Event). config.max_events < length (es ++ p.list)) held p.many;
        lines = ap (lines_of config) held;
      }

  -- what the network answers
  pub comes : (told : List Event) (before net : NetState) (r : Result answers.Window NetError)
      → IfOk r (λ window. (config : Config) (rows : List Row) (windows : List Window) (told : List Event) → StandsFor config rows windows told before → Gives config rows windows told window net)
      → IfErr r (λ error. (config : Config) (rows : List Row) (windows : List Window) (told : List Event) → StandsFor config rows windows told before → Refuses config rows windows told error before net)
      → (windows : List Window) → StandsFor config rows windows told before → Comes config rows told r before net
  comes told before net (Ok (answer.Events next)) gives refuses windows s =
      let g = gives config rows windows told s in
      (record { windows = windows ++ g.1.more; stands = g.1.stands }, fewer_left windows told next.items before net s g.1 g.0)
  comes told before net (Ok answer.Ended) gives refuses windows s =
      let e = gives config rows windows told s in
      record { events = record { logs = e.whole.logs; run = e.whole.run; events = e.whole.events }; few = e.stands.tells.given.few; sums = e.stands.tells.given.sums }
  comes told before net (Err (error.EventLimit most)) gives refuses windows s =
      let r = refuses config rows windows told s in
      (r.0, cut_short windows told before net s r.2)
  comes told before net (Err error.OutOfMemory) gives refuses windows s = lines_to windows told before s
