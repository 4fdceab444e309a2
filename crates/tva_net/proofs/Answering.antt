-- What the answers of a network say.
use Rattle.tva_net.proofs.Common.{Vec, Global, Result, Ok, Err, IfOk, IfErr, ◌≡◌, ℕ, ◌+◌, ◌<◌, ◌≤◌, List, ◌++◌, length, Some, None, refl, sym, subst, ◌∙◌, ap, arith, length-append, Event, Totals, Config, Row, totals_of, Window, given, AreWithin, HasGiven, NetState, WorksFor, CanWork, WorksUpTo}
use Rattle.tva_net.specs.Steps.{Gives, GoesOn, HasEnded, IsSound, PassesLimit, Refuses, StandsFor}
use Rattle.tva_net.specs.declared.kinds.NetError.{NetError}
use Rattle.tva_net.specs.declared.kinds.NetError.TheVariants.{EventLimit}
use Rattle.tva_net.specs.declared.kinds.Window as answers
use Rattle.tva_net.specs.declared.kinds.Window.TheVariants.{Events}
use Rattle.tva_net.proofs.Given.{if_some_is}

works_of : (config : Config) (rows : List Row) (windows : List Window) (told : List Event) (net : NetState) → StandsFor config rows windows told net → WorksFor config rows windows told net.work
works_of config rows windows told net h = record { way = h.tells.way; kept = h.kept }

pub can_of : (net : NetState) → IsSound net → net.failed ≡ None → CanWork net.work
can_of net s e = let (config, rows, windows, told, h) = s e in (config, rows, windows, told, works_of config rows windows told net h)

total_events : (told : List Event) → (totals_of told).events ≡ length told
unfolding totals_of
total_events told = refl

pub given_events : (config : Config) (told : List Event) (limit : ℕ) (totals : Totals) → HasGiven config told limit totals → totals.events ≡ length told
given_events config told limit totals g = ap (λ (t : Totals). t.events) g.sums ∙ total_events told

-- there is room for as many as may still come
pub has_room : (net : NetState) → IsSound net → net.failed ≡ None → (net.totals.events ≤ net.limit) × (net.limit ≤ 4000000) × AreWithin net.totals
has_room net s e =
    let (config, rows, windows, told, h) = s e in
    let g = h.tells.given in
    let most = h.tells.way.valid.max_events.1 in
    (omega (arith, given_events config told net.limit net.totals g, g.few, g.most), omega (arith, g.most, most), g.within)

module _ (config : Config) (rows : List Row) (windows : List Window) (told : List Event) (old new : NetState) (h : StandsFor config rows windows told old) where
  pub goes_on : (list : List Event) → WorksUpTo old.work (Some list) new.work → new.limit ≡ old.limit → new.failed ≡ None → old.totals.events + length list ≤ old.limit → AreWithin new.totals
      → ((before : List Event) → old.totals ≡ totals_of before → new.totals ≡ totals_of (before ++ list)) → (0 < length list) × GoesOn config rows windows told list new
  goes_on list works limit sound room within sums =
      let a = works.1 config rows windows told (works_of config rows windows told old h) in
      let g = h.tells.given in (
        works.0,
        record {
          more = a.more;
          stands = record {
            tells = record {
              way = a.works.way;
              given = record {
                most = limit ∙ g.most;
                few = omega (arith, length-append told list, given_events config told old.limit old.totals g, room, g.most);
                sums = sums told g.sums;
                within = within;
              };
              sound = sound;
            };
            kept = a.works.kept;
          };
          given = a.given ∙ ap (λ (xss : List (List Event)). given told windows ++ xss) (if_some_is list works.0);
        },
      )

  pub has_ended : WorksUpTo old.work None new.work → new.limit ≡ old.limit → new.totals ≡ old.totals → new.failed ≡ None → HasEnded config rows windows told new
  has_ended works limit totals sound =
      let a = works config rows windows told (works_of config rows windows told old h) in
      record {
        more = a.0.more;
        stands = record {
          tells = record {
            way = a.0.works.way;
            given = subst (HasGiven config told new.limit) (sym totals) (subst (λ (n : ℕ). HasGiven config told n old.totals) (sym limit) h.tells.given);
            sound = sound;
          };
          kept = a.0.works.kept;
        };
        given = a.0.given;
        whole = a.1;
      }

  pub passes_limit : (list : List Event) → WorksUpTo old.work (Some list) new.work → old.limit < old.totals.events + length list → PassesLimit config rows windows told new
  passes_limit list works many =
      let a = works.1 config rows windows told (works_of config rows windows told old h) in
      let g = h.tells.given in
      record {
        more = a.more;
        list = list;
        run = a.works.way.run;
        given = a.given ∙ ap (λ (xss : List (List Event)). given told windows ++ xss) (if_some_is list works.0);
        many = omega (arith, length-append told list, given_events config told old.limit old.totals g, many, g.most);
      }

-- ## what a call answers

-- what giving a window's events leaves, where they are given
abbrev pub IsGiven : NetState → Vec Event Global → NetState → answers.Window → Type 0
IsGiven old events new window =
    (window ≡ Events events) × (new.failed ≡ None) × (old.totals.events + length events.items ≤ old.limit) × AreWithin new.totals
    × ((told : List Event) → old.totals ≡ totals_of told → new.totals ≡ totals_of (told ++ events.items))

-- and where they are too many
abbrev pub IsRefused : NetState → Vec Event Global → NetState → NetError → Type 0
IsRefused old events new error =
    (error ≡ EventLimit old.limit) × (new.failed ≡ Some error) × (old.limit < old.totals.events + length events.items) × (new.totals ≡ old.totals)

module _ (old new : NetState) (events : Vec Event Global) (works : WorksUpTo old.work (Some events.items) new.work) (limit : new.limit ≡ old.limit) where
  pub answer_gives : (r : Result answers.Window NetError) → IfOk r (IsGiven old events new)
      → IfOk r (λ window. (config : Config) (rows : List Row) (windows : List Window) (told : List Event) → StandsFor config rows windows told old → Gives config rows windows told window new)
  answer_gives (Ok window) g = λ config rows windows told h.
      subst (λ (a : answers.Window). Gives config rows windows told a new) (sym g.0) (goes_on config rows windows told old new h events.items works limit g.1 g.2 g.3 g.4)
  answer_gives (Err error) g = tt

  pub answer_refuses : (r : Result answers.Window NetError) → IfErr r (IsRefused old events new)
      → IfErr r (λ error. (config : Config) (rows : List Row) (windows : List Window) (told : List Event) → StandsFor config rows windows told old → Refuses config rows windows told error old new)
  answer_refuses (Ok window) g = tt
  answer_refuses (Err error) g = λ config rows windows told h.
      subst (λ (a : NetError). Refuses config rows windows told a old new) (sym g.0) (h.tells.given.most, g.3, passes_limit config rows windows told old new h events.items works g.2)

  pub answer_sound : (r : Result answers.Window NetError) → IsSound old → old.failed ≡ None → IfOk r (IsGiven old events new) → IfErr r (IsRefused old events new) → IsSound new
  answer_sound (Ok window) s none g f e =
      let (config, rows, windows, told, h) = s none in
      let on = (goes_on config rows windows told old new h events.items works limit g.1 g.2 g.3 g.4).1 in
      (config, rows, windows ++ on.more, told ++ events.items, on.stands)
  answer_sound (Err error) s none g f e = let no = sym e ∙ f.1 in absurd (cc)

pub ended_sound : (old new : NetState) → IsSound old → old.failed ≡ None → WorksUpTo old.work None new.work → new.limit ≡ old.limit → new.totals ≡ old.totals → new.failed ≡ None → IsSound new
ended_sound old new s none works limit totals sound e =
    let (config, rows, windows, told, h) = s none in
    let on = has_ended config rows windows told old new h works limit totals sound in
    (config, rows, windows ++ on.more, told, on.stands)
