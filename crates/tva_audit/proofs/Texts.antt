-- The lines of events are lines of a report.
use Rattle.tva_audit.proofs.Common.{◌≡◌, ◌<◌, ℕ, ◌+◌, Bool, true, false, cond, List, [], ◌∷◌, ◌++◌, length, map, take, get_or, All, Option, None, is_some, Result, Ok, Err, sym, ap, ap₂, ◌∙◌, subst, append_assoc, append-nil, codes, OnOk, flat_map-append, map-append, take_more, All-append, All-from_recursion, All-map, IsLine, Event, Config, line_of, text_of_event, ended, first_bad, report_lines, text_of, Finding, first_difference, good_made, lines_made, lines_of}
use Rattle.std.proofs.lemmas.List.Folds.{flat_map-map}
use Rattle.tva_report.specs.Compared.{Compared, outcome}
use Rattle.tva_report.specs.Compared as compared
use Rattle.tva_report.proofs.Comparing.{outcome_kept}

pub ok_more : {E : Type 0} {P Q : Type 0} (r : Result Unit E) → (P → Q) → OnOk r P → OnOk r Q
ok_more (Ok x) f h = f h
ok_more (Err e) f h = tt

-- the texts of the lines that events have in a report, without their line feeds
abbrev pub texts_of : Config → List Event → List (List ℕ)
texts_of config told = map (text_of_event config) told

-- a text without a bad line that has these lines
pub record IsText (lines : List (List ℕ)) (text : List ℕ) : Type 0 where
  pub good : first_bad text ≡ None
  pub has : report_lines text ≡ lines

pub made : (lines : List (List ℕ)) → All IsLine lines → IsText lines (text_of lines)
made lines each = record { good = good_made lines each; has = lines_made lines each }

pub one_line : (line : List ℕ) → IsLine line → IsText (line ∷ []) (line ++ codes "\n")
one_line line is =
    let same : text_of (line ∷ []) ≡ line ++ 10 ∷ [] = append-nil (ended line) in
    subst (IsText (line ∷ [])) same (made (line ∷ []) (All-from_recursion IsLine (line ∷ []) (is, tt)))

pub lines_same : (config : Config) (list : List Event) → text_of (texts_of config list) ≡ lines_of config list
lines_same config list = flat_map-map ended (text_of_event config) list

pub lines_fit : (config : Config) (list : List Event) (text : List ℕ) → text ≡ lines_of config list → All (λ e. IsLine (text_of_event config e)) list → IsText (texts_of config list) text
lines_fit config list text same each =
    subst (IsText (texts_of config list)) (lines_same config list ∙ sym same) (made (texts_of config list) (All-map IsLine (text_of_event config) list each))

pub texts_more : (config : Config) (told list : List Event) → texts_of config (told ++ list) ≡ texts_of config told ++ texts_of config list
texts_more config told list = map-append (text_of_event config) told list

-- with one line more
pub text_of_more : (lines : List (List ℕ)) (line : List ℕ) → text_of (lines ++ line ∷ []) ≡ text_of lines ++ (line ++ codes "\n")
text_of_more lines line = flat_map-append ended lines (line ∷ []) ∙ ap (λ t. text_of lines ++ t) (append-nil (ended line))

-- one event more
pub put_more : (config : Config) (list : List Event) (i : ℕ) (d : Event) (old bytes new : List ℕ) → i < length list
    → old ≡ lines_of config (take i list) → bytes ≡ line_of config (get_or list i d) → new ≡ old ++ bytes → new ≡ lines_of config (take (i + 1) list)
put_more config list i d old bytes new below before line more =
    let e = get_or list i d in
    let all : lines_of config (take (i + 1) list) ≡ lines_of config (take i list) ++ line_of config e =
    ap (lines_of config) (take_more list i d below) ∙ flat_map-append (line_of config) (take i list) (e ∷ []) ∙ ap (λ (t : List ℕ). lines_of config (take i list) ++ t) (append-nil (line_of config e)) in
    more ∙ ap₂ ◌++◌ before line ∙ sym all

pub each_more : (config : Config) (list : List Event) (i : ℕ) (d : Event) → i < length list
    → All (λ x. IsLine (text_of_event config x)) (take i list) → IsLine (text_of_event config (get_or list i d)) → All (λ x. IsLine (text_of_event config x)) (take (i + 1) list)
each_more config list i d below before line =
    subst (All (λ x. IsLine (text_of_event config x))) (sym (take_more list i d below))
    (All-append (λ x. IsLine (text_of_event config x)) (take i list) (get_or list i d ∷ []) before (All-from_recursion (λ x. IsLine (text_of_event config x)) (get_or list i d ∷ []) (line, tt)))

-- ## compared with a report

-- the lines of these events are fed, or there is a difference already and none is
pub compares_more : (config : Config) (c d : Compared) (report : List ℕ) (told list : List Event) (text : List ℕ) (differs : Bool) → is_some c.wanted ≡ differs
    → IsText (texts_of config (cond differs [] list)) text
    → ((report : List ℕ) (fed : List (List ℕ)) → compared.StandsFor c report fed → compared.StandsFor d report (fed ++ report_lines text))
    → compared.StandsFor c report (texts_of config told) → compared.StandsFor d report (texts_of config (told ++ list))
compares_more config c d report told list text false none fits feeds stands =
    let all : texts_of config told ++ report_lines text ≡ texts_of config (told ++ list) =
    ap (λ (ls : List (List ℕ)). texts_of config told ++ ls) fits.has ∙ sym (texts_more config told list) in
    subst (compared.StandsFor d report) all (feeds report (texts_of config told) stands)
compares_more config c d report told list text true differs fits feeds stands =
    let fed = texts_of config told in
    let next = feeds report fed stands in
    record {
      bad = next.bad;
      same = λ good more.
          let First : List (List ℕ) → Option Finding = λ ls. first_difference ls (report_lines report) in
          let any : (m : List (List ℕ)) → First (fed ++ m) ≡ outcome c [] = λ m. stands.same good m ∙ outcome_kept c m [] differs in
          ap First (ap (λ (ls : List (List ℕ)). ls ++ more) (texts_more config told list) ∙ append_assoc fed (texts_of config list) more)
          ∙ any (texts_of config list ++ more) ∙ sym (any (report_lines text ++ more))
          ∙ ap First (sym (append_assoc fed (report_lines text) more)) ∙ next.same good more;
    }
