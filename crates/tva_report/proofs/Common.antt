-- What several proofs of this crate name, by where it stands.
pub use Rattle.std.proofs.Common.{◌≡◌, ℕ, ◌+◌, ◌≤◌, true, false, List, [], ◌∷◌, ◌++◌, map, cond, refl, sym, ◌∙◌, ap, arith, inl, inr, add-zero, zero-add, All, ◌<◌, Bool, length, get_or, zero, suc, not, Some, None, Option, MatchOption, is_some, append-nil, take, drop, add-one, append_assoc, ◌-◌, length-append, length-drop, ◌≢◌, ◌||◌, filter, subst, set, ◌*◌, ◌⊎◌, ◌^◌, rules}
pub use Rattle.std.proofs.lemmas.Bool.{cases_Bool, eqb-true, eq-eqb, le-ltb, leb-true, ltb-false, le-leb, ne_eqb, lt-ltb, ltb-true, eqb-false}
pub use Rattle.std.proofs.lemmas.List.{map-append, length-map, take_more, take_all}
pub use Rattle.std.proofs.lemmas.List.Elements.{All-cons, All-head, All-nil, All-tail, All-weaker, recursion_from_All, filter-append, All-map, filter_map-append}
pub use Rattle.std.proofs.lemmas.List.Folds.{list_any_none}
pub use Rattle.std.proofs.lemmas.List.Sums.{sum_by-cons, AllPass-from_list_all, take_while-cons, fails_before_first, list_all-from_AllPass, sum_by_push}
pub use Rattle.std.proofs.lemmas.Slice.Eq.{bytes_eq-Decides, starts_is}
pub use Rattle.std.specs.List.{list_any, list_all, position_from, position, position_or_len, AllByRecursion, onto_first}
pub use Rattle.std.specs.Prelude.{◌==◌, count_by, ◌&&◌, nat_le, nat_lt, slice_get, unwrap_or}
pub use Rattle.std.specs.Str.{bytes_eq}
pub use Rattle.tva_base.specs.Printable.{IsPrintable, IsLine}
pub use Rattle.tva_base.specs.declared.event.Event.{Event}
pub use Rattle.tva_report.specs.Ahead.{Ahead, IsNext, IsOver, bad_ahead, IsPast}
pub use Rattle.tva_report.specs.Charged.{boot_among, of_boot, charged_in, charges_in}
pub use Rattle.tva_report.specs.Compared.{AreLines, Compared, FitsLine, Leads, StandsFor, compared, found_there, outcome}
pub use Rattle.tva_report.specs.Differences.{first_difference, IsFirstDifference, difference_from, finding}
pub use Rattle.tva_report.specs.Lines.{first_bad, is_ended_line, is_line, is_printable, pieces, report_lines, ended, is_feed, without_feed, text_of}
pub use Rattle.tva_report.specs.Pairs.{firsts, with_sums}
pub use Rattle.tva_report.specs.Sums.{bytes_of_pair, charged_bytes, pair_of, pair_sums, same_pair, is_worse, limit_of, worst_from, worst_of}
pub use Rattle.tva_report.specs.Table.{add_to, pair_order, place_of, HasRoom, IsSound}
pub use Rattle.tva_report.specs.declared.charged.Charged.{Charged}
pub use Rattle.tva_report.specs.declared.pairs.Pair.{Pair}
