-- What several proofs of this crate name, by where it stands.
pub use Rattle.std.proofs.Common.{◌≡◌, ℕ, ◌+◌, ◌*◌, ◌<◌, ◌≤◌, Bool, true, false, not, cond, eqb, ltb, leb, List, [], ◌∷◌, ◌++◌, length, get_or, set, Option, Some, None, refl, sym, ap, ◌∙◌, subst, inl, inr, arith, append-nil, ◌/◌, ◌||◌, ◌⊎◌, zero-add, add-zero, mul_assoc, append_assoc, ◌&&◌, zero, suc, count_by, take, ◌^◌, max, sum_by, length-append, rules}
pub use Rattle.std.proofs.Math.Nat.{mul-le-mul_right, mul_comm, add-mul, le-mul_of_pos_right, mul-le-mul_left, le_of_mul-le-mul_right}
pub use Rattle.std.proofs.lemmas.Bool.{cases_lt, cases_eq, eqb-true, ltb-true, ltb-false, leb-true, leb-false, and_right}
pub use Rattle.std.proofs.lemmas.Bool.Decides.{nat_tests, leb_tells}
pub use Rattle.std.proofs.lemmas.Grind.{div_ceil_times}
pub use Rattle.std.proofs.lemmas.List.{get_or-set_same, get_or-set_other, get_or_default, length-set, get_or_push, length_push}
pub use Rattle.std.proofs.lemmas.List.Elements.{All-head, All-tail, All-filter, All-from_recursion, recursion_from_All, All-nil, All-cons, All-push, All-weaker, All-set}
pub use Rattle.std.proofs.lemmas.List.Sums.{sum_by-cons, sum_by-append, sum_by_push, count_by-le-length}
pub use Rattle.std.specs.List.{All, AllByRecursion}
pub use Rattle.std.specs.Option.{MatchOption, IfSome}
pub use Rattle.tva_base.specs.Clock.{router_second}
unfoldable pub use Rattle.tva_base.specs.Credit.{credit_of}
pub use Rattle.tva_base.specs.declared.packet.Flow.{Flow}
pub use Rattle.tva_base.specs.declared.packet.Grant.{Grant}
pub use Rattle.tva_base.specs.declared.packet.Rights.{Rights}
pub use Rattle.tva_flow.specs.Budget.{IsWithinSeconds, AreTimely, IsWithinBudget}
pub use Rattle.tva_flow.specs.Charges.{Charge, charge, end_of, run, bytes_of, of_flow, living_count, is_living, restarts, same_flow, same_grant, bytes_under, last_or, last_charge, lives, holder, used, has_flow, flows}
unfoldable pub use Rattle.tva_flow.specs.Hash.{bucket_of}
pub use Rattle.tva_flow.specs.Index.{AreIndexed, IsUpTo, AreNoLater, Kept, kept}
pub use Rattle.tva_flow.specs.Places.{AreShown, IsPlaceOf, IsShown}
pub use Rattle.tva_flow.specs.Stands.{IsChargeable, cache, entry_of, IsKept, StandsFor, NoChargeLater, IsNext, AreNext, Holds, AreApart, Cache}
pub use Rattle.tva_flow.specs.Steps.{blocks, counted, living_verdict, held_verdict, opening_verdict, renewed, opened, Admits, IsNear, AreNear, entry}
pub use Rattle.tva_flow.specs.Verdicts.{is_authorised, IsAuthorised, supersedes, nonce_rows, charged}
unfoldable pub use Rattle.tva_flow.specs.Verdicts.{list_verdict, nonce_verdict}
pub use Rattle.tva_flow.specs.declared.kept.Entry.{Entry}
pub use Rattle.tva_flow.specs.declared.verdicts.Verdict.{Verdict}
pub use Rattle.tva_flow.specs.declared.verdicts.Verdict.TheVariants.{Authorised, Expired, OverN, UnknownNonce, CacheFull, Superseded}
pub use Rattle.tva_index.proofs.Chains.{rank, rank-le}
pub use Rattle.tva_index.specs.Lowest.{IsLeastPlace}
